-- The rest of an input, which may have a number of bytes at most.
use Rattle.std.specs.Prelude.{◌≡◌, ℕ, ◌+◌, ◌≤◌, List, length, Vec, Ok, Err, Result}
use Rattle.std.proofs.Common.{Global}
use Rattle.data_stream.specs.declared.parts.RestFault.{RestFault}
use Rattle.data_stream.specs.declared.parts.RestFault.TheVariants.{ReadFault, TooLong, NoMemory}

-- the answer, by the bytes that were read: all of them, where the input has ended with them; one too many; or those before a fault
abbrev pub GivesRest : ℕ → List ℕ → Type 0 → Result (Vec ℕ Global) RestFault → Type 0
GivesRest most read ended (Ok text) = (text.items ≡ read) × ended × (length read ≤ most)
GivesRest most read ended (Err TooLong) = length read ≡ most + 1
GivesRest most read ended (Err ReadFault) = length read ≤ most
GivesRest most read ended (Err NoMemory) = length read ≤ most + 1
