-- An input whose first part ends with an empty line.
use Rattle.std.specs.Prelude.{◌≡◌, ◌⊎◌, ℕ, ◌+◌, ◌<◌, ◌≤◌, ◌==◌, ◌&&◌, ◌||◌, Bool, true, false, List, [], ◌∷◌, ◌++◌, length, Vec, Ok, Err, Result, if◌then◌else◌}
use Rattle.std.proofs.Common.{Global}
use Rattle.data_stream.specs.declared.parts.RestFault.{RestFault}
use Rattle.data_stream.specs.declared.parts.RestFault.TheVariants.{ReadFault, TooLong, NoMemory}

abbrev pub ends_line : ℕ → Bool
ends_line byte = byte == 10

-- whether a line of no byte is ended among the bytes, where a line begins with them or not
abbrev pub has_empty_line : Bool → List ℕ → Bool
has_empty_line begins [] = false
has_empty_line begins (byte ∷ bytes) = (begins && ends_line byte) || has_empty_line (ends_line byte) bytes

-- the lines before the first such line, and all bytes where there is none
abbrev pub before_empty_line : Bool → List ℕ → List ℕ
before_empty_line begins [] = []
before_empty_line begins (byte ∷ bytes) = if begins && ends_line byte then [] else byte ∷ before_empty_line (ends_line byte) bytes

-- what comes after that line
abbrev pub behind_empty_line : Bool → List ℕ → List ℕ
behind_empty_line begins [] = []
behind_empty_line begins (byte ∷ bytes) = if begins && ends_line byte then bytes else behind_empty_line (ends_line byte) bytes

-- the part before the first empty line of an input, and what comes after that line
abbrev pub first_part : List ℕ → List ℕ
first_part bytes = before_empty_line true bytes

abbrev pub second_part : List ℕ → List ℕ
second_part bytes = behind_empty_line true bytes

-- the first part has ended, by an empty line or with the input
abbrev pub HasPartEnded : List ℕ → Type 0 → Type 0
HasPartEnded bytes ended = (has_empty_line true bytes ≡ true) ⊎ ended

-- the bytes are of a first part that has not ended, and not too many
pub record IsInPart (most : ℕ) (bytes : List ℕ) : Type 0 where
  pub unended : has_empty_line true bytes ≡ false
  pub short : length bytes ≤ most

-- these bytes are the whole first part and its end, whatever follows, or, where the input has ended, as nothing follows
pub record IsWholePart (read : List ℕ) (ended : Type 0) (part : List ℕ) : Type 0 where
  pub end : HasPartEnded read ended
  pub parts : (more : List ℕ) → (ended → more ≡ []) → (first_part (read ++ more) ≡ part) × (second_part (read ++ more) ≡ more)

-- the answer to a request for the first part, by the bytes that were read, and how many were taken before and then
abbrev pub GivesPart : ℕ → List ℕ → Type 0 → ℕ → ℕ → Result (Vec ℕ Global) RestFault → Type 0
GivesPart most read ended before taken (Ok text) = (taken ≡ before + length read) × (length text.items ≤ most) × (length read ≤ length text.items + 1) × IsWholePart read ended text.items
GivesPart most read ended before taken (Err TooLong) = (length read ≤ most + 1) × ((more : List ℕ) → most < length (first_part (read ++ more)))
GivesPart most read ended before taken (Err ReadFault) = IsInPart most read
GivesPart most read ended before taken (Err NoMemory) = length read ≤ most + 1
