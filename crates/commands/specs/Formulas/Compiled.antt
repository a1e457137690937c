-- What the parts of a call for a formula answer.
use Rattle.std.specs.Prelude.{◌≡◌, ℕ, ◌+◌, ◌<◌, ◌≤◌, List, ◌++◌, length, Vec, Ok, Err, Result}
use Rattle.std.proofs.Common.{Global}
use Rattle.data_stream.specs.declared.parts.RestFault.{RestFault}
use Rattle.data_stream.specs.declared.parts.RestFault.TheVariants as rest
use Rattle.generate.specs.FormulaCode.Code.{IsCodeOf}
use Rattle.generate.specs.FormulaCode.Letters.{program_for}
use Rattle.icode.specs.Program.{plain_program}
use Rattle.icode.specs.declared.program.Program.{Program}
use Rattle.listing_text.specs.Listing.{listing_of}
use Rattle.spiral_words.specs.declared.statuses.status.Status.{Status}
use Rattle.spiral_words.specs.Statuses.Fault.{status_of_text}
use Rattle.spl_ast.specs.Formula.{Formula}
use Rattle.commands.specs.Equations.Formulas.{formed, written}
use Rattle.commands.specs.Equations.Front.{line, MayGoOn}
use Rattle.commands.specs.Input.Line.{IsWhole}

-- the answer to a request for the line, by the bytes that were read, and how many were taken
abbrev pub GivesText : List ℕ → Type 0 → ℕ → Result (Vec ℕ Global) RestFault → Type 0
GivesText read ended taken (Ok text) = (taken ≡ length read) × (length text.items ≤ 65536)
    × (length read ≤ length text.items + 1) × IsWhole (line 65536) read ended text.items
GivesText read ended taken (Err rest.TooLong) =
    (length read ≤ 65537) × ((more : List ℕ) → 65536 < length ((line 65536).first (read ++ more)))
GivesText read ended taken (Err rest.ReadFault) = MayGoOn (line 65536) read
GivesText read ended taken (Err rest.NoMemory) = length read ≤ 65537

-- the same, for a call that says why there is none
abbrev pub GivesFormula : List ℕ → Type 0 → ℕ → Result (Vec ℕ Global) Status → Type 0
GivesFormula read ended taken (Ok text) = GivesText read ended taken (Ok text)
GivesFormula read ended taken (Err status) =
    (fault : RestFault) × (status ≡ status_of_text fault) × GivesText read ended taken (Err fault)

-- the listing of the program for the formula that the text spells
abbrev pub IsCompiledText : ℕ → List ℕ → List ℕ → Type 0
IsCompiledText m text listing = (formula : Formula) × written text (Ok formula)
    × (listing ≡ listing_of (program_for m formula))

-- a program for the formula that the text spells, whose one processor is all that the names tell
abbrev pub IsFormedProgram : ℕ → List ℕ → List ℕ → Program → Type 0
IsFormedProgram m names text program =
    (formula : Formula) × formed names text (Ok formula) × IsCodeOf m formula (plain_program program)
