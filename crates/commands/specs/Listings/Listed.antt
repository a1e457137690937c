-- What a listing orders to run, for `exec`: its program, only where this passes the check.
use Rattle.std.specs.Prelude.{◌≡◌, ◌≢◌, ℕ, List, [], Ok, Err, Result, Vec}
use Rattle.std.proofs.Common.{Global}
use Rattle.icode.specs.Actions.{plain_code}
use Rattle.icode.specs.Machine.{results}
use Rattle.icode.specs.Plain.{PlainProgram}
use Rattle.grammar.specs.Grammar.{IsLost}
use Rattle.listing_text.specs.Texts.{is_listing}
use Rattle.code_check.specs.declared.fault.CheckFault.{CheckFault}
use Rattle.code_check.specs.declared.fault.CheckFault.TheVariants as check
use Rattle.code_check.specs.Refusals.{PassesCheck, IsCause, action_limit}
use Rattle.data_stream.specs.Parts.Part.{GivesPart}
use Rattle.data_stream.specs.declared.parts.RestFault.{RestFault}
use Rattle.schedules.specs.Schedule.{Plan as Turns}
use Rattle.spiral_words.specs.declared.statuses.status.Status.{Status}
use Rattle.spiral_words.specs.declared.statuses.status.Status.TheVariants.{ListingSyntax}
use Rattle.spiral_words.specs.Statuses.Fault.{status_of_check, status_of_part}
use Rattle.commands.specs.Input.Commands.{stranger, admitted}
use Rattle.commands.specs.Input.Stage.{Stage, given, ◌>>=◌}

-- the program whose listing the text is
abbrev pub listed : List ℕ → Stage PlainProgram
listed text (Ok program) = is_listing text program
listed text (Err status) = (line : ℕ) × IsLost is_listing text line × (status ≡ ListingSyntax line)

-- the program, if it is short enough, fits and shares no line
abbrev pub verified : PlainProgram → Stage PlainProgram
verified program (Ok passed) = PassesCheck action_limit program × (passed ≡ program)
verified program (Err status) = (fault : CheckFault) × (fault ≢ check.NoMemory) × IsCause action_limit program fault
    × (status ≡ status_of_check fault)

-- the program that a listing orders to run, whose processors are all that the schedule names
abbrev pub loaded : Turns → List ℕ → Stage PlainProgram
loaded schedule text = do
  program ← listed text
  passed ← verified program
  given (admitted (stranger schedule passed.procs) passed.procs passed)

-- what the program leaves in Y for the vector, which no schedule changes
abbrev pub result_of : PlainProgram → List ℕ → List ℕ
result_of program x = results (plain_code program) x []

-- What a call for the listing answers

-- the listing's text, by the bytes that were read; or why it is not read
abbrev pub GivesListing : List ℕ → Type 0 → ℕ → Result (Vec ℕ Global) Status → Type 0
GivesListing read ended taken (Ok text) = GivesPart 1048576 read ended 0 taken (Ok text)
GivesListing read ended taken (Err status) =
    (fault : RestFault) × (status ≡ status_of_part fault) × GivesPart 1048576 read ended 0 taken (Err fault)
