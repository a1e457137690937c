-- What is right for `exec`.
use Rattle.std.specs.Prelude.{◌≡◌, ℕ, List}
use Rattle.icode.specs.Plain.{PlainProgram}
use Rattle.schedules.specs.Schedule.{Plan as Turns}
use Rattle.runs.specs.Stream.{lines}
use Rattle.commands.specs.Listings.Listed.{loaded, result_of}
use Rattle.commands.specs.Input.Outcomes.{Outcomes}
use Rattle.commands.specs.Equations.Front.{Answer, Work, part, answered, by_front}
use Rattle.commands.specs.Equations.Works.{all, mapped, mapping}

-- a line for each vector, of what the listing's program leaves for it
abbrev pub IsExecText : PlainProgram → List (List ℕ) → List ℕ → Type 0
IsExecText program vectors text = text ≡ lines (result_of program) vectors

abbrev pub exec_answer : Turns → Answer
exec_answer schedule = answered (part 1048576) (loaded schedule)
    (λ (program : PlainProgram). mapped program.size program.modulus (IsExecText program))

abbrev pub exec_work : PlainProgram → Work
exec_work program = mapping all program.size program.modulus (IsExecText program)

abbrev pub exec_outcomes : Turns → Outcomes
exec_outcomes schedule = by_front (part 1048576) (loaded schedule) exec_work
