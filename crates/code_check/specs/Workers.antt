-- What a walk's processor works on, and what code answers for one of its steps.
use Rattle.std.specs.Prelude.{◌≡◌, ℕ, List, None, Some, Result, MatchResult}
use Rattle.icode.specs.Actions.{Step}
use Rattle.icode.specs.Plain.{PlainProgram}
use Rattle.icode.specs.Program.{plain_program}
use Rattle.code_check.specs.declared.lines.LineUse.{LineUse}
use Rattle.code_check.specs.declared.walk.Offence.{Offence}
use Rattle.code_check.specs.declared.walk.Worker.{Worker}
use Rattle.code_check.specs.Uses.{noted}
use Rattle.code_check.specs.Walk.{judged}

abbrev pub program_of : Worker → PlainProgram
program_of worker = plain_program worker.program.now

-- a step of processor q is sound and the table has noted it, or this is what is wrong with it
abbrev pub AnswersStep : Result (Unit {0}) Offence → PlainProgram → ℕ → Step → List LineUse → List LineUse → Type 0
AnswersStep result p q s old new =
    MatchResult result (λ _. (judged p s ≡ None) × (new ≡ noted p q s old)) (λ offence. judged p s ≡ Some offence)
