-- Tables of marks, and what a walk answers by them.
use Rattle.std.specs.Prelude.{◌≡◌, ℕ, ◌*◌, Bool, List, length, All, IsTrue}
use Rattle.icode.specs.Actions.{Step, StepFits, actions_of, steps_of_body, steps_of_stmt}
use Rattle.icode.specs.declared.program.Program.{Program}
use Rattle.icode.specs.Machine.{whole_lines}
use Rattle.icode.specs.Plain.{PlainBody, PlainProgram, PlainStmt}
use Rattle.icode.specs.Program.{plain_program}
use Rattle.code_check.specs.declared.live.Live.{Live}
use Rattle.code_check.specs.declared.mark_table.MarkTable.{MarkTable}
use Rattle.code_check.specs.declared.walk.Worker.{Worker}
use Rattle.code_check.specs.Live.{plain_live, plain_lives}
use Rattle.code_check.specs.Marks.{Marks, marks_after_all, processors_known, read_known, words_after_processors}
use Rattle.code_check.specs.Workers.{program_of}

abbrev pub marks_of : MarkTable → Marks
marks_of t = record { words = t.words.items; registers = t.registers.items }

-- a mark for each word and each register
pub record IsMarkTable (p : PlainProgram) (t : MarkTable) : Type 0 where
  pub words : length t.words.items ≡ 4 * whole_lines p.size p.line
  pub registers : length t.registers.items ≡ p.regs

-- all steps of a statement on the processor fit, and of statements
abbrev pub StmtFits : Worker → PlainStmt → List ℕ → Type 0
StmtFits worker stmt vs = All (StepFits (program_of worker)) (steps_of_stmt (program_of worker) stmt vs worker.proc)

abbrev pub BodyFits : Worker → PlainBody → List ℕ → Type 0
BodyFits worker body vs = All (StepFits (program_of worker)) (steps_of_body (program_of worker) body vs worker.proc)

abbrev pub live_steps : Worker → Live → List ℕ → List Step
live_steps worker stmt vs = steps_of_stmt (program_of worker) (plain_live stmt) vs worker.proc

abbrev pub lives_steps : Worker → List Live → List ℕ → List Step
lives_steps worker body vs = steps_of_body (program_of worker) (plain_lives body) vs worker.proc

-- the answer says whether the steps read what is known from this table on
abbrev pub Tells : Bool → PlainProgram → List Step → MarkTable → Type 0
Tells answer p steps table = answer ≡ read_known p.lanes (actions_of steps) (marks_of table)

-- and if so, the table is the one after them
abbrev pub MarksIf : Bool → PlainProgram → List Step → MarkTable → MarkTable → Type 0
MarksIf answer p steps before after =
    IsTrue answer → marks_of after ≡ marks_after_all p.lanes (actions_of steps) (marks_of before)

-- the same of a phase, where each processor begins with no register
abbrev pub PhaseTells : Program → ℕ → MarkTable → Bool → Type 0
PhaseTells program phase table answer =
    let p = plain_program program in answer ≡ processors_known p phase p.procs 0 table.words.items

abbrev pub PhaseMarksIf : Program → ℕ → MarkTable → MarkTable → Bool → Type 0
PhaseMarksIf program phase before after answer =
    let p = plain_program program in
    IsTrue answer → after.words.items ≡ words_after_processors p phase p.procs 0 before.words.items
