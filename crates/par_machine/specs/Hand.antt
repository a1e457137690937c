-- The action at a place.
use Rattle.std.specs.Prelude.{ℕ, List, Option, Some, None, take, slice_get}
use Rattle.icode.specs.declared.action.Action.{Action}
use Rattle.icode.specs.declared.action.Action.TheVariants.{Zero}
use Rattle.icode.specs.Plain.{PlainProgram, plain_op}
use Rattle.icode.specs.Actions.{Step, step_of, StepFits}
use Rattle.par_machine.specs.declared.cursor.Instruction.{Instruction}
use Rattle.par_machine.specs.declared.cursor.Instruction.TheVariants.{Act, Again}
use Rattle.par_machine.specs.Position.{Position}

-- the step of an instruction in a program, whose statements don't matter; the end of a loop has none
abbrev pub step_with : PlainProgram → List ℕ → ℕ → Option Instruction → Option Step
step_with p vs q None = None
step_with p vs q (Some (Act op depth)) = Some (step_of p (plain_op op) (take depth vs) q)
step_with p vs q (Some (Again start last depth)) = None

abbrev pub step_at : PlainProgram → List Instruction → ℕ → Position → Option Step
step_at p code q place = step_with p place.values q (slice_get code place.at)

abbrev pub action_of_step : Option Step → Action
action_of_step None = Zero 0
action_of_step (Some s) = s.action

-- there is a step, and it fits
abbrev pub Runs : PlainProgram → Option Step → Type 0
Runs p None = ⊥
Runs p (Some s) = StepFits p s
