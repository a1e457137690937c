-- What an operation needs, and what it leaves.
use Rattle.std.specs.Prelude.{ℕ, ◌+◌, ◌<◌, ◌^◌, List, IsTrue}
use Rattle.icode.specs.declared.action.Action.{Action}
use Rattle.icode.specs.declared.action.Counts.{Counts}
use Rattle.icode.specs.declared.program.Op.{Op}
use Rattle.icode.specs.Actions.{Step, step_of}
use Rattle.icode.specs.Limits.{is_op_within}
use Rattle.icode.specs.Machine.{Local, effect}
use Rattle.icode.specs.Plain.{plain_op}
use Rattle.par_machine.specs.declared.header.Header.{Header}
use Rattle.par_machine.specs.Header.{header_of}

-- the operation's step, where these are the values of the open loops on this processor
abbrev pub step_by : Header → Op → List ℕ → ℕ → Step
step_by header op values proc = step_of (header_of header) (plain_op op) values proc

abbrev pub action_by : Header → Op → List ℕ → ℕ → Action
action_by header op values proc = (step_by header op values proc).action

-- it is within the limits, given how many loops are open
abbrev pub OpIsWithin : Header → Op → ℕ → Type 0
OpIsWithin header op depth = IsTrue (is_op_within header.shape.modulus (plain_op op) depth)

-- the memory and the registers after it
abbrev pub performed : Header → Op → List ℕ → ℕ → List ℕ → List ℕ → Local
performed header op values proc memory registers =
    effect header.shape.modulus header.shape.lanes (action_by header op values proc) (record { memory = memory; registers = registers })

-- each counter has room for n more
pub record HasRoom (n : ℕ) (counts : Counts) : Type 0 where
  pub operations : counts.operations + n < 2 ^ 64
  pub muls : counts.muls + n < 2 ^ 64
  pub loads : counts.loads + n < 2 ^ 64
  pub stores : counts.stores + n < 2 ^ 64
