-- What is known of a program's lists.
use Rattle.std.specs.Prelude.{◌≡◌, ℕ, ◌*◌, ◌^◌, ◌<◌, ◌≤◌, Some, length, slice_get}
use Rattle.icode.specs.declared.action.Action.{Action}
use Rattle.icode.specs.Actions.{RegistersFit, FactorsFit}
use Rattle.icode.specs.Buffers.{buffered_phases}
use Rattle.icode.specs.Machine.{Code, IsCode, acts, padded}
use Rattle.icode.specs.Operation.{AddressFits}

-- the action's registers, factors and address are there
pub record CanBeDone (code : Code) (a : Action) : Type 0 where
  pub named : RegistersFit code.regs code.lanes a
  pub factors : FactorsFit code.modulus a
  pub address : AddressFits code.lanes (4 * padded code) a

pub record IsGood (code : Code) : Type 0 where
  pub lists : IsCode code
  pub modulus : 0 < code.modulus
  pub procs : 0 < code.procs
  pub size : code.size ≤ padded code
  pub few : (phase q : ℕ) → q < code.procs → length (acts code phase q) < 2 ^ 59
  pub each : (phase q i : ℕ) (a : Action) → q < code.procs → slice_get (acts code phase q) i ≡ Some a → CanBeDone code a
  pub events : length (buffered_phases code (length code.lists) 0) < 2 ^ 60
