-- What a machine is: a code, and a state of its run.
use Rattle.icode.specs.Machine.{Code, State}

pub record Running : Type 0 where
  pub code : Code
  pub state : State
