-- What a machine is: a code, and a state of its run with store buffers.
use Rattle.icode.specs.Buffers.{Buffered}
use Rattle.icode.specs.Machine.{Code}

pub record Running : Type 0 where
  pub code : Code
  pub state : Buffered
