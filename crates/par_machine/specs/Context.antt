-- A processor's context: its place in the code, its registers, and what it has executed.
use Rattle.std.specs.Prelude.{ℕ, List}
use Rattle.icode.specs.declared.action.Counts.{Counts}
use Rattle.par_machine.specs.Position.{Position}

pub record Context : Type 0 where
  pub place : Position
  pub registers : List ℕ
  pub counts : Counts
