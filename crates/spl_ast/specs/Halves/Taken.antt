-- Formulas that were taken away from the end of a list.
use Rattle.std.specs.Prelude.{◌≡◌, ℕ, ◌≤◌, List, ◌++◌, length}
use Rattle.spl_ast.specs.Formula.{Formula}
use Rattle.spl_ast.specs.Halves.Balanced.{halved}

-- the last `count` of the old formulas are no longer there, and g is their sum in halves
pub record IsTakenFrom (count : ℕ) (old new : List Formula) (g : Formula) : Type 0 where
  pub taken : List Formula
  pub whole : old ≡ new ++ taken
  pub counted : length taken ≡ count
  pub sum : (depth : ℕ) → count ≤ depth → halved depth taken ≡ g
