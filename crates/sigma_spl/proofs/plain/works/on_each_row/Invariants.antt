use Rattle.std.proofs.Common.{◌≡◌}
use Rattle.operators.specs.Operator.{on_blocks}
use Rattle.sigma_spl.specs.Plain.Copies.{alone}
use Rattle.tree_model.specs.Trees.{trees_on}
use Rattle.sigma_spl.proofs.plain.works.on_each_row.Given as goal

-- the rows so far
abbrev pub invariant-loop-i : goal.invariant-loop-i
invariant-loop-i l = l.out.items ≡ on_blocks l.i l.size (trees_on l.m (alone l.tree)) l.x
