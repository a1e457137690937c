use Rattle.std.proofs.Common.{◌≡◌, ◌+◌, ◌*◌}
use Rattle.operators.specs.Operator.{on_blocks}
use Rattle.sigma_spl.specs.Plain.Copies.{parts_in}
use Rattle.tree_model.specs.Breakdown.{breakdown_of}
use Rattle.tree_model.specs.Trees.{trees_on}
use Rattle.tree_model.specs.Whole.{rooted_of}
use Rattle.sigma_spl.proofs.plain.works.+node.Given as goal

-- the rows so far
abbrev pub invariant-on_rows-loop-i : goal.invariant-on_rows-loop-i
invariant-on_rows-loop-i l = l.out.items ≡ on_blocks l.i l.size (trees_on l.m (rooted_of l.p (breakdown_of l.tree))) l.x

-- a node comes before the rows of its part
abbrev pub decreases-node_times : goal.decreases-node_times
decreases-node_times l = 2 * parts_in (breakdown_of l.tree.now)

abbrev pub decreases-on_rows : goal.decreases-on_rows
decreases-on_rows l = 2 * parts_in (breakdown_of l.tree.now) + 1
