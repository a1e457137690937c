use Rattle.std.proofs.Common.{◌+◌, ◌*◌}
use Rattle.tree_model.specs.Breakdown.{breakdown_of}
use Rattle.breakdown.proofs.Sizes.{nodes_of}
use Rattle.breakdown.proofs.+formula.Given as goal

-- a tree comes before its parts
abbrev pub decreases-formula : goal.decreases-formula
decreases-formula l = 2 * nodes_of (breakdown_of l.t.now)

abbrev pub decreases-node_formula : goal.decreases-node_formula
decreases-node_formula l = 2 * (nodes_of (breakdown_of l.a.now) + nodes_of (breakdown_of l.b.now)) + 1
