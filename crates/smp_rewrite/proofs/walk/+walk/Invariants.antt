use Rattle.std.proofs.Common.{◌+◌, ◌*◌}
use Rattle.spl_ast.specs.Formula.{parts_of}
use Rattle.smp_rewrite.proofs.walk.+walk.Given as goal

-- a tree's formula comes before those of its parts
abbrev pub decreases-add_tree : goal.decreases-add_tree
decreases-add_tree l = 2 * parts_of l.formula.now + 1

abbrev pub decreases-add_node : goal.decreases-add_node
decreases-add_node l = 2 * parts_of l.formula.now
