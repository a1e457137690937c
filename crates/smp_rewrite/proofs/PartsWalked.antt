-- The parts of a tree, whose walk goes on in them.
use Rattle.std.proofs.Common.{◌≡◌, sym, subst}
use Rattle.kernel_gen.specs.Nodes.{IsNodeTree}
use Rattle.kernel_gen.proofs.NodeTrees.{left_tree, right_tree}
use Rattle.matrix_meaning.specs.declared.Request.{Request}
use Rattle.smp_rewrite.specs.Walk.{left_part, left_request, right_part, right_request}
use Rattle.tree_model.specs.Breakdown.{Breakdown, leaf, node}

pub left_walked : (p : Request) (t : Breakdown) → IsNodeTree p t → IsNodeTree (left_request p t) (left_part t)
left_walked p (leaf d) h = h
left_walked p (node rule a b) h = left_tree p rule a b h

pub right_walked : (p : Request) (t : Breakdown) → IsNodeTree p t → IsNodeTree (right_request p t) (right_part t)
right_walked p (leaf d) h = h
right_walked p (node rule a b) h = right_tree p rule a b h

-- a tree is of the request that the walk hands down
pub walked_as : (p q : Request) (t u : Breakdown) → q ≡ p → u ≡ t → IsNodeTree p t → IsNodeTree q u
walked_as p q t u is same h =
    subst (λ (r : Request). IsNodeTree r u) (sym is) (subst (IsNodeTree p) (sym same) h)

-- ---- a longer work that does not go row by row
