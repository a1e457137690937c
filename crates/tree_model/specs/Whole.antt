-- Trees of requests of one size or of several dimensions: at a dim the left part is of the request for the first dimension, and
-- the right part of that for the others.
use Rattle.std.specs.Prelude.{◌≡◌, ◌≢◌, ℕ, ◌*◌, ◌≤◌}
use Rattle.matrix_meaning.specs.declared.Dimensions.TheVariants.{One}
use Rattle.matrix_meaning.specs.declared.Kind.TheVariants.{Dft}
use Rattle.matrix_meaning.specs.declared.Request.{Request}
use Rattle.matrix_meaning.specs.Kind.{transform}
use Rattle.matrix_meaning.specs.Parts.{first_of, rest_of}
use Rattle.operators.specs.Operator.{Operator, on_blocks, on_columns}
use Rattle.tree_model.specs.declared.tree.Rule.{Rule}
use Rattle.tree_model.specs.declared.tree.Rule.TheVariants.{Dim}
use Rattle.tree_model.specs.Breakdown.{Breakdown, leaf, node, size_of, AllowsLeaf, AllowsRule}
use Rattle.tree_model.specs.Cost.{leaf_cost, node_cost, node_root}
use Rattle.tree_model.specs.Trees.{PlainTrees, single, tensor}

-- the request that the left part of a node is of
abbrev pub left_of : Rule → Request → Request
left_of Dim p = first_of p
left_of rule p = p

-- the request that the right part is of
abbrev pub right_of : Rule → Request → Request
right_of Dim p = rest_of p
right_of rule p = p

-- several dimensions are taken apart into the first one and the others
abbrev pub AllowsDim : Request → ℕ → ℕ → Type 0
AllowsDim p r s = (p.dimensions ≢ One) × (r ≡ (first_of p).size) × (s ≡ (rest_of p).size)

-- a rule that may take a node of the request apart into sizes r and s
abbrev pub AllowsRuleOf : Request → Rule → ℕ → ℕ → Type 0
AllowsRuleOf p Dim r s = AllowsDim p r s
AllowsRuleOf p rule r s = (p.dimensions ≡ One) × AllowsRule p.kind rule r s

-- a tree of the request, or of a node of it
abbrev pub IsTreeOf : Request → Breakdown → Type 0
IsTreeOf p (leaf d) = (p.dimensions ≡ One) × AllowsLeaf p.kind d
IsTreeOf p (node rule a b) =
    (2 ≤ size_of a) × (2 ≤ size_of b) × AllowsRuleOf p rule (size_of a) (size_of b)
    × IsTreeOf (left_of rule p) a × IsTreeOf (right_of rule p) b

-- what it costs
abbrev pub cost_in : Request → Breakdown → ℕ
cost_in p (leaf d) = leaf_cost p d
cost_in p (node rule a b) =
    node_cost p rule (size_of a) (size_of b) (cost_in (left_of rule p) a) (cost_in (right_of rule p) b)

-- a transform of one size by its root, at a node of a number of places
abbrev pub node_transform : Request → ℕ → Operator
node_transform p d = transform p.kind p.modulus d (node_root p d)

-- what a tree does to a list
abbrev pub node_on : Request → Breakdown → Operator
node_on p (node Dim a b) x =
    on_columns (size_of a) (size_of b) (node_on (first_of p) a) (on_blocks (size_of a) (size_of b) (node_on (rest_of p) b) x)
node_on p t x = node_transform p (size_of t) x

-- the tree with the root of its node
abbrev pub rooted_one : Request → Breakdown → PlainTrees
rooted_one p t = single p.kind (node_root p (size_of t)) t

-- trees of one size with the roots of their nodes, one for each dimension
abbrev pub rooted_of : Request → Breakdown → PlainTrees
rooted_of p (node Dim a b) = tensor Dft (first_of p).root a (rooted_of (rest_of p) b)
rooted_of p t = rooted_one p t
