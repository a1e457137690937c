-- The kernel of a tree.
use Rattle.std.specs.Prelude.{ℕ, ◌-◌, ◌*◌}
use Rattle.matrix_meaning.specs.declared.Kind.{Kind}
use Rattle.operators.specs.Identities.{turn}
use Rattle.matrix_meaning.specs.Kind.{entry_of}
use Rattle.operators.specs.Operator.{good_thomas_in, good_thomas_out}
use Rattle.operators.specs.Operator.{gather}
use Rattle.operators.specs.Sum.{list_below}
use Rattle.ring_mod.specs.Residue.{power_mod}
use Rattle.tree_model.specs.declared.tree.Rule.{Rule}
use Rattle.tree_model.specs.declared.tree.Rule.TheVariants.{Gt, Ct, Split, Dim}
use Rattle.tree_model.specs.Breakdown.{Breakdown, leaf, node, size_of}
use Rattle.tree_model.specs.Whole.{rooted_of}
use Rattle.matrix_meaning.specs.declared.Request.{Request}
use Rattle.tree_model.specs.Trees.{PlainTrees, single, tensor, trees_size}
use Rattle.kernel_gen.specs.Making.{Made, Maker, pick_make, then_make, rows_make, matrix_make, diagonal_make}

-- a piece on each of s columns of r inputs
abbrev pub columns_make : ℕ → ℕ → Maker → Maker
columns_make r s a = then_make (pick_make (turn s r)) (then_make (rows_make s r (λ _. a)) (pick_make (turn r s)))

-- a piece on row i of s inputs, and its outputs times the powers of w that the row has
abbrev pub twiddled_make : ℕ → ℕ → ℕ → Maker → ℕ → Maker
twiddled_make m s w b i = then_make b (diagonal_make m s (λ k. power_mod m w (i * k)))

-- two pieces, of sizes r and s, put together by a rule, for the root w
abbrev pub node_make : ℕ → Rule → ℕ → ℕ → ℕ → Maker → Maker → Maker
node_make m Gt r s w a b =
    then_make (pick_make (gather (r * s) (good_thomas_in r s))) (then_make (rows_make r s (λ _. b)) (then_make (columns_make r s a) (pick_make (gather (r * s) (good_thomas_out r s)))))
node_make m Ct r s w a b =
    then_make (pick_make (turn r s)) (then_make (rows_make r s (twiddled_make m s w b)) (columns_make r s a))
node_make m Split r s w a b = then_make (rows_make r s (λ _. b)) (columns_make r s a)
node_make m Dim r s w a b = then_make (rows_make r s (λ _. b)) (columns_make r s a)

-- the code of a tree for the root w, modulo m
abbrev pub tree_make : ℕ → Kind → Breakdown → ℕ → Maker
tree_make m kind (leaf d) w = matrix_make m (entry_of kind m d w) d
tree_make m kind (node rule a b) w =
    node_make m rule (size_of a) (size_of b) w (tree_make m kind a (power_mod m w (size_of b))) (tree_make m kind b (power_mod m w (size_of a)))

-- the code of a tree, with its inputs in the first registers
abbrev pub kernel_of : ℕ → Kind → Breakdown → ℕ → Made
kernel_of m kind t w = tree_make m kind t w (list_below (size_of t) (λ k. k)) (size_of t)

-- the code of trees, one for each dimension, as by split
abbrev pub trees_make : ℕ → PlainTrees → Maker
trees_make m (single kind root tree) = tree_make m kind tree root
trees_make m (tensor kind root tree others) =
    node_make m Split (size_of tree) (trees_size others) 1 (tree_make m kind tree root) (trees_make m others)

-- with its inputs in the first registers
abbrev pub trees_kernel : ℕ → PlainTrees → Made
trees_kernel m trees = trees_make m trees (list_below (trees_size trees) (λ k. k)) (trees_size trees)

-- the code of a tree for a node of the request's transform
abbrev pub node_kernel : Request → Breakdown → Made
node_kernel p t = trees_kernel p.modulus (rooted_of p t)
