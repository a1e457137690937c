-- How many operations a tree costs.
use Rattle.std.specs.Prelude.{ℕ, ◌+◌, ◌-◌, ◌*◌, ◌/◌, ◌≤◌, ◌==◌, ◌&&◌, Bool, true, false, if◌then◌else◌, nat_le}
use Rattle.matrix_meaning.specs.declared.Kind.{Kind}
use Rattle.matrix_meaning.specs.declared.Kind.TheVariants.{Dft}
use Rattle.matrix_meaning.specs.declared.Request.{Request}
use Rattle.operators.specs.Sum.{sum_below}
use Rattle.ring_mod.specs.Residue.{power_mod}
use Rattle.matrix_meaning.specs.Kind.{entry_of}
use Rattle.tree_model.specs.declared.tree.Rule.{Rule}
use Rattle.tree_model.specs.declared.tree.Rule.TheVariants.{Ct}
use Rattle.tree_model.specs.Breakdown.{Breakdown, leaf, node, size_of}

-- one processor and one lane
abbrev pub is_plain : Request → Bool
is_plain c = c.procs == 1 && c.lanes == 1

-- A node of size d becomes straight-line code. The root does so only on one processor and one lane.
abbrev pub is_kernel : Request → ℕ → Bool
is_kernel c d = if nat_le d c.unroll then (if d == c.size then is_plain c else true) else false

-- one multiplication
abbrev pub mul_cost_of : Request → ℕ
mul_cost_of c = c.weight

-- the root of a node of size d
abbrev pub node_root : Request → ℕ → ℕ
node_root c d = power_mod c.modulus c.root (c.size / d)

-- a product by x: by 1 it is nothing, and by -1 it costs `minus`
abbrev pub product_cost : Request → ℕ → ℕ → ℕ
product_cost c minus x = if x == 1 then 0 else (if x == c.modulus - 1 then minus else mul_cost_of c)

-- the products by the entries in the first rows and columns of a matrix
abbrev pub products_cost : Request → Kind → ℕ → ℕ → ℕ → ℕ → ℕ
products_cost c kind minus root rows columns =
    sum_below rows (λ k. sum_below columns (λ l. product_cost c minus (entry_of kind c.modulus rows root k l)))

-- In straight-line code an entry -1 takes a subtraction in place of an addition. Longer leaves multiply by each entry.
abbrev pub leaf_cost : Request → ℕ → ℕ
leaf_cost c d =
    if nat_le d c.unroll then d * (d - 1) + products_cost c c.kind 0 (node_root c d) d d else d * d * (1 + mul_cost_of c)

-- what a rule adds to its parts' costs: ct multiplies by its twiddles
abbrev pub rule_cost : Request → Rule → ℕ → ℕ → ℕ
rule_cost c Ct r s =
    if is_kernel c (r * s) then products_cost c Dft 1 (node_root c (r * s)) r s else mul_cost_of c * (r * s)
rule_cost c rule r s = 0

-- s parts of size r and cost x, and r parts of size s and cost y
abbrev pub node_cost : Request → Rule → ℕ → ℕ → ℕ → ℕ → ℕ
node_cost c rule r s x y = s * x + r * y + rule_cost c rule r s

-- what a tree of one size costs
abbrev pub cost_of : Request → Breakdown → ℕ
cost_of c (leaf d) = leaf_cost c d
cost_of c (node rule a b) = node_cost c rule (size_of a) (size_of b) (cost_of c a) (cost_of c b)

-- a cost that a node of size d may have, where a multiplication costs at most 1000
abbrev pub IsModest : ℕ → ℕ → Type 0
IsModest d x = x + 1000 * d ≤ 2001 * (d * d)
