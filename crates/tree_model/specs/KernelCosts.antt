-- What the code of a tree costs, and which roots a tree's code may be made for.
use Rattle.std.specs.Prelude.{◌≡◌, ℕ, ◌+◌, ◌-◌, ◌*◌, ◌%◌, ◌==◌, if◌then◌else◌}
use Rattle.matrix_meaning.specs.declared.Kind.{Kind}
use Rattle.matrix_meaning.specs.declared.Kind.TheVariants.{Dft, Wht, Idft}
use Rattle.matrix_meaning.specs.Kind.{entry_of}
use Rattle.operators.specs.Sum.{sum_below}
use Rattle.ring_mod.specs.Residue.{power_mod}
use Rattle.tree_model.specs.declared.tree.Rule.{Rule}
use Rattle.tree_model.specs.declared.tree.Rule.TheVariants.{Gt, Ct, Split, Dim}
use Rattle.tree_model.specs.Breakdown.{Breakdown, leaf, node, size_of, IsWellFormed}
use Rattle.tree_model.specs.Trees.{PlainTrees, single, tensor, trees_size}

-- a root of the size of a transform
abbrev pub IsRoot : Kind → ℕ → ℕ → ℕ → Type 0
IsRoot Dft m n w = power_mod m w n ≡ 1 % m
IsRoot Wht m n w = Unit {0}
IsRoot Idft m n w = power_mod m w n ≡ 1 % m

-- a root that a rule may take apart: any for a leaf, and for other trees one of the tree's size
abbrev pub AllowsRoot : ℕ → ℕ → Kind → Breakdown → Type 0
AllowsRoot m root Wht t = Unit {0}
AllowsRoot m root Dft (leaf d) = Unit {0}
AllowsRoot m root Dft (node rule a b) = power_mod m root (size_of a * size_of b) ≡ 1 % m
AllowsRoot m root Idft (leaf d) = Unit {0}
AllowsRoot m root Idft (node rule a b) = power_mod m root (size_of a * size_of b) ≡ 1 % m

-- a product by x: by 1 it is nothing, by -1 it costs `minus`, and else `weight`
abbrev pub product_cost : ℕ → ℕ → ℕ → ℕ → ℕ
product_cost weight m minus x = if x == 1 then 0 else (if x == m - 1 then minus else weight)

-- the products by the entries in the first rows and columns of a matrix
abbrev pub products_cost : ℕ → ℕ → ℕ → (ℕ → ℕ → ℕ) → ℕ → ℕ → ℕ
products_cost weight m minus e rows columns = sum_below rows (λ k. sum_below columns (λ l. product_cost weight m minus (e k l)))

-- what a rule adds to its parts' costs: ct multiplies by its twiddles
abbrev pub rule_cost : ℕ → ℕ → Rule → ℕ → ℕ → ℕ → ℕ
rule_cost weight m Gt r s w = 0
rule_cost weight m Ct r s w = products_cost weight m 1 (entry_of Dft m r w) r s
rule_cost weight m Split r s w = 0
rule_cost weight m Dim r s w = 0

-- the cost of a tree's code for the root w, where a multiplication costs `weight`
abbrev pub kernel_cost : ℕ → ℕ → Kind → Breakdown → ℕ → ℕ
kernel_cost weight m kind (leaf d) w = d * (d - 1) + products_cost weight m 0 (entry_of kind m d w) d d
kernel_cost weight m kind (node rule a b) w =
    size_of b * kernel_cost weight m kind a (power_mod m w (size_of b)) + size_of a * kernel_cost weight m kind b (power_mod m w (size_of a)) + rule_cost weight m rule (size_of a) (size_of b) w

-- each tree is well-formed, and for a root that its rule may take apart
abbrev pub CanMake : ℕ → PlainTrees → Type 0
CanMake m (single kind root tree) = IsWellFormed kind tree × AllowsRoot m root kind tree
CanMake m (tensor kind root tree others) = (IsWellFormed kind tree × AllowsRoot m root kind tree) × CanMake m others

-- what it costs: the first tree for each place of the other dimensions, and the others for each place of the first
abbrev pub trees_cost : ℕ → ℕ → PlainTrees → ℕ
trees_cost weight m (single kind root tree) = kernel_cost weight m kind tree root
trees_cost weight m (tensor kind root tree others) =
    trees_size others * kernel_cost weight m kind tree root + size_of tree * trees_cost weight m others
