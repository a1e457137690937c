-- How many registers and operations the code of trees takes.
use Rattle.std.proofs.Common.{◌≡◌, ℕ, zero, suc, ◌+◌, ◌-◌, ◌*◌, ◌%◌, ◌≤◌, Bool, true, false, refl, arith, ap, ◌∙◌}
use Rattle.std.proofs.Common.{if◌then◌else◌, mul-zero, mul-le-mul_left}
use Rattle.std.proofs.Math.Nat.{mod-eq_of_lt}
use Rattle.std.specs.Prelude.{◌==◌, count_ones}
use lib.Count.{ones}
use Rattle.std.specs.Int.Bits.{and_zero_r}
use Rattle.matrix_meaning.specs.declared.Kind.{Kind}
use Rattle.matrix_meaning.specs.declared.Kind.TheVariants.{Dft, Wht, Idft}
use Rattle.matrix_meaning.specs.Kind.{entry_of, sign}
use Rattle.operators.specs.Sum.{sum_below}
use Rattle.ring_mod.specs.Residue.{power_mod}
use Rattle.ring_mod.proofs.Powers.{power_mod-zero}
use Rattle.tree_model.specs.Trees.{PlainTrees, single, tensor, trees_size}
use Rattle.tree_model.specs.declared.tree.Rule.{Rule}
use Rattle.tree_model.specs.declared.tree.Rule.TheVariants.{Gt, Ct, Split, Dim}
use Rattle.tree_model.specs.Breakdown.{Breakdown, leaf, node, size_of, AllowsLeaf, IsWellFormed}
use Rattle.tree_model.proofs.CostBounds.{sum_le_product}
use Rattle.tree_model.proofs.Sizes.{one_le_size_of}
use Rattle.tree_model.specs.KernelCosts.{CanMake, product_cost, products_cost, rule_cost, kernel_cost, trees_cost}

-- ---- products

pub sum_below-le : (n b : ℕ) (f : ℕ → ℕ) → ((i : ℕ) → f i ≤ b) → sum_below n f ≤ n * b
sum_below-le zero b f each = omega arith
sum_below-le (suc n) b f each = let rest = sum_below-le n b f each in let last = each n in omega arith

-- where the first is nothing
sum_below-less : (n : ℕ) (f : ℕ → ℕ) → ((i : ℕ) → f i ≤ 1) → f 0 ≡ 0 → sum_below n f ≤ n - 1
sum_below-less zero f each first = omega arith
sum_below-less (suc zero) f each first = omega (arith, first)
sum_below-less (suc (suc n)) f each first = let rest = sum_below-less (suc n) f each first in let last = each (suc n) in omega arith

price_pick : (a b : Bool) (minus : ℕ) → minus ≤ 1 → (if a then 0 else (if b then minus else 1)) ≤ 1
price_pick true b minus low = omega arith
price_pick false true minus low = low
price_pick false false minus low = omega arith

product-le : (m minus x : ℕ) → minus ≤ 1 → product_cost 1 m minus x ≤ 1
product-le m minus x low = price_pick (x == 1) (x == m - 1) minus low

products-le : (m minus : ℕ) (e : ℕ → ℕ → ℕ) (rows columns : ℕ) → minus ≤ 1 →
    products_cost 1 m minus e rows columns ≤ rows * columns
products-le m minus e rows columns low =
    sum_below-le rows columns (λ k. sum_below columns (λ l. product_cost 1 m minus (e k l))) (λ k.
    let row = sum_below-le columns 1 (λ l. product_cost 1 m minus (e k l)) (λ l. product-le m minus (e k l) low) in omega arith)

one-free : (m : ℕ) → product_cost 1 m 0 (1 % m) ≡ 0
one-free zero = refl
one-free (suc zero) = refl
one-free (suc (suc m)) = let one : 1 % suc (suc m) ≡ 1 = mod-eq_of_lt (omega arith) in ap (product_cost 1 (suc (suc m)) 0) one

-- the first column of a transform takes no product
column-free : (kind : Kind) (m d w k : ℕ) → AllowsLeaf kind d → product_cost 1 m 0 (entry_of kind m d w k 0) ≡ 0
unfolding ones
column-free Dft m d w k allowed = ap (λ e. product_cost 1 m 0 (power_mod m w e)) (mul-zero k) ∙ ap (product_cost 1 m 0) (power_mod-zero m w) ∙ one-free m
column-free Wht m d w k allowed = ap (λ c. product_cost 1 m 0 (sign m (count_ones c))) (and_zero_r k)
column-free Idft m d w k allowed = absurd allowed

entries-le : (kind : Kind) (m w d : ℕ) → AllowsLeaf kind d → products_cost 1 m 0 (entry_of kind m d w) d d ≤ d * (d - 1)
entries-le kind m w d allowed =
    sum_below-le d (d - 1) (λ k. sum_below d (λ l. product_cost 1 m 0 (entry_of kind m d w k l))) (λ k.
    sum_below-less d (λ l. product_cost 1 m 0 (entry_of kind m d w k l)) (λ l. product-le m 0 (entry_of kind m d w k l) (omega arith)) (column-free kind m d w k allowed))

rule-le : (m : ℕ) (rule : Rule) (r s w : ℕ) → rule_cost 1 m rule r s w ≤ r * s
rule-le m Gt r s w = omega arith
rule-le m Ct r s w = products-le m 1 (entry_of Dft m r w) r s (omega arith)
rule-le m Split r s w = omega arith
rule-le m Dim r s w = omega arith

-- ---- trees

-- the cost of a transform of n items by its definition, or less
abbrev IsFew : ℕ → ℕ → Type 0
IsFew n x = x + 2 * n ≤ 2 * (n * n)

leaf-few : (d x : ℕ) → x ≤ d * (d - 1) → IsFew d (d * (d - 1) + x)
leaf-few zero x h = omega (arith, h)
leaf-few (suc d) x h =
    let next : suc d - 1 + 1 ≡ suc d = omega arith in
    let square : suc d * (suc d - 1 + 1) ≡ suc d * suc d = ap (λ n. suc d * n) next in
    omega arith

node-few : (r s x y z : ℕ) → 2 ≤ r → 2 ≤ s → IsFew r x → IsFew s y → z ≤ r * s → IsFew (r * s) (s * x + r * y + z)
node-few r s x y z hr hs hx hy hz =
    let left : s * (x + 2 * r) ≤ s * (2 * (r * r)) = mul-le-mul_left s hx in
    let right : r * (y + 2 * s) ≤ r * (2 * (s * s)) = mul-le-mul_left r hy in
    let both : r * s * (r + s) ≤ r * s * (r * s) = mul-le-mul_left (r * s) (sum_le_product r s hr hs) in
    omega arith

tree-few : (m : ℕ) (kind : Kind) (t : Breakdown) (w : ℕ) → IsWellFormed kind t →
    IsFew (size_of t) (kernel_cost 1 m kind t w)
tree-few m kind (leaf d) w formed = leaf-few d (products_cost 1 m 0 (entry_of kind m d w) d d) (entries-le kind m w d formed)
tree-few m kind (node rule a b) w formed =
    node-few (size_of a) (size_of b) (kernel_cost 1 m kind a (power_mod m w (size_of b))) (kernel_cost 1 m kind b (power_mod m w (size_of a))) (rule_cost 1 m rule (size_of a) (size_of b) w)
    formed.0.left formed.0.right (tree-few m kind a (power_mod m w (size_of b)) formed.1) (tree-few m kind b (power_mod m w (size_of a)) formed.2) (rule-le m rule (size_of a) (size_of b) w)

-- ---- several dimensions

pub trees-positive : (m : ℕ) (trees : PlainTrees) → CanMake m trees → 1 ≤ trees_size trees
trees-positive m (single kind root tree) can = one_le_size_of kind tree can.0
trees-positive m (tensor kind root tree others) can =
    let more : size_of tree * 1 ≤ size_of tree * trees_size others = mul-le-mul_left (size_of tree) (trees-positive m others can.1) in
    omega (arith, one_le_size_of kind tree can.0.0)

sum_le_next : (r s : ℕ) → 1 ≤ r → 1 ≤ s → r + s ≤ r * s + 1
sum_le_next zero s hr hs = absurd (omega (arith, hr))
sum_le_next (suc r) s hr hs = let more : r * 1 ≤ r * s = mul-le-mul_left r hs in omega arith

product-few : (r s x y : ℕ) → 1 ≤ r → 1 ≤ s → IsFew r x → IsFew s y → IsFew (r * s) (s * x + r * y)
product-few r s x y hr hs hx hy =
    let left : s * (x + 2 * r) ≤ s * (2 * (r * r)) = mul-le-mul_left s hx in
    let right : r * (y + 2 * s) ≤ r * (2 * (s * s)) = mul-le-mul_left r hy in
    let both : r * s * (r + s) ≤ r * s * (r * s + 1) = mul-le-mul_left (r * s) (sum_le_next r s hr hs) in
    omega arith

trees-are-few : (m : ℕ) (trees : PlainTrees) → CanMake m trees → IsFew (trees_size trees) (trees_cost 1 m trees)
trees-are-few m (single kind root tree) can = tree-few m kind tree root can.0
trees-are-few m (tensor kind root tree others) can =
    product-few (size_of tree) (trees_size others) (kernel_cost 1 m kind tree root) (trees_cost 1 m others)
    (one_le_size_of kind tree can.0.0) (trees-positive m others can.1) (tree-few m kind tree root can.0.0) (trees-are-few m others can.1)

pub trees-few : (m : ℕ) (trees : PlainTrees) → CanMake m trees →
    trees_cost 1 m trees + trees_size trees ≤ 2 * (trees_size trees * trees_size trees)
trees-few m trees can = let few = trees-are-few m trees can in omega arith
