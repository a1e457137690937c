-- What a tree of one size costs is modest.
use Rattle.std.proofs.Common.{◌≡◌, ℕ, zero, suc, ◌+◌, ◌-◌, ◌*◌, ◌≤◌, ◌==◌, Bool, true, false, if◌then◌else◌, nat_le}
use Rattle.std.proofs.Common.{refl, arith}
use Rattle.std.proofs.Math.Nat.{mul-le-mul_right}
use Rattle.matrix_meaning.specs.declared.Kind.{Kind}
use Rattle.matrix_meaning.specs.declared.Kind.TheVariants.{Dft, Wht, Idft}
use Rattle.matrix_meaning.specs.declared.Request.{Request}
use Rattle.matrix_meaning.specs.Kind.{entry_of}
use Rattle.operators.specs.Sum.{sum_below}
use Rattle.tree_model.specs.declared.tree.Rule.{Rule}
use Rattle.tree_model.specs.declared.tree.Rule.TheVariants.{Ct}
use Rattle.tree_model.specs.Breakdown.{Breakdown, leaf, node, size_of, AllowsLeaf, IsWellFormed}
use Rattle.tree_model.specs.Cost.{IsModest, cost_of, is_kernel, leaf_cost, node_root, product_cost, products_cost}
use Rattle.tree_model.specs.Cost.{rule_cost}
use Rattle.tree_model.proofs.CostBounds.{modest_long, modest_node, modest_short}

sum_low : (n m : ℕ) (f : ℕ → ℕ) → ((k : ℕ) → f k ≤ m) → sum_below n f ≤ n * m
sum_low zero m f each = omega arith
sum_low (suc n) m f each =
    let rest = sum_low n m f each in
    let last = each n in
    let more : suc n * m ≡ n * m + m = omega arith in
    omega (arith, rest, last, more)

module _ (c : Request) (weight : c.weight ≤ 1000) where
  product_low : (minus x : ℕ) → minus ≤ 1000 → product_cost c minus x ≤ 1000
  product_low minus x low = of (x == 1) (x == c.modulus - 1)
    where
      of : (one other : Bool) → (if one then 0 else (if other then minus else c.weight)) ≤ 1000
      of true other = omega arith
      of false true = low
      of false false = weight

  products_low : (kind : Kind) (minus root rows columns : ℕ) → minus ≤ 1000 →
      products_cost c kind minus root rows columns ≤ 1000 * (rows * columns)
  products_low kind minus root rows columns low =
      let all : products_cost c kind minus root rows columns ≤ rows * (columns * 1000) =
      sum_low rows (columns * 1000) _
      (λ k. sum_low columns 1000 _ (λ l. product_low minus (entry_of kind c.modulus rows root k l) low)) in
      omega (arith, all)

  leaf_modest : (d : ℕ) → 1 ≤ d → IsModest d (leaf_cost c d)
  leaf_modest d low = of (nat_le d c.unroll)
    where
      of : (short : Bool) → IsModest d
          (if short then d * (d - 1) + products_cost c c.kind 0 (node_root c d) d d else d * d * (1 + c.weight))
      of true = modest_short d _ _ low refl (products_low c.kind 0 (node_root c d) d d (omega arith))
      of false = modest_long d c.weight _ low weight refl

  rule_low : (rule : Rule) (r s : ℕ) → rule_cost c rule r s ≤ 1000 * (r * s)
  rule_low Ct r s = of (is_kernel c (r * s))
    where
      of : (short : Bool) →
          (if short then products_cost c Dft 1 (node_root c (r * s)) r s else c.weight * (r * s)) ≤ 1000 * (r * s)
      of true = products_low Dft 1 (node_root c (r * s)) r s (omega arith)
      of false = mul-le-mul_right (r * s) weight
  rule_low rule r s = omega arith

  leaf_low : (kind : Kind) (d : ℕ) → AllowsLeaf kind d → 1 ≤ d
  leaf_low Dft d h = h
  leaf_low Wht d h = h.0
  leaf_low Idft d h = absurd h

  pub tree_modest : (t : Breakdown) → IsWellFormed c.kind t → IsModest (size_of t) (cost_of c t)
  tree_modest (leaf d) h = leaf_modest d (leaf_low c.kind d h)
  tree_modest (node rule a b) h =
      modest_node (size_of a) (size_of b) (cost_of c a) (cost_of c b) (rule_cost c rule (size_of a) (size_of b))
      h.0.left h.0.right (tree_modest a h.1) (tree_modest b h.2) (rule_low rule (size_of a) (size_of b))
