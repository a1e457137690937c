-- Trees cost the same by the inverse root.
use Rattle.std.proofs.Common.{◌≡◌, ◌≢◌, ℕ, ◌+◌, ◌-◌, ◌*◌, ◌/◌, ◌≤◌, arith, refl, sym, ap, ap₂, ◌∙◌, if◌then◌else◌}
use Rattle.std.proofs.Common.{nat_le}
use Rattle.matrix_meaning.specs.Kind.{inverse_root}
use Rattle.matrix_meaning.specs.declared.Kind.TheVariants.{Dft, Wht}
use Rattle.matrix_meaning.specs.declared.Request.{Request}
use Rattle.matrix_meaning.specs.Valid.{IsValid}
use Rattle.operators.proofs.Sums.{sum_below-same}
use Rattle.ring_mod.specs.Residue.{power_mod}
use Rattle.ring_mod.proofs.Powers.{power_mod_of_power}
use Rattle.tree_model.specs.declared.tree.Rule.{Rule}
use Rattle.tree_model.specs.declared.tree.Rule.TheVariants.{Gt, Ct, Split, Dim}
use Rattle.tree_model.specs.Breakdown.{Breakdown, leaf, node, size_of}
use Rattle.tree_model.specs.Cost.{cost_of, is_kernel, leaf_cost, mul_cost_of, node_root, product_cost, products_cost}
use Rattle.tree_model.specs.Cost.{rule_cost}
use Rattle.matrix_meaning.specs.Parts.{inverted}
use Rattle.tree_model.specs.Inverses.{InverseCosts}
use Rattle.matrix_meaning.proofs.Requests.{power_below}
use Rattle.matrix_meaning.proofs.Roots.{root-is}
use Rattle.tree_model.proofs.InversePowers.{partners, same-product}

module _ (c : Request) (dft : c.kind ≡ Dft) (valid : IsValid c) where
  two : 2 ≤ c.modulus
  two = valid.in_range.modulus.0

  no_wht : c.kind ≢ Wht
  no_wht e = let clash : Dft ≡ Wht = sym dft ∙ e in cc

  -- a power of a node's inverse root costs as much as the one of its root
  power-same : (minus d e : ℕ) →
      product_cost c minus (power_mod c.modulus (node_root (inverted c) d) e)
      ≡ product_cost c minus (power_mod c.modulus (node_root c d) e)
  power-same minus d e =
      let q = c.size / d in
      let v = inverse_root c.modulus c.size c.root in
      ap (product_cost c minus) (power_mod_of_power c.modulus v q e)
      ∙ same-product c minus (power_mod c.modulus v (q * e)) (power_mod c.modulus c.root (q * e)) two
      (power_below c.modulus v (q * e) (omega (arith, two))) (power_below c.modulus c.root (q * e) (omega (arith, two)))
      (partners c.modulus c.size c.root (q * e) valid.in_range.size.0 (root-is c.kind c.modulus c.root c.size two no_wht valid.root))
      ∙ ap (product_cost c minus) (sym (power_mod_of_power c.modulus c.root q e))

  products-same : (minus d rows columns : ℕ) →
      products_cost (inverted c) Dft minus (node_root (inverted c) d) rows columns
      ≡ products_cost c Dft minus (node_root c d) rows columns
  products-same minus d rows columns =
      sum_below-same rows _ _ (λ k _. sum_below-same columns _ _ (λ l _. power-same minus d (k * l)))

  entries-same : (minus d rows columns : ℕ) →
      products_cost (inverted c) Dft minus (node_root (inverted c) d) rows columns
      ≡ products_cost c c.kind minus (node_root c d) rows columns
  entries-same minus d rows columns =
      products-same minus d rows columns ∙ ap (λ kind. products_cost c kind minus (node_root c d) rows columns) (sym dft)

  leaf-same : (d : ℕ) → leaf_cost (inverted c) d ≡ leaf_cost c d
  leaf-same d = ap (λ n. if nat_le d c.unroll then d * (d - 1) + n else d * d * (1 + mul_cost_of c)) (entries-same 0 d d d)

  rule-same : (rule : Rule) (r s : ℕ) → rule_cost (inverted c) rule r s ≡ rule_cost c rule r s
  rule-same Gt r s = refl
  rule-same Ct r s = ap (λ n. if is_kernel c (r * s) then n else mul_cost_of c * (r * s)) (products-same 1 (r * s) r s)
  rule-same Split r s = refl
  rule-same Dim r s = refl

  cost-same : (t : Breakdown) → cost_of (inverted c) t ≡ cost_of c t
  cost-same (leaf d) = leaf-same d
  cost-same (node rule a b) =
      ap₂ (λ x y. size_of b * x + size_of a * y + rule_cost (inverted c) rule (size_of a) (size_of b)) (cost-same a) (cost-same b)
      ∙ ap (λ n. size_of b * cost_of c a + size_of a * cost_of c b + n) (rule-same rule (size_of a) (size_of b))

pub inverse_costs : InverseCosts
inverse_costs c t dft valid = cost-same c dft valid t
