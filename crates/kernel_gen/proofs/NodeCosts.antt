-- What kernels cost, by the costs of trees.
use Rattle.std.proofs.Common.{◌≡◌, ℕ, ◌+◌, ◌*◌, ◌-◌, ◌<◌, ◌≤◌, Bool, true, false, refl, sym, ap, ap₂, ◌∙◌, arith, zero}
use Rattle.std.proofs.Common.{suc, mul-le-mul_left}
use Rattle.std.specs.Prelude.{◌==◌, nat_le, if◌then◌else◌}
use Rattle.std.proofs.lemmas.Bool.Decides.{nat_tests}
use Rattle.matrix_meaning.specs.declared.Kind.TheVariants.{Dft}
use Rattle.matrix_meaning.specs.declared.Request.{Request}
use Rattle.ring_mod.specs.Residue.{power_mod}
use Rattle.ring_mod.proofs.Powers.{power_mod_of_power}
use Rattle.tree_model.specs.declared.tree.Rule.{Rule}
use Rattle.tree_model.specs.declared.tree.Rule.TheVariants.{Gt, Ct, Split, Dim}
use Rattle.tree_model.specs.Breakdown.{Breakdown, leaf, node, size_of, IsWellFormed}
use Rattle.tree_model.specs.Cost.{is_plain, is_kernel, cost_of, leaf_cost, node_root}
use Rattle.tree_model.specs.Cost as trees
use Rattle.tree_model.proofs.Sizes.{one_le_size_of}
use Rattle.tree_model.proofs.Splits.{div-product, below_product, other_below}
use Rattle.tree_model.specs.KernelCosts.{rule_cost, kernel_cost}

-- a kernel is short
pub kernel-short : (c : Request) (d : ℕ) → is_kernel c d ≡ true → nat_le d c.unroll ≡ true
kernel-short c d is = pick (nat_le d c.unroll) refl
  where
    pick : (b : Bool) → nat_le d c.unroll ≡ b → nat_le d c.unroll ≡ true
    pick true e = e
    pick false e = let no : is_kernel c d ≡ false = ap (λ b. if b then (if d == c.size then is_plain c else true) else false) e in absurd (let x = sym is ∙ no in cc)

-- so is a node inside it
kernel-part : (c : Request) (d e : ℕ) → is_kernel c d ≡ true → e < d → d ≤ c.size → is_kernel c e ≡ true
kernel-part c d e is less within =
    let short = kernel-short c d is in
    let shorter : nat_le e c.unroll ≡ true = grind (arith, nat_tests) in
    let inner : (e == c.size) ≡ false = grind (arith, nat_tests) in
    ap₂ (λ a b. if a then (if b then is_plain c else true) else false) shorter inner

factor-le : (d q n : ℕ) → d * q ≡ n → 0 < n → d ≤ n
factor-le d zero n whole some = absurd (omega arith)
factor-le d (suc q) n whole some = let more : d * 1 ≤ d * suc q = mul-le-mul_left d (omega arith) in omega arith

-- the root of a node, by how often its size goes into the request's
root-is : (c : Request) (d q : ℕ) → 0 < d → d * q ≡ c.size → node_root c d ≡ power_mod c.modulus c.root q
root-is c d q some whole = ap (power_mod c.modulus c.root) (div-product c.size d q some whole)

module _ (c : Request) where
  leaf-same : (d q : ℕ) → 0 < d → d * q ≡ c.size → is_kernel c d ≡ true →
      kernel_cost c.weight c.modulus c.kind (leaf d) (power_mod c.modulus c.root q) ≡ leaf_cost c d
  leaf-same d q some whole is =
      ap (λ n. d * (d - 1) + n)
      (ap (λ root. trees.products_cost c c.kind 0 root d d) (sym (root-is c d q some whole)))
      ∙ sym (ap (λ b. if b then d * (d - 1) + trees.products_cost c c.kind 0 (node_root c d) d d else d * d * (1 + c.weight)) (kernel-short c d is))

  rule-same : (rule : Rule) (r s q : ℕ) → 0 < r * s → r * s * q ≡ c.size → is_kernel c (r * s) ≡ true →
      rule_cost c.weight c.modulus rule r s (power_mod c.modulus c.root q) ≡ trees.rule_cost c rule r s
  rule-same Gt r s q some whole is = refl
  rule-same Split r s q some whole is = refl
  rule-same Dim r s q some whole is = refl
  rule-same Ct r s q some whole is =
      ap (λ root. trees.products_cost c Dft 1 root r s) (sym (root-is c (r * s) q some whole))
      ∙ sym (ap (λ b. if b then trees.products_cost c Dft 1 (node_root c (r * s)) r s else c.weight * (r * s)) is)

  -- the code of a tree costs what the tree costs
  pub cost-same : (t : Breakdown) (q : ℕ) → 0 < c.size → IsWellFormed c.kind t → size_of t * q ≡ c.size →
      is_kernel c (size_of t) ≡ true → kernel_cost c.weight c.modulus c.kind t (power_mod c.modulus c.root q)
      ≡ cost_of c t
  cost-same (leaf d) q some formed whole is = leaf-same d q (one_le_size_of c.kind (leaf d) formed) whole is
  cost-same (node rule a b) q some formed whole is =
      let r = size_of a in
      let s = size_of b in
      let left : 2 ≤ r = formed.0.left in
      let right : 2 ≤ s = formed.0.right in
      let whole_left : r * (q * s) ≡ c.size = omega arith in
      let whole_right : s * (q * r) ≡ c.size = omega arith in
      let within : r * s ≤ c.size = factor-le (r * s) q c.size whole some in
      let r_less : r < r * s = below_product (r * s) r s right refl (omega arith) in
      let s_less : s < r * s = other_below (r * s) r s left refl (omega arith) in
      let kernel_left = kernel-part c (r * s) r is r_less within in
      let kernel_right = kernel-part c (r * s) s is s_less within in
      ap₂ (λ x y. s * x + r * y + rule_cost c.weight c.modulus rule r s (power_mod c.modulus c.root q))
      (ap (kernel_cost c.weight c.modulus c.kind a) (power_mod_of_power c.modulus c.root q s) ∙ cost-same a (q * s) some formed.1 whole_left kernel_left)
      (ap (kernel_cost c.weight c.modulus c.kind b) (power_mod_of_power c.modulus c.root q r) ∙ cost-same b (q * r) some formed.2 whole_right kernel_right)
      ∙ ap (λ n. s * cost_of c a + r * cost_of c b + n) (rule-same rule r s q (omega arith) whole is)
