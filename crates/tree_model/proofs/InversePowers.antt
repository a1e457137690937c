-- A power of the inverse root is 1, or -1, where that power of the root is.
use Rattle.std.proofs.Common.{◌≡◌, ℕ, zero, suc, ◌+◌, ◌-◌, ◌*◌, ◌%◌, ◌<◌, ◌≤◌, arith, sym, ap, ◌∙◌, mul_comm}
use Rattle.std.proofs.Math.Nat.{mod-eq_of_lt, mod_self, sub-zero, one-mul}
use Rattle.std.proofs.lemmas.Bool.Decides.{nat_tests}
use Rattle.matrix_meaning.specs.Kind.{inverse_root}
use Rattle.matrix_meaning.specs.declared.Request.{Request}
use Rattle.ring_mod.specs.Residue.{power_mod, negation_mod}
use Rattle.ring_mod.proofs.LastResidue.{last_times}
use Rattle.ring_mod.proofs.Powers.{power_mod_of_power, power_mod-add, power_mod-drop, power_mod-zero}
use Rattle.tree_model.specs.Cost.{product_cost}

-- ---- two residues whose product is 1

one-partner : (m x y : ℕ) → 2 ≤ m → y < m → (x * y) % m ≡ 1 % m → x ≡ 1 → y ≡ 1
one-partner m x y two below product is =
    sym (mod-eq_of_lt below)
    ∙ ap (λ z. z % m) (sym (one-mul y) ∙ ap (λ z. z * y) (sym is))
    ∙ product
    ∙ mod-eq_of_lt (omega (arith, two))

-- the one number below m + 1 that m exceeds by 1 modulo m
one-below : (m y : ℕ) → 2 ≤ m → y < m → negation_mod m y ≡ 1 → y ≡ m - 1
one-below m zero two below is = absurd (let none : (m - 0) % m ≡ 0 = ap (λ z. z % m) (sub-zero m) ∙ mod_self m in omega (arith, is, none))
one-below m (suc y) two below is =
    let small : (m - suc y) % m ≡ m - suc y = mod-eq_of_lt (omega (arith, two, below)) in
    omega (arith, is, small, below)

last-partner : (m x y : ℕ) → 2 ≤ m → y < m → (x * y) % m ≡ 1 % m → x ≡ m - 1 → y ≡ m - 1
last-partner m x y two below product is =
    one-below m y two below
    (sym (last_times m y (omega (arith, two)) (omega (arith, below)))
    ∙ ap (λ z. (z * y) % m) (sym is)
    ∙ product
    ∙ mod-eq_of_lt (omega (arith, two)))

module _ (c : Request) (minus : ℕ) where
  -- a product by either costs the same
  pub same-product : (x y : ℕ) → 2 ≤ c.modulus → x < c.modulus → y < c.modulus → (x * y) % c.modulus ≡ 1 % c.modulus →
      product_cost c minus x ≡ product_cost c minus y
  same-product x y two low high product =
      let turned : (y * x) % c.modulus ≡ 1 % c.modulus = ap (λ z. z % c.modulus) (mul_comm y x) ∙ product in
      let ones = one-partner c.modulus x y two high product in
      let ones' = one-partner c.modulus y x two low turned in
      let lasts = last-partner c.modulus x y two high product in
      let lasts' = last-partner c.modulus y x two low turned in
      grind (arith, nat_tests)

-- the powers of the inverse root and of the root times one another are 1
pub partners : (m n w e : ℕ) → 1 ≤ n → power_mod m w n ≡ 1 % m →
    (power_mod m (inverse_root m n w) e * power_mod m w e) % m ≡ 1 % m
partners m n w e some root =
    let parts : (n - 1) + 1 ≡ n = omega arith in
    let exponent : (n - 1) * e + e ≡ n * e + 0 = one-more (n - 1) ∙ ap (λ k. k * e + 0) parts in
    ap (λ z. (z * power_mod m w e) % m) (power_mod_of_power m w (n - 1) e)
    ∙ sym (power_mod-add m w ((n - 1) * e) e)
    ∙ ap (power_mod m w) exponent
    ∙ power_mod-drop m w n e 0 root
    ∙ power_mod-zero m w
  where
    one-more : (k : ℕ) → k * e + e ≡ (k + 1) * e + 0
    one-more k = omega arith
