-- The laws of `inverse_mod`, and a step of Euclid on residues.
use Rattle.std.proofs.Common.{◌≡◌, ◌≢◌, ℕ, zero, suc, ◌+◌, ◌*◌, ◌/◌, ◌%◌, ◌<◌, ◌≤◌, arith, refl, sym, ap, ◌∙◌, subst}
use Rattle.std.proofs.Common.{mul_comm, mod-lt, mod-eq_of_lt, inl, inr}
use Rattle.std.specs.Prelude.{if◌then◌else◌}
use Rattle.std.specs.Int.{IsGcd}
use Rattle.std.proofs.Math.Nat.{div-add-mod', add-mul-mod_self_left, mul-add-mod_self_left, mul-one, mod-mod, mod-one}
use Rattle.std.proofs.lemmas.Bool.{cases_eq, eq-eqb, ne_eqb}
use Rattle.std.proofs.lemmas.Nat.{mul-mod_first}
use Rattle.std.proofs.lemmas.Nat.Gcd.{IsGcd-from_zero, IsGcd-swap, same_from_IsGcd}
use Rattle.ring_mod.specs.Inverse.{inverse_below, inverse_mod}
use Rattle.ring_mod.proofs.Bezout.{bezout}
use Rattle.ring_mod.proofs.Congruence.{same-add, same-mul}

-- what is added on both sides may be dropped
pub same-drop : (m a b c : ℕ) → 0 < m → (a + c) % m ≡ (b + c) % m → a % m ≡ b % m
same-drop zero a b c positive e = absurd (omega arith)
same-drop (suc q) a b c positive e =
    let left : (a + c) + q * c ≡ a + suc q * c = omega arith in
    let right : (b + c) + q * c ≡ b + suc q * c = omega arith in
    sym (ap (λ n. n % suc q) left ∙ add-mul-mod_self_left a (suc q) c)
    ∙ same-add (suc q) (a + c) (b + c) (q * c) (q * c) e refl
    ∙ ap (λ n. n % suc q) right ∙ add-mul-mod_self_left b (suc q) c

-- two inverses are one
inverses-same : (m a c d : ℕ) → c < m → d < m → (a * c) % m ≡ 1 % m → (a * d) % m ≡ 1 % m → c ≡ d
inverses-same m a c d c_in d_in p q =
    let turned : c * (a * d) ≡ d * (a * c) = omega arith in
    sym (mod-eq_of_lt c_in)
    ∙ sym (same-mul m c c (a * d) 1 refl q ∙ ap (λ n. n % m) (mul-one c))
    ∙ ap (λ n. n % m) turned
    ∙ same-mul m d d (a * c) 1 refl p ∙ ap (λ n. n % m) (mul-one d)
    ∙ mod-eq_of_lt d_in

inverse_below-is : (m a c n : ℕ) → c < n → n ≤ m → (a * c) % m ≡ 1 % m → inverse_below m a n ≡ c
unfolding inverse_below
inverse_below-is m a c zero below within e = absurd (omega arith)
inverse_below-is m a c (suc k) below within e =
    elim (cases_eq ((a * k) % m) (1 % m)) [
      | inl found ↦
          ap (λ b. if b then k else inverse_below m a k) (eq-eqb ((a * k) % m) (1 % m) found)
          ∙ inverses-same m a k c (omega arith) (omega arith) found e
      | inr other ↦
          let apart : k ≢ c = λ same. other (ap (λ n. (a * n) % m) same ∙ e) in
          ap (λ b. if b then k else inverse_below m a k) (ne_eqb ((a * k) % m) (1 % m) other)
          ∙ inverse_below-is m a c k (omega arith) (omega arith) e
    ]

pub inverse_mod-is : (m a c : ℕ) → c < m → (a * c) % m ≡ 1 % m → inverse_mod m a ≡ c
unfolding inverse_mod
inverse_mod-is m a c below e = inverse_below-is m a c m below (omega arith) e

-- a number that shares no factor with m has an inverse
some_inverse : (m a : ℕ) → 0 < m → IsGcd a m 1 → (c : ℕ) × (c < m) × ((a * c) % m ≡ 1 % m)
some_inverse m zero positive coprime =
    let one : m ≡ 1 = same_from_IsGcd m 0 m 1 (IsGcd-from_zero m 0 refl) (IsGcd-swap 0 m 1 coprime) in
    (0, positive, subst (λ n. (0 * 0) % n ≡ 1 % n) (sym one) (mod-one (0 * 0) ∙ sym (mod-one 1)))
some_inverse m (suc a) positive coprime = from_identity (bezout (suc a) m 1 (omega arith) coprime)
  where
    from_identity : (u : ℕ) × (v : ℕ) × (u * suc a ≡ v * m + 1) → (c : ℕ) × (c < m) × ((suc a * c) % m ≡ 1 % m)
    from_identity (u, v, h) = (
      u % m,
      mod-lt u positive,
      same-mul m (suc a) (suc a) (u % m) u refl (mod-mod u m)
          ∙ ap (λ n. n % m) (mul_comm (suc a) u ∙ h ∙ ap (λ n. n + 1) (mul_comm v m))
          ∙ mul-add-mod_self_left m v 1,
    )

pub inverse_mod-times : (m a : ℕ) → 0 < m → IsGcd a m 1 → (a * inverse_mod m a) % m ≡ 1 % m
inverse_mod-times m a positive coprime =
    let (c, below, e) = some_inverse m a positive coprime in
    ap (λ n. (a * n) % m) (inverse_mod-is m a c below e) ∙ e

pub inverse_mod-below : (m a : ℕ) → 0 < m → IsGcd a m 1 → inverse_mod m a < m
inverse_mod-below m a positive coprime =
    let (c, below, e) = some_inverse m a positive coprime in
    subst (λ n. n < m) (sym (inverse_mod-is m a c below e)) below

-- ---- a step of Euclid: `a` times the factor is the rest, modulo m

pub euclid-factor : (m a rest next factor next_factor product left_factor : ℕ) → 0 < m →
    product ≡ (((rest / next) % m) * next_factor) % m → (left_factor + product) % m ≡ factor →
    (a * factor) % m ≡ rest % m → (a * next_factor) % m ≡ next % m →
    (a * left_factor) % m ≡ (rest % next) % m
euclid-factor m a rest next factor next_factor product left_factor positive product_is sum rest_is next_is =
    same-drop m (a * left_factor) (rest % next) (a * product) positive
    (ap (λ n. n % m) spread
    ∙ same-mul m a a (left_factor + product) factor refl (sym (mod-mod (left_factor + product) m) ∙ ap (λ n. n % m) sum)
    ∙ rest_is
    ∙ ap (λ n. n % m) (sym (div-add-mod' rest next) ∙ turned (rest / next * next) (rest % next))
    ∙ sym (same-add m (rest % next) (rest % next) (a * product) (rest / next * next) refl part))
  where
    spread : a * left_factor + a * product ≡ a * (left_factor + product)
    spread = omega arith

    turned : (x y : ℕ) → x + y ≡ y + x
    turned x y = omega arith

    regrouped : (q : ℕ) → a * (q * next_factor) ≡ q * (a * next_factor)
    regrouped q = omega arith

    part : (a * product) % m ≡ (rest / next * next) % m
    part =
        same-mul m a a product (rest / next * next_factor) refl
        (ap (λ n. n % m) product_is ∙ mod-mod (((rest / next) % m) * next_factor) m ∙ mul-mod_first (rest / next) next_factor m)
        ∙ ap (λ n. n % m) (regrouped (rest / next))
        ∙ same-mul m (rest / next) (rest / next) (a * next_factor) next refl next_is
