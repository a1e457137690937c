-- Signed numbers by their two parts, of which one is 0: z is `up z - down z`.
use Rattle.std.proofs.Common.{◌≡◌, ℕ, suc, ◌+◌, ◌-◌, ◌*◌, ◌^◌, ◌<◌, ◌≤◌, arith, sym, ap, ◌∙◌, subst, refl}
use Rattle.std.proofs.Common.{⊎_elim, ◌⊎◌, inl, inr, ℤ, pos, negsuc, neg_ℤ, ◌-ℤ◌, ◌*ℤ◌, unsigned_abs}
use Rattle.std.proofs.lemmas.Int.{ints, unsigned_abs-mul}
use Rattle.std.proofs.Common.{mul-le-mul_right}
use Rattle.std.proofs.Math.Nat.{zero-mul}
use Rattle.std.proofs.lemmas.Bool.{cases_lt}
use Rattle.std.proofs.lemmas.Nat.{pow_pos}
use borrow.Author.Differences.{up, down, neg_is, product_is}
use Rattle.double_code.specs.Rounding.{nearest_of, nearest_double, nearest, rounded, with_sign, IsDouble}
use Rattle.double_code.specs.Rounding.{double_quotient}
use Rattle.double_code.specs.Products.{IsInverse}
use Rattle.double_code.proofs.Inverses.{inverse_nearest}
use Rattle.double_code.proofs.Nearest.{IsNearest, nearest_is, nearest_whole}
use Rattle.double_code.proofs.Spacing.{small_is_double, rounded_is}
use Rattle.double_code.proofs.Quotients.{constant_rounds, IsQuotient, quotient_is, range_is}

-- one of the parts is 0
pub one_part : (z : ℤ) → (up z ≡ 0) ⊎ (down z ≡ 0)
one_part (pos n) = inr refl
one_part (negsuc n) = inl refl

pub abs_parts : (z : ℤ) → unsigned_abs z ≡ up z + down z
abs_parts (pos n) = omega arith
abs_parts (negsuc n) = omega arith

with_sign_parts : (f : ℕ → ℕ) (z : ℤ) → f 0 ≡ 0 → (up (with_sign f z) ≡ f (up z)) × (down (with_sign f z) ≡ f (down z))
with_sign_parts f (pos n) none = (refl, sym none)
with_sign_parts f (negsuc n) none = ((neg_is (pos (f (suc n)))).0 ∙ sym none, (neg_is (pos (f (suc n)))).1)

pub nearest_parts : (z : ℤ) (d : ℕ) → 0 < d →
    (up (nearest z d) ≡ nearest_of (up z) d) × (down (nearest z d) ≡ nearest_of (down z) d)
nearest_parts z d some =
    with_sign_parts (λ n. nearest_of n d) z
    (ap (λ n. nearest_of n d) (sym (zero-mul d)) ∙ nearest_whole 0 d some)

pub rounded_parts : (z : ℤ) →
    (up (rounded z) ≡ nearest_double (up z) 1) × (down (rounded z) ≡ nearest_double (down z) 1)
rounded_parts z = with_sign_parts (λ n. nearest_double n 1) z (small_is_double 0 (omega arith))

-- whole numbers up to 2 ^ 53 are doubles
pub small_double : (z : ℤ) → unsigned_abs z ≤ 2 ^ 53 → IsDouble z
small_double (pos n) le = ap pos (small_is_double n le)
small_double (negsuc n) le = ap (λ x. neg_ℤ (pos x)) (small_is_double (suc n) le)

-- the double nearest to z is within a part in 2 ^ 53 of it
pub rounded_near : (z : ℤ) → (2 ^ 53 * unsigned_abs (z -ℤ rounded z) ≤ unsigned_abs z)
    × (2 ^ 53 * unsigned_abs (rounded z) ≤ 2 ^ 53 * unsigned_abs z + unsigned_abs z)
rounded_near (pos n) =
    let near = rounded_is n in
    let under = near.under in
    let over = near.over in
    (omega (arith, ints), omega (arith, ints))
rounded_near (negsuc n) =
    let near = rounded_is (suc n) in
    let under = near.under in
    let over = near.over in
    (omega (arith, ints), omega (arith, ints))

-- q is near to z / m and has its sign
pub record IsNear (m : ℕ) (z q : ℤ) : Type 0 where
  pub ups : IsQuotient (2 ^ 52) m (up z) (up q)
  pub downs : IsQuotient (2 ^ 52) m (down z) (down q)
  pub up_none : up z ≡ 0 → up q ≡ 0
  pub down_none : down z ≡ 0 → down q ≡ 0

-- what is left of z less q times m
pub left_near : (m : ℕ) (z q : ℤ) → IsNear m z q →
    2 ^ 53 * unsigned_abs (z -ℤ q *ℤ pos m) ≤ 2 ^ 52 * m + unsigned_abs z
left_near m z q near =
    let abs = abs_parts z in
    let size = abs_parts (z -ℤ q *ℤ pos m) in
    let product = product_is q (pos m) in
    let part = one_part (z -ℤ q *ℤ pos m) in
    ⊎_elim
    (λ (none : up z ≡ 0).
    let times : up q * m ≡ 0 = ap (λ x. x * m) (near.up_none none) ∙ zero-mul m in
    let under = near.downs.under in
    let over = near.downs.over in
    omega (arith, ints))
    (λ (none : down z ≡ 0).
    let times : down q * m ≡ 0 = ap (λ x. x * m) (near.down_none none) ∙ zero-mul m in
    let under = near.ups.under in
    let over = near.ups.over in
    omega (arith, ints))
    (one_part z)

-- the whole number nearest to z * k / E
pub nearest_near : (m k E : ℕ) (z : ℤ) → 0 < E → 2 ^ 52 * m ≤ E → IsNearest E m k →
    IsNear m z (nearest (z *ℤ pos k) E)
nearest_near m k E z some low inverse =
    let product = product_is z (pos k) in
    let parts = nearest_parts (z *ℤ pos k) E some in
    let up_is : up (nearest (z *ℤ pos k) E) ≡ nearest_of (up z * k) E =
    parts.0 ∙ ap (λ x. nearest_of x E) (omega arith) in
    let down_is : down (nearest (z *ℤ pos k) E) ≡ nearest_of (down z * k) E =
    parts.1 ∙ ap (λ x. nearest_of x E) (omega arith) in
    record {
      ups = subst (IsQuotient (2 ^ 52) m (up z)) (sym up_is)
          (quotient_is (2 ^ 52) E m k (up z) (nearest_of (up z * k) E) some low inverse (nearest_is (up z * k) E some));
      downs = subst (IsQuotient (2 ^ 52) m (down z)) (sym down_is)
          (quotient_is (2 ^ 52) E m k (down z) (nearest_of (down z * k) E) some low inverse
          (nearest_is (down z * k) E some));
      up_none = λ none. up_is ∙ ap (λ x. nearest_of (x * k) E) none ∙ nothing k E some;
      down_none = λ none. down_is ∙ ap (λ x. nearest_of (x * k) E) none ∙ nothing k E some;
    }
  where
    nothing : (k E : ℕ) → 0 < E → nearest_of (0 * k) E ≡ 0
    nothing k E some = ap (λ n. nearest_of n E) (zero-mul k ∙ sym (zero-mul E)) ∙ nearest_whole 0 E some

at_most : (n d c : ℕ) → 0 < d → n < c * d → nearest_of n d ≤ c
at_most n d c some lt =
    let over = (nearest_is n d some).over in
    ⊎_elim
    (λ (far : c < nearest_of n d).
    let up : c + 1 ≤ nearest_of n d = omega arith in
    let more = mul-le-mul_right d up in
    let next : (c + 1) * d ≡ c * d + d = omega arith in
    absurd (omega arith))
    (λ (le : nearest_of n d ≤ c). le)
    (cases_lt c (nearest_of n d))

pub nearest_small : (z : ℤ) (d c : ℕ) → 0 < d → unsigned_abs z < c * d → unsigned_abs (nearest z d) ≤ c
nearest_small (pos n) d c some lt = at_most n d c some lt
nearest_small (negsuc n) d c some lt =
    let a = at_most (suc n) d c some lt in omega (arith, ints, neg_is (pos (nearest_of (suc n) d)))

-- the quotient that doubles find is a whole number, as near as it can be
pub quotient_whole : (m k e P : ℕ) (h : ℤ) → 0 < m → IsInverse m k e →
    2 ^ 53 * unsigned_abs h ≤ 2 ^ 53 * P + P → P ≤ (2 ^ 51 - 1) * m →
    double_quotient k e h ≡ nearest (h *ℤ pos k) (2 ^ e)
quotient_whole m k e P h some inverse near_it small =
    let there = pow_pos e in
    let near = inverse_nearest m k e some inverse in
    let range = range_is m k (2 ^ e) (unsigned_abs h) P some there inverse.low near near_it small in
    let within = subst (λ x. x < 2 ^ 51 * 2 ^ e) (sym (unsigned_abs-mul h (pos k))) range in
    let whole = nearest_small (h *ℤ pos k) (2 ^ e) (2 ^ 51) there within in
    ap rounded (constant_rounds (h *ℤ pos k) (2 ^ e) there within)
    ∙ small_double (nearest (h *ℤ pos k) (2 ^ e)) (omega (arith, whole))
