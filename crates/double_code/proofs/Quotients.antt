-- Quotients by m: what the rounding constant leaves is the nearest whole number, and it is as near to the true quotient
-- as the inverse of m is to 1 / m.
use Rattle.std.proofs.Common.{◌≡◌, ℕ, suc, ◌+◌, ◌-◌, ◌*◌, ◌^◌, ◌<◌, ◌≤◌, arith, ap, ◌∙◌, refl}
use Rattle.std.proofs.Common.{⊎_elim, mul-le-mul, mul-le-mul_left, mul-le-mul_right, ℤ, pos, negsuc, ◌+ℤ◌, ◌-ℤ◌}
use Rattle.std.proofs.Common.{unsigned_abs}
use Rattle.std.proofs.lemmas.Nat.{div_below}
use Rattle.std.proofs.lemmas.Int.{ints}
use Rattle.std.proofs.lemmas.Bool.{cases_lt}
use Rattle.double_code.specs.Rounding.{nearest_double, nearest, rounding_constant}
use Rattle.double_code.proofs.Nearest.{IsNearest, nearest_above, nearest_below}
use Rattle.double_code.proofs.Spacing.{whole_double}

-- the rounding constant makes whole numbers
pub constant_rounds : (z : ℤ) (d : ℕ) → 0 < d → unsigned_abs z < 2 ^ 51 * d →
    pos (nearest_double (unsigned_abs (pos (rounding_constant * d) +ℤ z)) d) -ℤ pos rounding_constant ≡ nearest z d
constant_rounds (pos n) d some lt =
    let small : rounding_constant * d + n < 2 ^ 53 * d = omega arith in
    let e = whole_double (rounding_constant * d + n) d (div_below _ _ _ some small) in
    let f = nearest_above rounding_constant n d some refl in
    omega (arith, ints)
constant_rounds (negsuc n) d some lt =
    let rest = rounding_constant * d - suc n in
    let whole : suc n + rest ≡ rounding_constant * d = omega arith in
    let small : rest < 2 ^ 53 * d = omega arith in
    let is : unsigned_abs (pos (rounding_constant * d) +ℤ negsuc n) ≡ rest = omega (arith, ints) in
    let e = ap (λ x. nearest_double x d) is ∙ whole_double rest d (div_below _ _ _ some small) in
    let f = nearest_below rounding_constant (suc n) rest d some refl whole in
    omega (arith, ints)

-- Q is near to H / m, where k / E is near to 1 / m
pub record IsQuotient (B m H Q : ℕ) : Type 0 where
  pub under : 2 * (B * H) ≤ 2 * (B * (Q * m)) + (B * m + H)
  pub over : 2 * (B * (Q * m)) ≤ 2 * (B * H) + (B * m + H)

cancel_le : (a b c : ℕ) → 0 < c → a * c ≤ b * c → a ≤ b
cancel_le a b c some le =
    ⊎_elim
    (λ (lt : b < a).
    let up : b + 1 ≤ a = omega arith in
    let more = mul-le-mul_right c up in
    let next : (b + 1) * c ≡ b * c + c = omega arith in
    absurd (omega arith))
    (λ (le : a ≤ b). le)
    (cases_lt b a)

-- by what is common to the five products
pub quotient_is : (B E m k H Q : ℕ) → 0 < E → B * m ≤ E → IsNearest E m k → IsNearest (H * k) E Q → IsQuotient B m H Q
quotient_is B E m k H Q some low inverse near =
    let x = B * m * H * k in
    let y = B * m * Q * E in
    let z = B * m * E in
    let w = B * H * E in
    let v = B * H * m in
    let x_is : B * m * (2 * (H * k)) ≡ 2 * x = omega arith in
    let y_is : B * m * (2 * (Q * E)) ≡ 2 * y = omega arith in
    let y_more : B * m * (2 * (Q * E) + E) ≡ 2 * y + z = omega arith in
    let x_more : B * m * (2 * (H * k) + E) ≡ 2 * x + z = omega arith in
    let w_is : B * H * (2 * E) ≡ 2 * w = omega arith in
    let w_more : B * H * (2 * E + m) ≡ 2 * w + v = omega arith in
    let x_same : B * H * (2 * (k * m)) ≡ 2 * x = omega arith in
    let x_above : B * H * (2 * (k * m) + m) ≡ 2 * x + v = omega arith in
    let v_is : H * (B * m) ≡ v = omega arith in
    let a = mul-le-mul_left (B * m) near.under in
    let b = mul-le-mul_left (B * m) near.over in
    let c = mul-le-mul_left (B * H) inverse.under in
    let d = mul-le-mul_left (B * H) inverse.over in
    let f = mul-le-mul_left H low in
    let left : 2 * (B * H) * E ≡ 2 * w = omega arith in
    let above : (2 * (B * (Q * m)) + (B * m + H)) * E ≡ 2 * y + z + H * E = omega arith in
    let right : 2 * (B * (Q * m)) * E ≡ 2 * y = omega arith in
    let beside : (2 * (B * H) + (B * m + H)) * E ≡ 2 * w + z + H * E = omega arith in
    record {
      under = cancel_le _ _ E some (omega arith);
      over = cancel_le _ _ E some (omega arith);
    }

-- a quotient below 2 ^ 51 is within the range of the rounding constant, also after both roundings
pub range_is : (m k E H P : ℕ) → 0 < m → 0 < E → 2 ^ 52 * m ≤ E → IsNearest E m k → 2 ^ 53 * H ≤ 2 ^ 53 * P + P →
    P ≤ (2 ^ 51 - 1) * m → H * k < 2 ^ 51 * E
range_is m k E H P some there low inverse rounded small =
    ⊎_elim
    (λ (lt : H * k < 2 ^ 51 * E). lt)
    (λ (ge : 2 ^ 51 * E ≤ H * k).
    let a = mul-le-mul_right m ge in
    let b = mul-le-mul_left H inverse.over in
    let c = mul-le-mul_left H low in
    let d = mul-le-mul_right E rounded in
    let f = mul-le-mul_right E small in
    let g : 1 * 1 ≤ m * E = mul-le-mul some there in
    let a_is : 2 ^ 51 * E * m ≡ 2 ^ 51 * (m * E) = omega arith in
    let b_is : H * k * m ≡ H * (k * m) = omega arith in
    let b_left : H * (2 * (k * m)) ≡ 2 * (H * (k * m)) = omega arith in
    let b_right : H * (2 * E + m) ≡ 2 * (H * E) + H * m = omega arith in
    let c_is : H * (2 ^ 52 * m) ≡ 2 ^ 52 * (H * m) = omega arith in
    let d_left : 2 ^ 53 * H * E ≡ 2 ^ 53 * (H * E) = omega arith in
    let d_right : (2 ^ 53 * P + P) * E ≡ (2 ^ 53 + 1) * (P * E) = omega arith in
    let f_is : (2 ^ 51 - 1) * m * E ≡ (2 ^ 51 - 1) * (m * E) = omega arith in
    absurd (omega arith))
    (cases_lt (H * k) (2 ^ 51 * E))
