-- Products by doubles are exact but for the rounded steps, and stand for products of residues.
use Rattle.std.proofs.Common.{◌≡◌, ℕ, ◌+◌, ◌-◌, ◌*◌, ◌^◌, ◌<◌, ◌≤◌, arith, sym, subst}
use Rattle.std.proofs.Common.{ap, ap₂, ◌∙◌}
use Rattle.std.proofs.Common.{mul-le-mul, mul-le-mul_right, ℤ, pos, ◌+ℤ◌, ◌-ℤ◌, ◌*ℤ◌, unsigned_abs}
use Rattle.std.proofs.lemmas.Int.{ints, unsigned_abs-mul}
use Rattle.std.proofs.lemmas.Nat.{pow_pos}
use Rattle.double_code.specs.Rounding.{nearest, rounded, double_quotient}
use Rattle.double_code.specs.Products.{IsInverse, DoubleProducts, double_product}
use Rattle.double_code.proofs.Inverses.{inverse_nearest}
use Rattle.double_code.proofs.Residues.{residue_same}
use Rattle.double_code.proofs.Signed.{abs_parts, small_double, rounded_near, left_near, nearest_near, quotient_whole}

-- what is left of z less q times m, where q is the quotient that doubles find
pub reduced_near : (m k e P : ℕ) (z : ℤ) → 0 < m → IsInverse m k e → 2 ^ 53 * unsigned_abs z ≤ 2 ^ 53 * P + P →
    P ≤ (2 ^ 51 - 1) * m →
    2 ^ 53 * unsigned_abs (z -ℤ double_quotient k e z *ℤ pos m) ≤ 2 ^ 52 * m + unsigned_abs z
reduced_near m k e P z some inverse rounded small =
    subst (λ q. 2 ^ 53 * unsigned_abs (z -ℤ q *ℤ pos m) ≤ 2 ^ 52 * m + unsigned_abs z)
    (sym (quotient_whole m k e P z some inverse rounded small))
    (left_near m z (nearest (z *ℤ pos k) (2 ^ e)) (nearest_near m k (2 ^ e) z (pow_pos e) inverse.low
    (inverse_nearest m k e some inverse)))

pub abs_sum : (x y : ℤ) → unsigned_abs (x +ℤ y) ≤ unsigned_abs x + unsigned_abs y
abs_sum x y = omega (arith, ints, abs_parts x, abs_parts y, abs_parts (x +ℤ y))

-- the steps of a product, where z is the exact one
steps : (z h p : ℤ) → (h -ℤ p) +ℤ (z -ℤ h) ≡ z -ℤ p
steps z h p = omega (arith, ints)

product_small : (m most : ℕ) (a c : ℤ) → unsigned_abs a ≤ most → 2 * unsigned_abs c ≤ m →
    2 * unsigned_abs (a *ℤ c) ≤ most * m
product_small m most a c of_a of_c =
    let product = mul-le-mul of_a of_c in
    let e = unsigned_abs-mul a c in
    let two : unsigned_abs a * (2 * unsigned_abs c) ≡ 2 * (unsigned_abs a * unsigned_abs c) = omega arith in
    omega arith

pub double_products : DoubleProducts
double_products m k e most a c some below inverse of_a of_most of_c =
    let z = a *ℤ c in
    let h = rounded z in
    let q = double_quotient k e h in
    let size = product_small m most a c of_a of_c in
    let few : most ≤ 2 ^ 52 - 2 = omega arith in
    let times = mul-le-mul_right m few in
    let small : unsigned_abs z ≤ (2 ^ 51 - 1) * m = omega arith in
    let near = rounded_near z in
    let off = near.0 in
    let on = near.1 in
    let left = reduced_near m k e (unsigned_abs z) h some inverse on small in
    let sum = abs_sum (h -ℤ q *ℤ pos m) (z -ℤ h) in
    let rest = small_double (z -ℤ h) (omega arith) in
    let remainder = small_double (h -ℤ q *ℤ pos m) (omega arith) in
    let whole : unsigned_abs ((h -ℤ q *ℤ pos m) +ℤ (z -ℤ h)) ≤ 2 ^ 53 = omega arith in
    let result : double_product m k e a c ≡ z -ℤ q *ℤ pos m =
    ap₂ (λ x y. rounded (x +ℤ y)) remainder rest
    ∙ small_double ((h -ℤ q *ℤ pos m) +ℤ (z -ℤ h)) whole
    ∙ steps z h (q *ℤ pos m) in
    let alike = ap unsigned_abs (result ∙ sym (steps z h (q *ℤ pos m))) in
    record {
      rest = rest;
      quotient = quotient_whole m k e (unsigned_abs z) h some inverse on small;
      remainder = remainder;
      result = result;
      same = residue_same m z (double_product m k e a c) q some result;
      bound = omega arith;
    }
