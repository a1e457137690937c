-- Where the values fit words, words make the multiples and sums of sums.
use Rattle.std.proofs.Common.{◌≡◌, ℕ, zero, suc, ◌+◌, ◌*◌, ◌/◌, ◌%◌, ◌^◌, ◌<◌, ◌≤◌, arith, ap, ap₂, ◌∙◌, mod-eq_of_lt}
use Rattle.std.proofs.Common.{mul-le-mul_left}
use Rattle.std.specs.Prelude.{max}
use Rattle.perm_algebra.specs.Affine.{Sum, constant, variable, remainder, quotient, value, peak, scaled, added}
use Rattle.perm_algebra.specs.Fits.{IsAffine}
use Rattle.perm_algebra.specs.Room.{constant_of, CanScale, CanAdd}
use Rattle.perm_algebra.specs.Wrapped.{wrapped_multiple, raised, wrapped_sum}

-- a factor that does not fit is that of a part that is always 0
part : (k f x a : ℕ) → k * (f * x + a) < 2 ^ 64 → k * f % 2 ^ 64 * x + k * a ≡ k * (f * x + a)
part k f zero a fits = omega arith
part k f (suc x) a fits = let fit : k * f < 2 ^ 64 = omega (arith, fits) in ap (λ g. g * suc x + k * a) (mod-eq_of_lt fit) ∙ omega arith

pub value_multiple : (k : ℕ) (e : Sum) (vs : ℕ → ℕ) → k * value e vs < 2 ^ 64 →
    value (wrapped_multiple k e) vs ≡ k * value e vs
value_multiple k (constant c) vs fits = mod-eq_of_lt fits
value_multiple k (variable f d rest) vs fits =
    ap (λ a. k * f % 2 ^ 64 * vs d + a) (value_multiple k rest vs (omega (arith, fits)))
    ∙ part k f (vs d) (value rest vs) fits
value_multiple k (remainder f of m rest) vs fits =
    ap (λ a. k * f % 2 ^ 64 * (value of vs % m) + a) (value_multiple k rest vs (omega (arith, fits)))
    ∙ part k f (value of vs % m) (value rest vs) fits
value_multiple k (quotient f of m rest) vs fits =
    ap (λ a. k * f % 2 ^ 64 * (value of vs / m) + a) (value_multiple k rest vs (omega (arith, fits)))
    ∙ part k f (value of vs / m) (value rest vs) fits

pub affine_multiple : (n : ℕ) (cs : ℕ → ℕ) (k : ℕ) (e : Sum) → IsAffine n cs e → IsAffine n cs (wrapped_multiple k e)
affine_multiple n cs k (constant c) h = tt
affine_multiple n cs k (variable f d rest) h = (h.0, affine_multiple n cs k rest h.1)
affine_multiple n cs k (remainder f of m rest) h = (h.0, h.1, h.2, affine_multiple n cs k rest h.3)
affine_multiple n cs k (quotient f of m rest) h = (h.0, h.1, h.2, affine_multiple n cs k rest h.3)

-- the greater of two numbers, times k
first-below : (k f p : ℕ) → k * max f p < 2 ^ 64 → k * f < 2 ^ 64
first-below k f p h = let least : k * f ≤ k * max f p = mul-le-mul_left k (omega arith) in omega (arith, h, least)

second-below : (k f p : ℕ) → k * max f p < 2 ^ 64 → k * p < 2 ^ 64
second-below k f p h = let least : k * p ≤ k * max f p = mul-le-mul_left k (omega arith) in omega (arith, h, least)

pub multiple_form : (k : ℕ) (e : Sum) → CanScale k e → wrapped_multiple k e ≡ scaled k e
multiple_form k (constant c) h = ap constant (mod-eq_of_lt h)
multiple_form k (variable f d rest) h = ap₂ (λ g r. variable g d r) (mod-eq_of_lt (first-below k f (peak rest) h)) (multiple_form k rest (second-below k f (peak rest) h))
multiple_form k (remainder f of m rest) h = ap₂ (λ g r. remainder g of m r) (mod-eq_of_lt (first-below k f (peak rest) h)) (multiple_form k rest (second-below k f (peak rest) h))
multiple_form k (quotient f of m rest) h = ap₂ (λ g r. quotient g of m r) (mod-eq_of_lt (first-below k f (peak rest) h)) (multiple_form k rest (second-below k f (peak rest) h))

value-raised : (c : ℕ) (e : Sum) (vs : ℕ → ℕ) → c + value e vs < 2 ^ 64 → value (raised c e) vs ≡ c + value e vs
value-raised c (constant d) vs fits = mod-eq_of_lt fits
value-raised c (variable f d rest) vs fits = let inner = value-raised c rest vs (omega (arith, fits)) in omega (arith, inner)
value-raised c (remainder f of m rest) vs fits = let inner = value-raised c rest vs (omega (arith, fits)) in omega (arith, inner)
value-raised c (quotient f of m rest) vs fits = let inner = value-raised c rest vs (omega (arith, fits)) in omega (arith, inner)

pub value_sum : (a e : Sum) (vs : ℕ → ℕ) → value a vs + value e vs < 2 ^ 64 →
    value (wrapped_sum a e) vs ≡ value a vs + value e vs
value_sum (constant c) e vs fits = value-raised c e vs fits
value_sum (variable f d rest) e vs fits = let inner = value_sum rest e vs (omega (arith, fits)) in omega (arith, inner)
value_sum (remainder f of m rest) e vs fits =
    let inner = value_sum rest e vs (omega (arith, fits)) in omega (arith, inner)
value_sum (quotient f of m rest) e vs fits =
    let inner = value_sum rest e vs (omega (arith, fits)) in omega (arith, inner)

affine-raised : (n : ℕ) (cs : ℕ → ℕ) (c : ℕ) (e : Sum) → IsAffine n cs e → IsAffine n cs (raised c e)
affine-raised n cs c (constant d) h = tt
affine-raised n cs c (variable f d rest) h = (h.0, affine-raised n cs c rest h.1)
affine-raised n cs c (remainder f of m rest) h = (h.0, h.1, h.2, affine-raised n cs c rest h.3)
affine-raised n cs c (quotient f of m rest) h = (h.0, h.1, h.2, affine-raised n cs c rest h.3)

pub affine_sum : (n : ℕ) (cs : ℕ → ℕ) (a e : Sum) → IsAffine n cs a → IsAffine n cs e → IsAffine n cs (wrapped_sum a e)
affine_sum n cs (constant c) e h g = affine-raised n cs c e g
affine_sum n cs (variable f d rest) e h g = (h.0, affine_sum n cs rest e h.1 g)
affine_sum n cs (remainder f of m rest) e h g = (h.0, h.1, h.2, affine_sum n cs rest e h.3 g)
affine_sum n cs (quotient f of m rest) e h g = (h.0, h.1, h.2, affine_sum n cs rest e h.3 g)

raised-form : (c : ℕ) (e : Sum) → c + constant_of e < 2 ^ 64 → raised c e ≡ added (constant c) e
raised-form c (constant d) h = ap constant (mod-eq_of_lt h)
raised-form c (variable f d rest) h = ap (λ r. variable f d r) (raised-form c rest h)
raised-form c (remainder f of m rest) h = ap (λ r. remainder f of m r) (raised-form c rest h)
raised-form c (quotient f of m rest) h = ap (λ r. quotient f of m r) (raised-form c rest h)

pub sum_form : (a e : Sum) → CanAdd a e → wrapped_sum a e ≡ added a e
sum_form (constant c) e h = raised-form c e h
sum_form (variable f d rest) e h = ap (λ r. variable f d r) (sum_form rest e h)
sum_form (remainder f of m rest) e h = ap (λ r. remainder f of m r) (sum_form rest e h)
sum_form (quotient f of m rest) e h = ap (λ r. quotient f of m r) (sum_form rest e h)
