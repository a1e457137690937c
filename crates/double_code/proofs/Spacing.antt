-- How far apart doubles are, and how far a number is from the double nearest to it.
use Rattle.std.proofs.Common.{◌≡◌, ℕ, ◌+◌, ◌-◌, ◌*◌, ◌/◌, ◌^◌, ◌<◌, ◌≤◌, arith, sym, ap, ◌∙◌, subst}
use Rattle.std.proofs.Common.{refl, ⊎_elim, ◌⊎◌, inl, inr}
use Rattle.std.proofs.Math.Nat.{mul-one, one-mul, div-one}
use Rattle.std.proofs.lemmas.Bool.{cases_lt}
use Rattle.std.specs.Float.Ieee.{size}
use Rattle.std.specs.Float.Ieee.Digits.{size_reaches, size-le}
use Rattle.std.proofs.lemmas.Nat.{pow_pos, pow-add}
use Rattle.double_code.specs.Rounding.{nearest_of, spacing, nearest_double}
use Rattle.double_code.proofs.Nearest.{nearest_is, nearest_whole}

-- whole numbers below 2 ^ 53 are doubles
pub spacing_one : (n : ℕ) → n < 2 ^ 53 → spacing n ≡ 1
unfolding spacing
spacing_one n lt =
    let le = size-le n 53 lt in
    let none : size n - 53 ≡ 0 = omega arith in
    ap (λ k. 2 ^ k) none

pub spacing_some : (n : ℕ) → 0 < spacing n
unfolding spacing
spacing_some n = pow_pos (size n - 53)

-- a number has 53 digits above the spacing, or fewer and the spacing is 1
pub spacing_cases : (n : ℕ) → (spacing n ≡ 1) ⊎ (2 ^ 52 * spacing n ≤ n)
unfolding spacing
spacing_cases n =
    ⊎_elim
    (λ (lt : size n < 54). inl (ap (λ k. 2 ^ k) (let le : size n - 53 ≡ 0 = omega arith in le)))
    (λ (ge : 54 ≤ size n).
    let digits : 52 + (size n - 53) < size n = omega arith in
    inr (subst (λ p. p ≤ n) (pow-add 2 52 (size n - 53)) (size_reaches n (52 + (size n - 53)) digits)))
    (cases_lt (size n) 54)

-- the double nearest to a whole number
by_spacing : (n : ℕ) → nearest_double n 1 ≡ nearest_of n (spacing n) * spacing n
unfolding nearest_double
by_spacing n =
    ap (λ p. nearest_of n (1 * spacing p) * spacing p) (div-one n)
    ∙ ap (λ p. nearest_of n p * spacing n) (one-mul (spacing n))

-- a whole number that the spacing divides is a double
double_of_whole : (n t : ℕ) → t * spacing n ≡ n → nearest_double n 1 ≡ n
double_of_whole n t whole =
    by_spacing n
    ∙ ap (λ p. nearest_of p (spacing n) * spacing n) (sym whole)
    ∙ ap (λ p. p * spacing n) (nearest_whole t (spacing n) (spacing_some n))
    ∙ whole

-- the greatest of the whole numbers that all are doubles
top_is_double : nearest_double 9007199254740992 1 ≡ 9007199254740992
unfolding nearest_double nearest_of spacing size
top_is_double = refl

pub small_is_double : (n : ℕ) → n ≤ 2 ^ 53 → nearest_double n 1 ≡ n
small_is_double n le =
    ⊎_elim
    (λ (lt : n < 2 ^ 53). double_of_whole n n (ap (λ p. n * p) (spacing_one n lt) ∙ mul-one n))
    (λ (ge : 2 ^ 53 ≤ n).
    let top : 9007199254740992 ≡ n = omega arith in
    subst (λ p. nearest_double p 1 ≡ p) top top_is_double)
    (cases_lt n (2 ^ 53))

-- the double nearest to n is within a part in 2 ^ 53 of it
pub record IsRounded (n h : ℕ) : Type 0 where
  pub under : 2 ^ 53 * n ≤ 2 ^ 53 * h + n
  pub over : 2 ^ 53 * h ≤ 2 ^ 53 * n + n

pub rounded_is : (n : ℕ) → IsRounded n (nearest_double n 1)
rounded_is n =
    ⊎_elim
    (λ (one : spacing n ≡ 1).
    let e = double_of_whole n n (ap (λ p. n * p) one ∙ mul-one n) in
    record { under = omega arith; over = omega arith })
    (λ (wide : 2 ^ 52 * spacing n ≤ n).
    let near = nearest_is n (spacing n) (spacing_some n) in
    let under = near.under in
    let over = near.over in
    let e = by_spacing n in
    record { under = omega arith; over = omega arith })
    (spacing_cases n)

-- from 2 ^ 52 to 2 ^ 53 doubles are the whole numbers
pub whole_double : (n d : ℕ) → n / d < 2 ^ 53 → nearest_double n d ≡ nearest_of n d
unfolding nearest_double
whole_double n d lt =
    ap (λ p. nearest_of n (d * p) * p) (spacing_one (n / d) lt)
    ∙ mul-one (nearest_of n (d * 1))
    ∙ ap (λ p. nearest_of n p) (mul-one d)
