-- The whole number nearest to a fraction.
use Rattle.std.proofs.Common.{◌≡◌, ℕ, ◌+◌, ◌-◌, ◌*◌, ◌/◌, ◌%◌, ◌<◌, ◌≤◌, arith, sym, ap, ◌∙◌, subst, ⊎_elim}
use Rattle.std.proofs.Common.{mul-le-mul_right, cond, ltb-true, ltb-false}
use Rattle.std.specs.Prelude.{nat_lt}
use Rattle.std.proofs.lemmas.Nat.{div-add-mod', mod_below}
use Rattle.std.proofs.lemmas.Bool.{cases_lt, cond_both}
use Rattle.std.proofs.Math.Nat.{add-mul}
use Rattle.double_code.specs.Rounding.{nearest_of}

-- q is as near to n / d as a whole number can be, and even where another one is as near
pub record IsNearest (n d q : ℕ) : Type 0 where
  pub under : 2 * n ≤ 2 * (q * d) + d
  pub over : 2 * (q * d) ≤ 2 * n + d
  pub even_under : 2 * n ≡ 2 * (q * d) + d → q % 2 ≡ 0
  pub even_over : 2 * (q * d) ≡ 2 * n + d → q % 2 ≡ 0

nearest_cases : (n d : ℕ) (P : ℕ → Type 0) → (2 * (n % d) < d → P (n / d)) → (d < 2 * (n % d) → P (n / d + 1)) →
    (2 * (n % d) ≡ d → P (n / d + n / d % 2)) → P (nearest_of n d)
unfolding nearest_of
nearest_cases n d P low high tie =
    let twice = 2 * (n % d) in
    let q = n / d in
    cond_both (nat_lt twice d) q (cond (nat_lt d twice) (q + 1) (q + q % 2)) P
    (λ lt. low (ltb-true twice d lt))
    (λ ge. cond_both (nat_lt d twice) (q + 1) (q + q % 2) P
    (λ gt. high (ltb-true d twice gt))
    (λ le. tie (let a = ltb-false twice d ge in let b = ltb-false d twice le in omega arith)))

-- an even number of halves: q or q + 1 is even
tie_is : (n d q : ℕ) → 0 < d → 2 * n ≡ 2 * (q * d) + d → IsNearest n d (q + q % 2)
tie_is n d q some tie =
    let next : (q + 1) * d ≡ q * d + d = omega arith in
    ⊎_elim
    (λ (lt : q % 2 < 1). let e : q + q % 2 ≡ q = omega arith in
    subst (IsNearest n d) (sym e) (record {
      under = omega arith;
      over = omega arith;
      even_under = λ _. omega arith;
      even_over = λ _. omega arith;
    }))
    (λ (ge : 1 ≤ q % 2). let e : q + q % 2 ≡ q + 1 = omega arith in
    subst (IsNearest n d) (sym e) (record {
      under = omega arith;
      over = omega arith;
      even_under = λ _. omega arith;
      even_over = λ _. omega arith;
    }))
    (cases_lt (q % 2) 1)

pub nearest_is : (n d : ℕ) → 0 < d → IsNearest n d (nearest_of n d)
nearest_is n d some =
    let whole = div-add-mod' n d in
    let small = mod_below n d some in
    nearest_cases n d (IsNearest n d)
    (λ lt. record {
      under = omega arith;
      over = omega arith;
      even_under = λ e. absurd (omega arith);
      even_over = λ e. absurd (omega arith);
    })
    (λ gt. let next : (n / d + 1) * d ≡ n / d * d + d = omega arith in
    record {
      under = omega arith;
      over = omega arith;
      even_under = λ e. absurd (omega arith);
      even_over = λ e. absurd (omega arith);
    })
    (λ tie. tie_is n d (n / d) some (omega arith))

-- the greater of two would be 2 or more above the other, or one above and both even
not_above : (n d p q : ℕ) → 0 < d → IsNearest n d p → IsNearest n d q → p < q → ⊥
not_above n d p q some a b lt =
    let under = a.under in
    let over = b.over in
    let next : (p + 1) * d ≡ p * d + d = omega arith in
    ⊎_elim
    (λ (far : p + 1 < q).
    let two : (p + 2) * d ≡ p * d + 2 * d = omega arith in
    let up : p + 2 ≤ q = omega arith in
    let more = mul-le-mul_right d up in
    omega arith)
    (λ (near : q ≤ p + 1).
    let is : q ≡ p + 1 = omega arith in
    let times : q * d ≡ p * d + d = ap (λ x. x * d) is ∙ next in
    let even = a.even_under (omega arith) in
    let odd = b.even_over (omega arith) in
    omega arith)
    (cases_lt (p + 1) q)

pub nearest_unique : (n d p q : ℕ) → 0 < d → IsNearest n d p → IsNearest n d q → p ≡ q
nearest_unique n d p q some a b =
    ⊎_elim
    (λ (lt : p < q). absurd (not_above n d p q some a b lt))
    (λ (le : q ≤ p). ⊎_elim
    (λ (lt : q < p). absurd (not_above n d q p some b a lt))
    (λ (ge : p ≤ q). omega arith)
    (cases_lt q p))
    (cases_lt p q)

-- a whole number is the nearest to itself
pub nearest_whole : (t d : ℕ) → 0 < d → nearest_of (t * d) d ≡ t
nearest_whole t d some =
    nearest_unique (t * d) d (nearest_of (t * d) d) t some (nearest_is (t * d) d some) (record {
      under = omega arith;
      over = omega arith;
      even_under = λ e. absurd (omega arith);
      even_over = λ e. absurd (omega arith);
    })

-- an even whole number moves it
pub nearest_above : (r n d : ℕ) → 0 < d → r % 2 ≡ 0 → nearest_of (r * d + n) d ≡ r + nearest_of n d
nearest_above r n d some even =
    let q = nearest_of n d in
    let is = nearest_is n d some in
    let under = is.under in
    let over = is.over in
    let sum : (r + q) * d ≡ r * d + q * d = omega arith in
    nearest_unique (r * d + n) d (nearest_of (r * d + n) d) (r + q) some (nearest_is (r * d + n) d some) (record {
      under = omega arith;
      over = omega arith;
      even_under = λ e. let f = is.even_under (omega arith) in omega arith;
      even_over = λ e. let f = is.even_over (omega arith) in omega arith;
    })

-- and so it does where the fraction is taken from it
pub nearest_below : (r n rest d : ℕ) → 0 < d → r % 2 ≡ 0 → n + rest ≡ r * d → nearest_of rest d + nearest_of n d ≡ r
nearest_below r n rest d some even whole =
    let q = nearest_of n d in
    let is = nearest_is n d some in
    let under = is.under in
    let over = is.over in
    let within : q ≤ r = not_far r q n rest d some whole over in
    let p = r - q in
    let sum : p + q ≡ r = omega arith in
    let times : p * d + q * d ≡ r * d = sym (add-mul p q d) ∙ ap (λ x. x * d) sum in
    let same : nearest_of rest d ≡ p =
    nearest_unique rest d (nearest_of rest d) p some (nearest_is rest d some) (record {
      under = omega arith;
      over = omega arith;
      even_under = λ e. let f = is.even_over (omega arith) in omega arith;
      even_over = λ e. let f = is.even_under (omega arith) in omega arith;
    }) in
    omega arith
  where
    not_far : (r q n rest d : ℕ) → 0 < d → n + rest ≡ r * d → 2 * (q * d) ≤ 2 * n + d → q ≤ r
    not_far r q n rest d some whole over =
        ⊎_elim
        (λ (lt : r < q).
        let up : r + 1 ≤ q = omega arith in
        let more = mul-le-mul_right d up in
        let next : (r + 1) * d ≡ r * d + d = omega arith in
        absurd (omega arith))
        (λ (ge : q ≤ r). ge)
        (cases_lt r q)
