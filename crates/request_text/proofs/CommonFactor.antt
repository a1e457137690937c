-- The greatest common factor, by trial.
use Rattle.std.proofs.Common.{◌≡◌, ℕ, zero, suc, ◌<◌, ◌≤◌, ◌%◌, Bool, true, false, cond, eqb, ◌&&◌, refl, sym, ap, ◌∙◌}
use Rattle.std.proofs.Common.{arith, inl, inr, mod-lt}
use Rattle.std.specs.Int.{IsGcd}
use Rattle.std.proofs.lemmas.Bool.{eqb-true, eq-eqb, and_parts, and_from, cases_lt, false≢true}
use Rattle.std.proofs.lemmas.Nat.Gcd.{IsGcd-from_zero, IsGcd-from_mod, le_from_IsGcd, dvd_of_mod-eq-zero}
use Rattle.std.proofs.lemmas.Nat.Gcd.{mod-eq-zero_of_dvd, le_of_dvd}
use Rattle.std.proofs.Math.Nat.{pos_of_dvd_of_pos}
use Rattle.request_text.specs.Limits.{common_factor, common_factor_to}

-- the number n, or what is found below it
found_at : (a b g n : ℕ) → IsGcd a b g → 0 < g → g ≤ suc n → (g ≤ n → common_factor_to a b n ≡ g)
    → common_factor_to a b (suc n) ≡ g
unfolding common_factor_to
found_at a b g n h some le below = cases (eqb (a % suc n) 0 && eqb (b % suc n) 0) refl
  where
    cases : (k : Bool) → (eqb (a % suc n) 0 && eqb (b % suc n) 0) ≡ k → cond k (suc n) (common_factor_to a b n) ≡ g
    cases true e =
        let both = and_parts (eqb (a % suc n) 0) (eqb (b % suc n) 0) e in
        let le' : suc n ≤ g =
        le_from_IsGcd a b g (suc n) h some
        (dvd_of_mod-eq-zero (suc n) (eqb-true (a % suc n) 0 both.0))
        (dvd_of_mod-eq-zero (suc n) (eqb-true (b % suc n) 0 both.1)) in
        omega (arith, le, le')
    cases false e = elim (cases_lt g (suc n)) [
      | inl less ↦ below (omega (arith, less))
      | inr more ↦
          let same : g ≡ suc n = omega (arith, le, more) in
          let one : eqb (a % suc n) 0 ≡ true =
          eq-eqb (a % suc n) 0 (ap (λ k. a % k) (sym same) ∙ mod-eq-zero_of_dvd g h.0) in
          let other : eqb (b % suc n) 0 ≡ true =
          eq-eqb (b % suc n) 0 (ap (λ k. b % k) (sym same) ∙ mod-eq-zero_of_dvd g h.1) in
          absurd (false≢true (sym e ∙ and_from (eqb (a % suc n) 0) (eqb (b % suc n) 0) one other))
    ]

found : (a b g n : ℕ) → IsGcd a b g → 0 < g → g ≤ n → common_factor_to a b n ≡ g
found a b g zero h some le = absurd (omega (arith, some, le))
found a b g (suc n) h some le = found_at a b g n h some le (λ le'. found a b g n h some le')

-- Euclid's steps, of which there are fewer than n
gcd_within : (n a b : ℕ) → b < n → (g : ℕ) × IsGcd a b g
gcd_within zero a b less = absurd (omega (arith, less))
gcd_within (suc n) a zero less = (a, IsGcd-from_zero a zero refl)
gcd_within (suc n) a (suc b) less =
    let rest_below : a % suc b < suc b = mod-lt a (omega arith) in
    let inner = gcd_within n (suc b) (a % suc b) (omega (arith, less, rest_below)) in
    (inner.0, IsGcd-from_mod a (suc b) inner.0 inner.1)

pub gcd_exists : (a b : ℕ) → (g : ℕ) × IsGcd a b g
gcd_exists a b = gcd_within (suc b) a b (omega arith)

pub common_factor_is : (a b g : ℕ) → IsGcd a b g → 1 ≤ a → common_factor a b ≡ g
unfolding common_factor
common_factor_is a b g h some = found a b g a h (pos_of_dvd_of_pos h.0 some) (le_of_dvd some h.0)
