-- A sum keeps its value when its terms are put in another order.
use Rattle.std.proofs.Common.{◌≡◌, ◌≢◌, ℕ, zero, suc, ◌*◌, ◌<◌, ◌≤◌, arith, sym, ap, ◌∙◌, inl, inr}
use Rattle.std.specs.Prelude.{◌==◌, if◌then◌else◌}
use Rattle.std.proofs.lemmas.Bool.{cases_lt}
use Rattle.std.proofs.lemmas.Bool.Decides.{nat_tests}
use Rattle.operators.specs.Loop.{IsPermutationBelow}
use Rattle.operators.specs.Sum.{sum_below}
use Rattle.operators.proofs.Sums.{sum_below-same, sum_below-swap, sum_below-zeros}

-- 1 where the two are equal, and else 0
pick : ℕ → ℕ → ℕ
pick i j = if i == j then 1 else 0

pick-same : (i j x : ℕ) → i ≡ j → pick i j * x ≡ x
unfolding pick
pick-same i j x e = grind (arith, nat_tests)

pick-other : (i j x : ℕ) → i ≢ j → pick i j * x ≡ 0
unfolding pick
pick-other i j x h = grind (arith, nat_tests)

-- the tests `i = a` and `j = b` are one where the two equations are
pick-swap : (i j a b : ℕ) → (i ≡ a → j ≡ b) → (j ≡ b → i ≡ a) → pick i a ≡ pick j b
unfolding pick
pick-swap i j a b there back = grind (arith, nat_tests)

sum_below-pick_none : (n t : ℕ) (f : ℕ → ℕ) → n ≤ t → sum_below n (λ i. pick i t * f i) ≡ 0
sum_below-pick_none n t f h =
    sum_below-same n (λ i. pick i t * f i) (λ _. 0) (λ i below. pick-other i t (f i) (λ e. absurd (omega arith))) ∙ sum_below-zeros n

sum_below-pick : (n t : ℕ) (f : ℕ → ℕ) → t < n → sum_below n (λ i. pick i t * f i) ≡ f t
sum_below-pick zero t f below = absurd (omega arith)
sum_below-pick (suc n) t f below =
    elim (cases_lt t n) [
      | inl before ↦ omega (arith, sum_below-pick n t f before, pick-other n t (f n) (λ e. absurd (omega arith)))
      | inr from ↦
          let last : n ≡ t = omega arith in
          omega (arith, sum_below-pick_none n t f from, pick-same n t (f n) last, ap f last)
    ]

pub sum_below-permuted : (n : ℕ) (there back : ℕ → ℕ) (f : ℕ → ℕ) → IsPermutationBelow n there back →
    sum_below n (λ i. f (there i)) ≡ sum_below n f
sum_below-permuted n there back f h =
    sum_below-same n (λ i. f (there i)) (λ i. sum_below n (λ j. pick j (there i) * f j)) (λ i below. sym (sum_below-pick n (there i) f (h.there_below i below)))
    ∙ sum_below-swap n n (λ i j. pick j (there i) * f j)
    ∙ sum_below-same n (λ j. sum_below n (λ i. pick j (there i) * f j)) f (λ j below.
    sum_below-same n (λ i. pick j (there i) * f j) (λ i. pick i (back j) * f j) (λ i within.
    ap (λ x. x * f j)
    (pick-swap j i (there i) (back j)
    (λ e. sym (ap back e ∙ h.back-there i within))
    (λ e. sym (ap there e ∙ h.there-back j below))))
    ∙ sum_below-pick n (back j) (λ _. f j) (h.back_below j below))
