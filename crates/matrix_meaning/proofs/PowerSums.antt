-- Sums of powers of a root.
use Rattle.std.proofs.Common.{◌≡◌, ◌≢◌, ℕ, zero, suc, ◌+◌, ◌-◌, ◌*◌, ◌%◌, ◌<◌, arith, refl, sym, ap, ◌∙◌, mod-lt}
use Rattle.std.proofs.Common.{mod-eq_of_lt}
use Rattle.std.proofs.Math.Nat.{mod-mod, zero-mul, mul-mod_right}
use Rattle.std.proofs.lemmas.Nat.{mul-mod_first}
use Rattle.ring_mod.specs.Residue.{power_mod, difference_mod}
use Rattle.ring_mod.proofs.Congruence.{same-add}
use Rattle.ring_mod.proofs.InverseLaws.{same-drop}
use Rattle.ring_mod.proofs.Powers.{power_mod-same, power_mod-zero}
use Rattle.matrix_meaning.specs.Convolution.{power_sum, IsPrincipal}
use Rattle.operators.specs.Sum.{sum_below}
use Rattle.operators.proofs.Sums.{same-sum_below}

sum_below-ones : (n : ℕ) → sum_below n (λ _. 1) ≡ n
sum_below-ones zero = refl
sum_below-ones (suc n) = omega (arith, sum_below-ones n)

-- the power sum for 0 is n
power_sum-zero : (m n w : ℕ) → power_sum m n w 0 ≡ n % m
power_sum-zero m n w =
    same-sum_below m n _ (λ _. 1) (λ l _. ap (λ e. power_mod m w e % m) (zero-mul l) ∙ ap (λ y. y % m) (power_mod-zero m w) ∙ mod-mod 1 m)
    ∙ ap (λ y. y % m) (sum_below-ones n)

-- only the remainder of the factor of the exponents counts
power_sum_of_remainder : (m n w e : ℕ) → power_mod m w n ≡ 1 % m →
    sum_below n (λ j. power_mod m w (e * j)) % m ≡ power_sum m n w (e % n)
power_sum_of_remainder m n w e root =
    same-sum_below m n _ _ (λ j _. ap (λ y. y % m) (power_mod-same m w n (e * j) ((e % n) * j) root (sym (mul-mod_first e j n))))

-- ---- the exponents (n - 1) * k + a + b, whose remainder is 0 where b is k - a modulo n

exponent : ℕ → ℕ → ℕ → ℕ → ℕ
exponent n k a b = (n - 1) * k + (a + b)

exponent-matches : (n k a b : ℕ) → 0 < n → a < n → b ≡ difference_mod n k a → exponent n k a b % n ≡ 0
unfolding exponent
exponent-matches zero k a b positive below e = absurd (omega arith)
exponent-matches (suc q) k a b positive below e =
    let less : suc q - 1 ≡ q = omega arith in
    let whole : q * k + (a + (k + (suc q - a))) ≡ suc q * (k + 1) = omega arith in
    ap (λ y. (y * k + (a + b)) % suc q) less
    ∙ same-add (suc q) (q * k) (q * k) (a + b) (a + (k + (suc q - a))) refl
    (same-add (suc q) a a b (k + (suc q - a)) refl (ap (λ y. y % suc q) e ∙ mod-mod (k + (suc q - a)) (suc q)))
    ∙ ap (λ y. y % suc q) whole
    ∙ mul-mod_right (suc q) (k + 1)

exponent-differs : (n k a b : ℕ) → 0 < n → a < n → b < n → b ≢ difference_mod n k a → exponent n k a b % n ≢ 0
unfolding exponent
exponent-differs n k a b positive below within apart e =
    let t = difference_mod n k a in
    let t_in : t < n = mod-lt (k + (n - a)) positive in
    let regrouped : (c : ℕ) → (n - 1) * k + (a + c) ≡ c + ((n - 1) * k + a) = λ c. omega arith in
    apart (sym (mod-eq_of_lt within)
    ∙ same-drop n b t ((n - 1) * k + a) positive
    (ap (λ y. y % n) (sym (regrouped b)) ∙ e ∙ sym (exponent-matches n k a t positive below refl) ∙ ap (λ y. y % n) (regrouped t))
    ∙ mod-eq_of_lt t_in)

-- ---- the sums of w to the power exponent * j

pub power_sum-matches : (m n w k a b : ℕ) → power_mod m w n ≡ 1 % m → a < n → b ≡ difference_mod n k a →
    sum_below n (λ j. power_mod m w (((n - 1) * k + (a + b)) * j)) % m ≡ n % m
unfolding exponent
power_sum-matches m n w k a b root below e =
    power_sum_of_remainder m n w ((n - 1) * k + (a + b)) root
    ∙ ap (power_sum m n w) (exponent-matches n k a b (omega arith) below e)
    ∙ power_sum-zero m n w

pub power_sum-differs : (m n w k a b : ℕ) → power_mod m w n ≡ 1 % m → IsPrincipal m n w → a < n → b < n →
    b ≢ difference_mod n k a →
    sum_below n (λ j. power_mod m w (((n - 1) * k + (a + b)) * j)) % m ≡ 0
unfolding exponent
power_sum-differs m n w k a b root principal below within apart =
    let positive : 0 < n = omega arith in
    let some : ((n - 1) * k + (a + b)) % n ≢ 0 = exponent-differs n k a b positive below within apart in
    power_sum_of_remainder m n w ((n - 1) * k + (a + b)) root
    ∙ principal (((n - 1) * k + (a + b)) % n) (omega (arith, some)) (mod-lt ((n - 1) * k + (a + b)) positive)
