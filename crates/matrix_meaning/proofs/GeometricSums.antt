-- Sums of the powers of a number, by halves.
use Rattle.std.proofs.Common.{◌≡◌, ℕ, ◌+◌, ◌*◌, ◌%◌, refl, sym, ap, ap₂, ◌∙◌, add-one, pow-suc}
use Rattle.std.proofs.Math.Nat.{mod-mod, pow-zero, one-mul}
use Rattle.ring_mod.specs.Residue.{power_mod, sum_mod, product_mod}
use Rattle.ring_mod.proofs.Congruence.{same-add, same-mul}
use Rattle.ring_mod.proofs.Powers.{power_mod-add, power_mod_of_power}
use Rattle.matrix_meaning.specs.Convolution.{power_sum}
use Rattle.operators.specs.Sum.{sum_below}
use Rattle.operators.proofs.Sums.{sum_below-append, mul-sum_below, same-sum_below}

-- q to the power 1
power_mod-one : (m q : ℕ) → power_mod m q 1 ≡ q % m
unfolding power_mod
power_mod-one m q = ap (λ y. y % m) (pow-suc q 0 ∙ ap (λ y. y * q) (pow-zero q) ∙ one-mul q)

-- the sum of the powers with exponents below n
geometric : ℕ → ℕ → ℕ → ℕ
geometric m q n = sum_below n (λ l. power_mod m q l)

-- the first 2 * h powers are the first h, and these times the power h
geometric-doubled : (m q h : ℕ) → geometric m q (h + h) % m ≡ (geometric m q h + power_mod m q h * geometric m q h) % m
unfolding geometric
geometric-doubled m q h =
    ap (λ y. y % m) (sum_below-append h h (λ l. power_mod m q l))
    ∙ same-add m (sum_below h (λ l. power_mod m q l)) (sum_below h (λ l. power_mod m q l)) _ _ refl
    (same-sum_below m h _ (λ i. power_mod m q h * power_mod m q i) (λ i _. ap (λ y. y % m) (power_mod-add m q h i) ∙ mod-mod (power_mod m q h * power_mod m q i) m)
    ∙ ap (λ y. y % m) (sym (mul-sum_below h (power_mod m q h) (λ l. power_mod m q l))))

-- the sum and the power of twice as many, of the sum s and the power p
pub doubled_sum : (m q h s p more sum : ℕ) → s ≡ sum_below h (λ l. power_mod m q l) % m → p ≡ power_mod m q h →
    more ≡ product_mod m p s → sum ≡ sum_mod m s more → sum ≡ sum_below (h + h) (λ l. power_mod m q l) % m
unfolding geometric
doubled_sum m q h s p more sum s_is p_is more_is sum_is =
    sum_is
    ∙ same-add m s (geometric m q h) more (power_mod m q h * geometric m q h)
    (ap (λ y. y % m) s_is ∙ mod-mod (geometric m q h) m)
    (ap (λ y. y % m) more_is ∙ mod-mod (p * s) m ∙ ap₂ (λ x y. (x * y) % m) p_is s_is
    ∙ same-mul m (power_mod m q h) (power_mod m q h) (geometric m q h % m) (geometric m q h) refl (mod-mod (geometric m q h) m))
    ∙ sym (geometric-doubled m q h)

pub doubled_power : (m q h p power : ℕ) → p ≡ power_mod m q h → power ≡ product_mod m p p →
    power ≡ power_mod m q (h + h)
doubled_power m q h p power p_is power_is = power_is ∙ ap (λ y. (y * y) % m) p_is ∙ sym (power_mod-add m q h h)

-- one more power
pub next_sum : (m q n sum power total : ℕ) → sum ≡ sum_below n (λ l. power_mod m q l) % m → power ≡ power_mod m q n →
    total ≡ sum_mod m sum power → total ≡ sum_below (n + 1) (λ l. power_mod m q l) % m
unfolding geometric
next_sum m q n sum power total sum_is power_is total_is =
    total_is
    ∙ ap₂ (λ x y. (x + y) % m) sum_is power_is
    ∙ same-add m (geometric m q n % m) (geometric m q n) (power_mod m q n) (power_mod m q n) (mod-mod (geometric m q n) m) refl
    ∙ ap (λ k. sum_below k (λ l. power_mod m q l) % m) (sym (add-one n))

pub next_power : (m q n power next : ℕ) → power ≡ power_mod m q n → next ≡ product_mod m power q →
    next ≡ power_mod m q (n + 1)
next_power m q n power next power_is next_is =
    next_is ∙ ap (λ y. (y * q) % m) power_is
    ∙ same-mul m (power_mod m q n) (power_mod m q n) q (power_mod m q 1) refl (sym (ap (λ y. y % m) (power_mod-one m q) ∙ mod-mod q m))
    ∙ sym (power_mod-add m q n 1)

-- ---- power sums as sums of powers of one number

pub power_sum_by_powers : (m n w k q sum : ℕ) → q ≡ power_mod m w k → sum ≡ sum_below n (λ l. power_mod m q l) % m →
    sum ≡ power_sum m n w k
power_sum_by_powers m n w k q sum q_is sum_is =
    sum_is ∙ same-sum_below m n _ _ (λ l _. ap (λ y. y % m) (ap (λ y. power_mod m y l) q_is ∙ power_mod_of_power m w k l))
