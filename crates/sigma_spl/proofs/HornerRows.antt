-- Horner's rule gives the rows of a transform.
use Rattle.std.proofs.Common.{◌≡◌, ℕ, zero, suc, ◌+◌, ◌-◌, ◌*◌, ◌%◌, ◌≤◌, arith, sym, ap, ◌∙◌}
use Rattle.std.specs.Prelude.{slice_index}
use Rattle.std.proofs.Math.Nat.{mod-mod}
use Rattle.std.proofs.lemmas.Nat.{mul-mod_first}
use Rattle.operators.specs.Sum.{sum_below}
use Rattle.operators.proofs.Lists.{at-list_below}
use Rattle.operators.proofs.Sums.{sum_below-same, same-sum_below, mul-sum_below, sum_below-append}
use Rattle.sigma_spl.specs.Horner.{horner_sum, HornerRow}
use Rattle.ring_mod.specs.Residue.{power_mod}
use Rattle.ring_mod.proofs.Congruence.{same-add}
use Rattle.ring_mod.proofs.Powers.{power_mod-zero, power_mod-add}

-- the items taken in the last t turns, by rising powers
abbrev taken_sum : ℕ → ℕ → ℕ → ℕ → (ℕ → ℕ) → ℕ → ℕ
taken_sum m d w k x t = sum_below t (λ j. power_mod m w (k * j) * x (d - t + j))

-- a power more in each term
powers-more : (m w k t : ℕ) (z : ℕ → ℕ) → sum_below t (λ i. power_mod m w (k * (1 + i)) * z i) % m
    ≡ (power_mod m w k * sum_below t (λ i. power_mod m w (k * i) * z i)) % m
powers-more m w k t z =
    same-sum_below m t _ (λ i. power_mod m w k * (power_mod m w (k * i) * z i)) (λ i below.
    let e : k * (1 + i) ≡ k + k * i = omega arith in
    let turned : power_mod m w k * power_mod m w (k * i) * z i ≡ power_mod m w k * (power_mod m w (k * i) * z i) = omega arith in
    ap (λ p. (p * z i) % m) (ap (power_mod m w) e ∙ power_mod-add m w k (k * i))
    ∙ mul-mod_first (power_mod m w k * power_mod m w (k * i)) (z i) m
    ∙ ap (λ s. s % m) turned)
    ∙ ap (λ s. s % m) (sym (mul-sum_below t (power_mod m w k) _))

-- one turn more
turn-more : (m p h s r one y : ℕ) → h ≡ s % m → r % m ≡ (p * s) % m → one ≡ 1 % m →
    ((h * p) % m + y) % m ≡ (0 + one * y + r) % m
turn-more m p h s r one y h_is r_is one_is =
    let left : ((h * p) % m) % m ≡ r % m = mod-mod (h * p) m ∙ ap (λ z. (z * p) % m) h_is ∙ mul-mod_first s p m ∙ ap (λ z. z % m) (omega arith) ∙ sym r_is in
    let right : y % m ≡ (one * y) % m = ap (λ z. z % m) (omega arith) ∙ sym (mul-mod_first 1 y m) ∙ ap (λ z. (z * y) % m) (sym one_is) in
    same-add m ((h * p) % m) r y (one * y) left right ∙ ap (λ z. z % m) (omega arith)

horner-is : (m d w k : ℕ) (x : ℕ → ℕ) (t : ℕ) → t ≤ d → horner_sum m (power_mod m w k) d x t ≡ taken_sum m d w k x t % m
horner-is m d w k x zero h = zero-is m where
  zero-is : (m : ℕ) → ◌≡◌ {A = ℕ} 0 (0 % m)
  zero-is m = omega arith
horner-is m d w k x (suc t) h =
    let before = horner-is m d w k x t (omega arith) in
    let rest = sum_below t (λ i. power_mod m w (k * (1 + i)) * x (d - (1 + t) + (1 + i))) in
    let same : rest ≡ sum_below t (λ i. power_mod m w (k * (1 + i)) * x (d - t + i)) = sum_below-same t _ _ (λ i below. ap (λ j. power_mod m w (k * (1 + i)) * x j) (omega (arith, h))) in
    let first : d - (1 + t) + 0 ≡ d - 1 - t = omega arith in
    let none : k * 0 ≡ 0 = omega arith in
    let count : suc t ≡ 1 + t = omega arith in
    turn-more m (power_mod m w k) (horner_sum m (power_mod m w k) d x t) (taken_sum m d w k x t) rest (power_mod m w (k * 0)) (x (d - 1 - t)) before
    (ap (λ s. s % m) same ∙ powers-more m w k t (λ i. x (d - t + i)))
    (ap (power_mod m w) none ∙ power_mod-zero m w)
    ∙ ap (λ z. (0 + power_mod m w (k * 0) * x z + rest) % m) (sym first)
    ∙ ap (λ s. s % m) (sym (sum_below-append 1 t (λ j. power_mod m w (k * j) * x (d - (1 + t) + j))))
    ∙ ap (λ n. sum_below n (λ j. power_mod m w (k * j) * x (d - n + j)) % m) (sym count)

pub horner_row : HornerRow
horner_row m d w k x positive below =
    horner-is m d w k (slice_index x) d (omega arith)
    ∙ ap (λ s. s % m) (sum_below-same d _ _ (λ l within. ap (λ j. power_mod m w (k * l) * slice_index x j) (omega arith)))
    ∙ sym (at-list_below d _ k below)
