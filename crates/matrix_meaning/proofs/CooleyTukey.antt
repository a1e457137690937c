-- The law of Cooley and Tukey, entry by entry.
use Rattle.std.proofs.Common.{◌≡◌, ℕ, ◌+◌, ◌*◌, ◌%◌, ◌<◌, arith, refl, sym, ap, ap₂, ◌∙◌, List, mul_comm}
use Rattle.std.specs.Prelude.{slice_index}
use Rattle.ring_mod.specs.Residue.{power_mod}
use Rattle.ring_mod.proofs.Congruence.{same-mul}
use Rattle.ring_mod.proofs.Powers.{power_mod_of_power, power_mod_times, power_mod-drop}
use Rattle.matrix_meaning.specs.declared.Kind.TheVariants.{Dft}
use Rattle.matrix_meaning.specs.Kind.{transform}
use Rattle.matrix_meaning.specs.Laws.{twiddle, CooleyTukey}
use Rattle.operators.specs.Operator.{gather, scale, column, on_blocks, stride}
use Rattle.operators.specs.Sum.{sum_below}
use Rattle.operators.proofs.Sums.{sum_below-same, sum_below-swap, sum_below-rows, same-mul_mul_sum_below}
use Rattle.operators.proofs.Sums.{same-sum_below}
use Rattle.operators.proofs.Lists.{at-list_below, list_below-same_rows, at-on_blocks, at-stride, row-of, column-of}
use Rattle.operators.proofs.Lists.{place_below}

-- the entry in row a * s + b and column j * r + i is the product of the three entries that lead there
ct-entry : (m r s w a b i j y : ℕ) → power_mod m w (r * s) ≡ 1 % m →
    (power_mod m (power_mod m w s) (a * i) * (power_mod m w (i * b) * (power_mod m (power_mod m w r) (b * j) * y))) % m
    ≡ (power_mod m w ((a * s + b) * (j * r + i)) * y) % m
ct-entry m r s w a b i j y root =
    let exponent : (a * s + b) * (j * r + i) ≡ r * s * (a * j) + (s * (a * i) + (i * b + r * (b * j))) = omega arith in
    ap₂ (λ outer inner. (outer * (power_mod m w (i * b) * (inner * y))) % m) (power_mod_of_power m w s (a * i)) (power_mod_of_power m w r (b * j))
    ∙ same-mul m (power_mod m w (s * (a * i))) (power_mod m w (s * (a * i)))
    (power_mod m w (i * b) * (power_mod m w (r * (b * j)) * y)) (power_mod m w (i * b + r * (b * j)) * y)
    refl (power_mod_times m w (i * b) (r * (b * j)) y)
    ∙ power_mod_times m w (s * (a * i)) (i * b + r * (b * j)) y
    ∙ ap (λ p. (p * y) % m)
    (sym (ap (power_mod m w) exponent ∙ power_mod-drop m w (r * s) (a * j) (s * (a * i) + (i * b + r * (b * j))) root))

module _ (m r s w : ℕ) (x : List ℕ) (root : power_mod m w (r * s) ≡ 1 % m) where
  rows_done : List ℕ
  rows_done = on_blocks r s (transform Dft m s (power_mod m w r)) (gather (r * s) (stride r s) x)

  twiddled : List ℕ
  twiddled = scale m (r * s) (twiddle m s w) (on_blocks r s (transform Dft m s (power_mod m w r)) (gather (r * s) (stride r s) x))

  row_sum : ℕ → ℕ → ℕ → ℕ
  row_sum b i j = power_mod m (power_mod m w r) (b * j) * slice_index x (j * r + i)

  at-rows_done : (b i : ℕ) → i < r → b < s → slice_index rows_done (i * s + b) ≡ sum_below s (row_sum b i) % m
  unfolding rows_done row_sum
  at-rows_done b i row below =
      at-on_blocks r s (transform Dft m s (power_mod m w r)) (gather (r * s) (stride r s) x) i b row below
      ∙ at-list_below s _ b below
      ∙ ap (λ n. n % m)
      (sum_below-same s _ (row_sum b i) (λ j within. ap (λ y. power_mod m (power_mod m w r) (b * j) * y)
      (at-list_below s _ j within ∙ at-stride r s x i j row within)))

  at-twiddled : (b i : ℕ) → i < r → b < s → slice_index (column r s b twiddled) i
      ≡ (power_mod m w (i * b) * (sum_below s (row_sum b i) % m)) % m
  unfolding twiddled rows_done row_sum
  at-twiddled b i row below =
      at-list_below r _ i row
      ∙ at-list_below (r * s) _ (i * s + b) (place_below i b r s row below)
      ∙ ap₂ (λ p q. (p * q) % m)
      (ap₂ (λ p q. power_mod m w (p * q)) (row-of i b s below) (column-of i b s below))
      (at-rows_done b i row below)

  term_of : ℕ → ℕ → ℕ
  term_of k l = power_mod m w (k * l) * slice_index x l

  cooley_tukey_at : (a b : ℕ) → a < r → b < s → sum_below (r * s) (term_of (a * s + b)) % m
      ≡ slice_index (transform Dft m r (power_mod m w s) (column r s b twiddled)) a
  unfolding row_sum term_of
  cooley_tukey_at a b row below =
      ap (λ n. n % m)
      (ap (λ n. sum_below n (term_of (a * s + b))) (mul_comm r s)
      ∙ sum_below-rows s r (term_of (a * s + b))
      ∙ sum_below-swap s r (λ j i. term_of (a * s + b) (j * r + i)))
      ∙ same-sum_below m r _ _ (λ i within.
      same-sum_below m s _ _ (λ j _. sym (ct-entry m r s w a b i j (slice_index x (j * r + i)) root))
      ∙ sym (same-mul_mul_sum_below m s (power_mod m (power_mod m w s) (a * i)) (power_mod m w (i * b)) (row_sum b i))
      ∙ ap (λ y. (power_mod m (power_mod m w s) (a * i) * y) % m) (sym (at-twiddled b i within below)))
      ∙ sym (at-list_below r _ a row)

pub cooley_tukey : CooleyTukey
unfolding twiddled term_of
cooley_tukey m r s w x root =
    list_below-same_rows r s _ _ (λ a b row below.
    cooley_tukey_at m r s w x root a b row below
    ∙ sym (ap₂ (λ p q. slice_index (transform Dft m r (power_mod m w s) (column r s q (twiddled m r s w x root))) p) (row-of a b s below) (column-of a b s below)))
