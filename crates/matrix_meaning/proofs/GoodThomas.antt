-- The law of Good and Thomas.
use Rattle.std.proofs.Common.{◌≡◌, ℕ, ◌+◌, ◌*◌, ◌/◌, ◌%◌, ◌<◌, arith, refl, sym, ap, ap₂, ◌∙◌, List, mod-lt}
use Rattle.std.proofs.Common.{mod-eq_of_lt, mul_comm, subst}
use Rattle.std.specs.Int.{IsGcd}
use Rattle.std.proofs.Math.Nat.{add-mul-mod_self_left, one-mul, mul-one, mul-pos, mod-mod_of_dvd, dvd-mul_right}
use Rattle.std.proofs.Math.Nat.{dvd-mul_left}
use Rattle.std.proofs.lemmas.Nat.{mul-mod_second}
use Rattle.ring_mod.specs.Residue.{power_mod}
use Rattle.ring_mod.proofs.Powers.{power_mod-mod, power_mod-add, power_mod-same, power_mod_of_power}
use Rattle.ring_mod.proofs.Inverses.{AreInverses, inverse_of_s, inverse_of_r, inverses_of}
use Rattle.ring_mod.proofs.Congruence.{same-add, same-mul, mul-mod_of_product}
use Rattle.std.specs.Prelude.{slice_index}
use Rattle.matrix_meaning.specs.declared.Kind.TheVariants.{Dft}
use Rattle.matrix_meaning.specs.Kind.{transform, entry_of}
use Rattle.matrix_meaning.specs.Laws.{GoodThomas}
use Rattle.operators.specs.Operator.{gather, on_columns, on_blocks, good_thomas_in, good_thomas_out}
use Rattle.operators.specs.Sum.{sum_below}
use Rattle.operators.proofs.Matrices.{at-matrix_times, on_columns-on_blocks}
use Rattle.operators.proofs.Sums.{sum_below-same, same-sum_below}
use Rattle.operators.proofs.Lists.{by_rows, row-of, column-of, place_below, factor_positive, at-list_below}
use Rattle.operators.proofs.Lists.{list_below-same}
use Rattle.operators.proofs.Permutations.{sum_below-permuted}
use Rattle.operators.specs.Loop.{IsPermutationBelow}

-- where the item l stands
good_thomas_back : ℕ → ℕ → ℕ → ℕ → ℕ → ℕ
good_thomas_back r s u v l = ((l * u) % r) * s + (l * v) % s

in-place : (r s i j : ℕ) → j < s → good_thomas_in r s (i * s + j) ≡ (s * i + r * j) % (r * s)
in-place r s i j below = ap₂ (λ a b. (s * a + r * b) % (r * s)) (row-of i j s below) (column-of i j s below)

module _ (r s u v : ℕ) (r_positive : 0 < r) (s_positive : 0 < s) (inverses : AreInverses r s u v) where
  back_below : (l : ℕ) → good_thomas_back r s u v l < r * s
  unfolding good_thomas_back
  back_below l = place_below ((l * u) % r) ((l * v) % s) r s (mod-lt (l * u) r_positive) (mod-lt (l * v) s_positive)

  there-back : (l : ℕ) → l < r * s → good_thomas_in r s (good_thomas_back r s u v l) ≡ l
  unfolding good_thomas_back
  there-back l below =
      let regrouped : s * (l * u) + r * (l * v) ≡ l * (s * u + r * v) = omega arith in
      let other : (r * ((l * v) % s)) % (r * s) ≡ (r * (l * v)) % (r * s) =
      ap (λ n. (r * ((l * v) % s)) % n) (mul_comm r s) ∙ mul-mod_of_product s r (l * v) ∙ ap (λ n. (r * (l * v)) % n) (mul_comm s r) in
      in-place r s ((l * u) % r) ((l * v) % s) (mod-lt (l * v) s_positive)
      ∙ same-add (r * s) (s * ((l * u) % r)) (s * (l * u)) (r * ((l * v) % s)) (r * (l * v)) (mul-mod_of_product r s (l * u)) other
      ∙ ap (λ n. n % (r * s)) regrouped
      ∙ same-mul (r * s) l l (s * u + r * v) 1 refl inverses.of_sum
      ∙ ap (λ n. n % (r * s)) (mul-one l)
      ∙ mod-eq_of_lt below

  row-back : (i j : ℕ) → i < r → (((s * i + r * j) % (r * s)) * u) % r ≡ i
  row-back i j below =
      let regrouped : (s * i + r * j) * u ≡ s * u * i + r * (j * u) = omega arith in
      same-mul r ((s * i + r * j) % (r * s)) (s * i + r * j) u u (mod-mod_of_dvd r (s * i + r * j) (dvd-mul_right r s)) refl
      ∙ ap (λ n. n % r) regrouped
      ∙ add-mul-mod_self_left (s * u * i) r (j * u)
      ∙ same-mul r (s * u) 1 i i (inverse_of_s r s u v inverses) refl
      ∙ ap (λ n. n % r) (one-mul i)
      ∙ mod-eq_of_lt below

  column-back : (i j : ℕ) → j < s → (((s * i + r * j) % (r * s)) * v) % s ≡ j
  column-back i j below =
      let regrouped : (s * i + r * j) * v ≡ r * v * j + s * (i * v) = omega arith in
      same-mul s ((s * i + r * j) % (r * s)) (s * i + r * j) v v (mod-mod_of_dvd s (s * i + r * j) (dvd-mul_left s r)) refl
      ∙ ap (λ n. n % s) regrouped
      ∙ add-mul-mod_self_left (r * v * j) s (i * v)
      ∙ same-mul s (r * v) 1 j j (inverse_of_r r s u v inverses) refl
      ∙ ap (λ n. n % s) (one-mul j)
      ∙ mod-eq_of_lt below

  back-there : (p : ℕ) → p < r * s → good_thomas_back r s u v (good_thomas_in r s p) ≡ p
  unfolding good_thomas_back
  back-there =
      by_rows r s (λ p. good_thomas_back r s u v (good_thomas_in r s p) ≡ p) (λ i j row below.
      ap (λ l. ((l * u) % r) * s + (l * v) % s) (in-place r s i j below)
      ∙ ap₂ (λ a b. a * s + b) (row-back i j row) (column-back i j below))

  in_below : (p : ℕ) → good_thomas_in r s p < r * s
  in_below p = mod-lt (s * (p / s) + r * (p % s)) (mul-pos r_positive s_positive)

  in_permutes : IsPermutationBelow (r * s) (good_thomas_in r s) (good_thomas_back r s u v)
  in_permutes = record {
    there_below = λ p _. in_below p;
    back_below = λ l _. back_below l;
    back-there = back-there;
    there-back = there-back;
  }

-- the entry in row k at the item that stands at i * s + j is the product of the two entries that lead there
gt-entry : (m r s w k i j : ℕ) → power_mod m w (r * s) ≡ 1 % m →
    power_mod m w (k * ((s * i + r * j) % (r * s))) ≡ (power_mod m (power_mod m w s)
    ((k % r) * i) * power_mod m (power_mod m w r) ((k % s) * j)) % m
gt-entry m r s w k i j root =
    let left = s * ((k % r) * i) in
    let right = r * ((k % s) * j) in
    let regrouped : k * (s * i + r * j) ≡ s * k * i + r * k * j = omega arith in
    let regrouped_left : s * (k % r) * i ≡ left = omega arith in
    let regrouped_right : r * (k % s) * j ≡ right = omega arith in
    let turned : (r * (k % s)) % (r * s) ≡ (r * k) % (r * s) =
    ap (λ n. (r * (k % s)) % n) (mul_comm r s) ∙ mul-mod_of_product s r k ∙ ap (λ n. (r * k) % n) (mul_comm s r) in
    let exponents : (k * ((s * i + r * j) % (r * s))) % (r * s) ≡ (left + right) % (r * s) =
    mul-mod_second k (s * i + r * j) (r * s)
    ∙ ap (λ n. n % (r * s)) regrouped
    ∙ sym (same-add (r * s) left (s * k * i) right (r * k * j)
    (ap (λ n. n % (r * s)) (sym regrouped_left) ∙ same-mul (r * s) (s * (k % r)) (s * k) i i (mul-mod_of_product r s k) refl)
    (ap (λ n. n % (r * s)) (sym regrouped_right) ∙ same-mul (r * s) (r * (k % s)) (r * k) j j turned refl))
    in
    power_mod-same m w (r * s) (k * ((s * i + r * j) % (r * s))) (left + right) root exponents
    ∙ power_mod-add m w left right
    ∙ sym (ap₂ (λ p q. (p * q) % m) (power_mod_of_power m w s ((k % r) * i)) (power_mod_of_power m w r ((k % s) * j)))

module _ (m r s w : ℕ) (x : List ℕ) (root : power_mod m w (r * s) ≡ 1 % m) (coprime : IsGcd r s 1) where
  tensor-entry : ℕ → ℕ → ℕ
  tensor-entry p q = power_mod m (power_mod m w s) ((p / s) * (q / s)) * power_mod m (power_mod m w r) ((p % s) * (q % s))

  good_thomas_at : (k : ℕ) → k < r * s →
      sum_below (r * s) (λ l. power_mod m w (k * l) * slice_index x l) % m
      ≡ sum_below (r * s) (λ q. tensor-entry (good_thomas_out r s k) q * slice_index x (good_thomas_in r s q)) % m
  unfolding tensor-entry
  good_thomas_at k below =
      let s_positive : 0 < s = factor_positive r s k below in
      let r_positive : 0 < r = factor_positive s r k (subst (λ n. k < n) (mul_comm r s) below) in
      let (u, v, inverses) = inverses_of r s r_positive coprime in
      sym (ap (λ n. n % m) (sum_below-permuted (r * s) (good_thomas_in r s) (good_thomas_back r s u v) (λ l. power_mod m w (k * l) * slice_index x l)
      (in_permutes r s u v r_positive s_positive inverses)))
      ∙ same-sum_below m (r * s) _ _ (λ q _.
      same-mul m (power_mod m w (k * good_thomas_in r s q)) (tensor-entry (good_thomas_out r s k) q)
      (slice_index x (good_thomas_in r s q)) (slice_index x (good_thomas_in r s q))
      (power_mod-mod m w (k * good_thomas_in r s q) ∙ gt-entry m r s w k (q / s) (q % s) root
      ∙ sym (ap₂ (λ a b. (power_mod m (power_mod m w s) (a * (q / s)) * power_mod m (power_mod m w r) (b * (q % s))) % m)
      (row-of (k % r) (k % s) s (mod-lt k s_positive)) (column-of (k % r) (k % s) s (mod-lt k s_positive))))
      refl)

  out_below : (k : ℕ) → k < r * s → good_thomas_out r s k < r * s
  out_below k below =
      place_below (k % r) (k % s) r s
      (mod-lt k (factor_positive s r k (subst (λ n. k < n) (mul_comm r s) below))) (mod-lt k (factor_positive r s k below))

  outputs_at : (k : ℕ) → k < r * s →
      slice_index (on_columns r s (transform Dft m r (power_mod m w s))
      (on_blocks r s (transform Dft m s (power_mod m w r)) (gather (r * s) (good_thomas_in r s) x)))
      (good_thomas_out r s k)
      ≡ sum_below (r * s) (λ q. tensor-entry (good_thomas_out r s k) q * slice_index x (good_thomas_in r s q)) % m
  unfolding tensor-entry
  outputs_at k below =
      ap (λ y. slice_index y (good_thomas_out r s k))
      (on_columns-on_blocks m r s (entry_of Dft m r (power_mod m w s)) (entry_of Dft m s (power_mod m w r))
      (gather (r * s) (good_thomas_in r s) x))
      ∙ at-matrix_times m (r * s) tensor-entry (gather (r * s) (good_thomas_in r s) x) (good_thomas_out r s k) (out_below k below)
      ∙ ap (λ n. n % m) (sum_below-same (r * s) _ _ (λ q within. ap (λ y. tensor-entry (good_thomas_out r s k) q * y) (at-list_below (r * s) _ q within)))

pub good_thomas : GoodThomas
good_thomas m r s w x root coprime =
    list_below-same (r * s) _ _ (λ k below. good_thomas_at m r s w x root coprime k below ∙ sym (outputs_at m r s w x root coprime k below))
