-- The convolution with 1, 0, 0, .. changes nothing, so the transforms undo each other.
use Rattle.std.proofs.Common.{◌≡◌, ◌≢◌, ℕ, zero, suc, ◌+◌, ◌-◌, ◌*◌, ◌%◌, ◌<◌, arith, refl, sym, ap, ap₂, subst, ◌∙◌}
use Rattle.std.proofs.Common.{List, length, mul_comm, mul-zero}
use Rattle.std.proofs.Math.Nat.{one-mul}
use Rattle.std.specs.Prelude.{slice_index}
use Rattle.std.specs.List.{All}
use Rattle.std.proofs.lemmas.List.FromFn.{fill_by_all}
use Rattle.std.proofs.lemmas.Nat.{mod-mul-add, mul-mod, mul-mod_first, mul-mod_second}
use Rattle.ring_mod.specs.Inverse.{inverse_mod}
use Rattle.ring_mod.specs.Residue.{power_mod, difference_mod}
use Rattle.ring_mod.proofs.Powers.{power_mod-drop, power_mod-mod, power_mod-zero, power_mod_of_power}
use Rattle.matrix_meaning.specs.declared.Kind.TheVariants.{Dft, Idft}
use Rattle.matrix_meaning.specs.Kind.{transform, entry_of, inverse_root}
use Rattle.matrix_meaning.proofs.InverseTransform.{inverse_root_is_root, inverse_transform_is}
use Rattle.operators.specs.Sum.{sum_below, list_below}
use Rattle.operators.proofs.Lists.{at-list_below, list_below-same}
use Rattle.operators.proofs.Matrices.{at-matrix_times, matrix_times-same}
use Rattle.operators.proofs.Scatters.{sum_below-only}
use Rattle.operators.proofs.Sums.{sum_below-same}
use Rattle.matrix_meaning.specs.Convolution.{IsPrincipal, convolution, convolution_factor, entrywise}
use Rattle.matrix_meaning.specs.Undoing.{InverseUndoes, TransformUndoes}
use Rattle.matrix_meaning.proofs.ConvolutionLaw.{convolution_by_diagonal, convolution_by_transforms}

-- ---- the list 1, 0, 0, ..

first_alone : ℕ → ℕ
first_alone zero = 1
first_alone (suc l) = 0

unit : ℕ → List ℕ
unit n = list_below n first_alone

module _ (n : ℕ) (some : 0 < n) where
  -- of a sum over its items one alone counts
  unit-sum : (f : ℕ → ℕ) → sum_below n (λ l. slice_index (unit n) l * f l) ≡ f 0
  unfolding unit first_alone
  unit-sum f =
      sum_below-same n _ (λ l. first_alone l * f l) (λ l low. ap (λ y. y * f l) (at-list_below n first_alone l low))
      ∙ sum_below-only n 0 (λ l. first_alone l * f l) some (λ l low apart. none l apart)
      ∙ one-mul (f 0)
    where
      none : (l : ℕ) → l ≢ 0 → first_alone l * f l ≡ 0
      none zero apart = absurd (apart refl)
      none (suc l) apart = omega arith

  -- its transform is 1, 1, 1, ..
  unit-transform : (m w k : ℕ) → k < n → slice_index (transform Dft m n w (unit n)) k ≡ 1 % m
  unit-transform m w k low =
      at-matrix_times m n (entry_of Dft m n w) (unit n) k low
      ∙ ap (λ y. y % m) (sum_below-same n _ _ (λ l _. mul_comm (power_mod m w (k * l)) (slice_index (unit n) l)) ∙ unit-sum (λ l. power_mod m w (k * l)))
      ∙ ap (λ e. power_mod m w e % m) (mul-zero k)
      ∙ power_mod-mod m w 0
      ∙ power_mod-zero m w

  -- which times a transform is that transform
  unit-entrywise : (m w : ℕ) (x : List ℕ) → entrywise m n (transform Dft m n w (unit n)) (transform Dft m n w x)
      ≡ transform Dft m n w x
  unit-entrywise m w x =
      list_below-same n _ _ (λ i low.
      let total = sum_below n (λ l. power_mod m w (i * l) * slice_index x l) in
      ap₂ (λ a b. (a * b) % m) (unit-transform m w i low) (at-matrix_times m n (entry_of Dft m n w) x i low)
      ∙ sym (mul-mod 1 total m)
      ∙ ap (λ y. y % m) (one-mul total))

  residue : (m a : ℕ) → a < m → a % m ≡ a
  residue m a low = let is : a ≡ 0 * m + a = omega arith in ap (λ y. y % m) is ∙ mod-mul-add 0 m a low

  -- the convolution with it changes nothing
  unit-convolution : (m : ℕ) (x : List ℕ) → length x ≡ n → All (λ v. v < m) x → convolution m n (unit n) x ≡ x
  unit-convolution m x size residues =
      sym (fill_by_all (λ k. sum_below n (λ l. slice_index (unit n) l * slice_index x (difference_mod n k l)) % m) x n 0 size (λ k low. sym (
      ap (λ y. y % m) (unit-sum (λ l. slice_index x (difference_mod n k l)))
      ∙ ap (λ p. slice_index x p % m) (back k low)
      ∙ residue m (slice_index x k) (residues k 0 (omega (arith, low, size))))))
    where
      back : (k : ℕ) → k < n → (k + (n - 0)) % n ≡ k
      back k low = let is : k + (n - 0) ≡ 1 * n + k = omega arith in ap (λ y. y % n) is ∙ mod-mul-add 1 n k low

-- its factors are all 1 / n
unit-factor : (n : ℕ) → 0 < n → (m w k z : ℕ) → k < n → (convolution_factor m n w (unit n) k * z) % m
    ≡ (inverse_mod m n * z) % m
unit-factor n some m w k z low =
    let c = inverse_mod m n in
    let once : c * 1 ≡ c = omega arith in
    ap (λ y. (((c * y) % m) * z) % m) (unit-transform n some m w k low)
    ∙ ap (λ y. (y * z) % m) (mul-mod_second c 1 m)
    ∙ mul-mod_first (c * 1) z m
    ∙ ap (λ y. (y * z) % m) once

pub inverse_undoes : InverseUndoes
inverse_undoes m n w positive some root coprime principal x size residues =
    ap (transform Idft m n w) (sym (unit-entrywise n some m w x))
    ∙ convolution_by_transforms m n w (unit n) x positive root coprime principal
    ∙ unit-convolution n some m x size residues

-- ---- the inverse root is such a root, and its inverse is the root

-- from the power n - 1 to the power n - 1 of that
twice-inverse : (m p w e : ℕ) → power_mod m w (suc p) ≡ 1 % m → power_mod m w (p * (p * e)) ≡ power_mod m w e
twice-inverse m zero w e root =
    let none : 0 * (0 * e) ≡ 0 = omega arith in
    let all : 1 * e + 0 ≡ e = omega arith in
    ap (power_mod m w) none ∙ sym (power_mod-drop m w 1 e 0 root) ∙ ap (power_mod m w) all
twice-inverse m (suc q) w e root =
    let is : suc q * (suc q * e) ≡ suc (suc q) * (q * e) + e = omega arith in
    ap (power_mod m w) is ∙ power_mod-drop m w (suc (suc q)) (q * e) e root

back-again : (m n w e : ℕ) → 0 < n → power_mod m w n ≡ 1 % m →
    power_mod m (inverse_root m n (inverse_root m n w)) e ≡ power_mod m w e
back-again m zero w e some root = absurd (omega (arith, some))
back-again m (suc p) w e some root =
    let less : suc p - 1 ≡ p = omega arith in
    ap (λ d. power_mod m (power_mod m (power_mod m w d) d) e) less
    ∙ power_mod_of_power m (power_mod m w p) p e
    ∙ power_mod_of_power m w p (p * e)
    ∙ twice-inverse m p w e root

inverse-sum : (m j i w l : ℕ) → power_mod m w (suc j + suc i) ≡ 1 % m →
    power_mod m (power_mod m w (j + suc i)) (suc j * l) ≡ power_mod m w (suc i * l)
inverse-sum m j i w l root =
    let is : (j + suc i) * (suc j * l) ≡ (suc j + suc i) * (j * l) + suc i * l = omega arith in
    power_mod_of_power m w (j + suc i) (suc j * l) ∙ ap (power_mod m w) is ∙ power_mod-drop m w (suc j + suc i) (j * l) (suc i * l) root

inverse-principal : (m n w : ℕ) → power_mod m w n ≡ 1 % m → IsPrincipal m n w → IsPrincipal m n (inverse_root m n w)
inverse-principal m n w root principal zero from below = absurd (omega (arith, from))
inverse-principal m n w root principal (suc j) from below =
    let i = n - suc (suc j) in
    let whole : suc j + suc i ≡ n = omega (arith, below) in
    let less : n - 1 ≡ j + suc i = omega (arith, below) in
    let other = subst (λ z. power_mod m w z ≡ 1 % m) (sym whole) root in
    ap (λ y. y % m) (sum_below-same n _ _ (λ l _. ap (λ p. power_mod m (power_mod m w p) (suc j * l)) less ∙ inverse-sum m j i w l other))
    ∙ principal (suc i) (omega arith) (omega (arith, whole))

pub transform_undoes : TransformUndoes
transform_undoes m n w positive some root coprime principal x size residues =
    let v = inverse_root m n w in
    matrix_times-same m n (entry_of Dft m n w) (entry_of Dft m n (inverse_root m n v)) (transform Idft m n w x)
    (λ k l _ _. ap (λ y. y % m) (sym (back-again m n w (k * l) some root)))
    ∙ ap (transform Dft m n (inverse_root m n v))
    (inverse_transform_is m n w x
    ∙ list_below-same n _ _ (λ k low. sym (unit-factor n some m v k (slice_index (transform Dft m n v x) k) low)))
    ∙ convolution_by_diagonal m n v (unit n) x positive (inverse_root_is_root m n w root) coprime (inverse-principal m n w root principal)
    ∙ unit-convolution n some m x size residues
