-- The law of cyclic convolution.
use Rattle.std.proofs.Common.{◌≡◌, ℕ, ◌+◌, ◌-◌, ◌*◌, ◌%◌, ◌<◌, arith, refl, sym, ap, ap₂, ◌∙◌, List, mod-lt, mul_comm}
use Rattle.std.proofs.Common.{mul-zero}
use Rattle.std.proofs.Math.Nat.{one-mul}
use Rattle.std.specs.Prelude.{slice_index}
use Rattle.std.proofs.lemmas.Nat.{mul-mod, mul-mod_first, mul-mod_second}
use Rattle.ring_mod.specs.Inverse.{inverse_mod}
use Rattle.ring_mod.specs.Residue.{power_mod, difference_mod}
use Rattle.ring_mod.proofs.Congruence.{same-mul}
use Rattle.ring_mod.proofs.InverseLaws.{inverse_mod-times}
use Rattle.ring_mod.proofs.Powers.{power_mod_of_power, power_mod_times}
use Rattle.matrix_meaning.specs.declared.Kind.TheVariants.{Dft}
use Rattle.matrix_meaning.specs.Kind.{transform, entry_of, inverse_root}
use Rattle.matrix_meaning.specs.Convolution.{IsPrincipal, ConvolutionByTransforms, ConvolutionByDiagonal, entrywise}
use Rattle.matrix_meaning.proofs.InverseTransform.{inverse_transform_is}
use Rattle.matrix_meaning.proofs.PowerSums.{power_sum-matches, power_sum-differs}
use Rattle.operators.specs.Sum.{sum_below}
use Rattle.operators.proofs.Lists.{at-list_below, list_below-same}
use Rattle.operators.proofs.Matrices.{at-matrix_times}
use Rattle.operators.proofs.Scatters.{sum_below-only}
use Rattle.operators.proofs.Sums.{sum_below-same, sum_below-swap, mul-sum_below, same-sum_below}

-- ---- products of sums

product_of_sums : (a b : ℕ) (f g : ℕ → ℕ) → sum_below a f * sum_below b g
    ≡ sum_below a (λ i. sum_below b (λ j. f i * g j))
product_of_sums a b f g =
    mul_comm (sum_below a f) (sum_below b g)
    ∙ mul-sum_below a (sum_below b g) f
    ∙ sum_below-same a _ _ (λ i _. mul_comm (sum_below b g) (f i) ∙ mul-sum_below b (f i) g)

-- a factor times two sums, each reduced
product_of_reduced : (m n v : ℕ) (f g : ℕ → ℕ) → (v * ((sum_below n f % m) * (sum_below n g % m))) % m
    ≡ sum_below n (λ a. sum_below n (λ b. v * (f a * g b))) % m
product_of_reduced m n v f g =
    same-mul m v v ((sum_below n f % m) * (sum_below n g % m)) (sum_below n f * sum_below n g) refl (sym (mul-mod (sum_below n f) (sum_below n g) m))
    ∙ ap (λ y. (v * y) % m) (product_of_sums n n f g)
    ∙ ap (λ y. y % m) (mul-sum_below n v (λ a. sum_below n (λ b. f a * g b)) ∙ sum_below-same n _ _ (λ a _. mul-sum_below n v (λ b. f a * g b)))

-- ---- powers

-- three powers at the items y of h and z of x are one power at their product
powers-joined : (m n w k j a b y z : ℕ) →
    (power_mod m (inverse_root m n w) (k * j) * ((power_mod m w (j * a) * y) * (power_mod m w (j * b) * z))) % m
    ≡ ((y * z) * power_mod m w (((n - 1) * k + (a + b)) * j)) % m
powers-joined m n w k j a b y z =
    ap (λ u. u % m) (regrouped (power_mod m (inverse_root m n w) (k * j)) (power_mod m w (j * a)) (power_mod m w (j * b)))
    ∙ ap (λ u. (u * (power_mod m w (j * a) * (power_mod m w (j * b) * (y * z)))) % m) (power_mod_of_power m w (n - 1) (k * j))
    ∙ same-mul m (power_mod m w ((n - 1) * (k * j))) (power_mod m w ((n - 1) * (k * j)))
    (power_mod m w (j * a) * (power_mod m w (j * b) * (y * z))) (power_mod m w (j * a + j * b) * (y * z)) refl (power_mod_times m w (j * a) (j * b) (y * z))
    ∙ power_mod_times m w ((n - 1) * (k * j)) (j * a + j * b) (y * z)
    ∙ ap (λ e. (power_mod m w e * (y * z)) % m) (exponents (n - 1))
    ∙ ap (λ u. u % m) (mul_comm (power_mod m w (((n - 1) * k + (a + b)) * j)) (y * z))
  where
    regrouped : (p q r : ℕ) → p * ((q * y) * (r * z)) ≡ p * (q * (r * (y * z)))
    regrouped p q r = omega arith

    exponents : (q : ℕ) → q * (k * j) + (j * a + j * b) ≡ (q * k + (a + b)) * j
    exponents q = omega arith

-- ---- the row k

module _ (m n w : ℕ) (h x : List ℕ) (root : power_mod m w n ≡ 1 % m) (principal : IsPrincipal m n w) where
  -- the sum over j of the powers for the items a of h and b of x
  weight : ℕ → ℕ → ℕ → ℕ
  weight k a b = sum_below n (λ j. power_mod m w (((n - 1) * k + (a + b)) * j))

  -- of the items b one alone counts
  one_item : (k a : ℕ) → a < n → sum_below n (λ b. (slice_index h a * slice_index x b) * weight k a b) % m
      ≡ (n * (slice_index h a * slice_index x (difference_mod n k a))) % m
  unfolding weight
  one_item k a below =
      let positive : 0 < n = omega arith in
      let t = difference_mod n k a in
      same-sum_below m n _ (λ b. (slice_index h a * slice_index x b) * (weight k a b % m)) (λ b _. sym (mul-mod_second (slice_index h a * slice_index x b) (weight k a b) m))
      ∙ ap (λ y. y % m) (sum_below-only n t (λ b. (slice_index h a * slice_index x b) * (weight k a b % m)) (mod-lt (k + (n - a)) positive) (λ b within apart.
      ap (λ y. (slice_index h a * slice_index x b) * y) (power_sum-differs m n w k a b root principal below within apart) ∙ mul-zero (slice_index h a * slice_index x b)))
      ∙ ap (λ y. ((slice_index h a * slice_index x t) * y) % m) (power_sum-matches m n w k a t root below refl)
      ∙ mul-mod_second (slice_index h a * slice_index x t) n m
      ∙ ap (λ y. y % m) (mul_comm (slice_index h a * slice_index x t) n)

  joined : ℕ → ℕ → ℕ → ℕ → ℕ
  joined k j a b = (slice_index h a * slice_index x b) * power_mod m w (((n - 1) * k + (a + b)) * j)

  row_item : (k j : ℕ) → j < n →
      (power_mod m (inverse_root m n w) (k * j) * (slice_index (transform Dft m n w h) j * slice_index
      (transform Dft m n w x) j)) % m
      ≡ sum_below n (λ a. sum_below n (λ b. joined k j a b)) % m
  unfolding joined
  row_item k j below =
      ap₂ (λ y z. (power_mod m (inverse_root m n w) (k * j) * (y * z)) % m)
      (at-matrix_times m n (entry_of Dft m n w) h j below) (at-matrix_times m n (entry_of Dft m n w) x j below)
      ∙ product_of_reduced m n (power_mod m (inverse_root m n w) (k * j)) (λ a. power_mod m w (j * a) * slice_index h a) (λ b. power_mod m w (j * b) * slice_index x b)
      ∙ same-sum_below m n _ _ (λ a _. same-sum_below m n _ _ (λ b _. powers-joined m n w k j a b (slice_index h a) (slice_index x b)))

  -- n times the item k of the convolution
  row_total : (k : ℕ) →
      sum_below n (λ j. power_mod m (inverse_root m n w) (k * j)
      * (slice_index (transform Dft m n w h) j * slice_index (transform Dft m n w x) j)) % m
      ≡ (n * sum_below n (λ a. slice_index h a * slice_index x (difference_mod n k a))) % m
  unfolding joined weight
  row_total k =
      same-sum_below m n _ (λ j. sum_below n (λ a. sum_below n (joined k j a))) (λ j below. row_item k j below)
      ∙ ap (λ y. y % m)
      (sum_below-swap n n (λ j a. sum_below n (joined k j a))
      ∙ sum_below-same n _ _ (λ a _. sum_below-swap n n (λ j b. joined k j a b)
      ∙ sum_below-same n _ _ (λ b _. sym (mul-sum_below n (slice_index h a * slice_index x b) (λ j. power_mod m w (((n - 1) * k + (a + b)) * j))))))
      ∙ same-sum_below m n _ _ (λ a below. one_item k a below)
      ∙ ap (λ y. y % m) (sym (mul-sum_below n n (λ a. slice_index h a * slice_index x (difference_mod n k a))))

-- ---- the two forms of the law

divided : (m n c total : ℕ) → (n * c) % m ≡ 1 % m → (c * (n * total)) % m ≡ total % m
divided m n c total e =
    let regrouped : c * (n * total) ≡ (n * c) * total = omega arith in
    ap (λ y. y % m) regrouped ∙ same-mul m (n * c) 1 total total e refl ∙ ap (λ y. y % m) (one-mul total)

pub convolution_by_transforms : ConvolutionByTransforms
convolution_by_transforms m n w h x positive root coprime principal =
    let z = entrywise m n (transform Dft m n w h) (transform Dft m n w x) in
    inverse_transform_is m n w z
    ∙ list_below-same n _ _ (λ k row.
    ap (λ y. (inverse_mod m n * y) % m)
    (at-matrix_times m n (entry_of Dft m n (inverse_root m n w)) z k row
    ∙ same-sum_below m n _ _ (λ j below.
    ap (λ y. (power_mod m (inverse_root m n w) (k * j) * y) % m) (at-list_below n _ j below)
    ∙ mul-mod_second (power_mod m (inverse_root m n w) (k * j)) (slice_index (transform Dft m n w h) j * slice_index (transform Dft m n w x) j) m)
    ∙ row_total m n w h x root principal k)
    ∙ mul-mod_second (inverse_mod m n) (n * sum_below n (λ a. slice_index h a * slice_index x (difference_mod n k a))) m
    ∙ divided m n (inverse_mod m n) (sum_below n (λ a. slice_index h a * slice_index x (difference_mod n k a))) (inverse_mod-times m n positive coprime))

-- a constant inside of a product comes to its front
constant-out : (m p c y z : ℕ) → (p * (((c * y % m) * z) % m)) % m ≡ (c * (p * (y * z))) % m
constant-out m p c y z =
    let regrouped : p * ((c * y) * z) ≡ c * (p * (y * z)) = omega arith in
    mul-mod_second p ((c * y % m) * z) m
    ∙ same-mul m p p ((c * y % m) * z) ((c * y) * z) refl (mul-mod_first (c * y) z m)
    ∙ ap (λ u. u % m) regrouped

pub convolution_by_diagonal : ConvolutionByDiagonal
convolution_by_diagonal m n w h x positive root coprime principal =
    list_below-same n _ _ (λ k row.
    same-sum_below m n _ (λ j. inverse_mod m n * (power_mod m (inverse_root m n w) (k * j) * (slice_index (transform Dft m n w h) j * slice_index (transform Dft m n w x) j))) (λ j below.
    ap (λ y. (power_mod m (inverse_root m n w) (k * j) * y) % m) (at-list_below n _ j below)
    ∙ constant-out m (power_mod m (inverse_root m n w) (k * j)) (inverse_mod m n) (slice_index (transform Dft m n w h) j) (slice_index (transform Dft m n w x) j))
    ∙ ap (λ y. y % m) (sym (mul-sum_below n (inverse_mod m n) (λ j. power_mod m (inverse_root m n w) (k * j) * (slice_index (transform Dft m n w h) j * slice_index (transform Dft m n w x) j))))
    ∙ same-mul m (inverse_mod m n) (inverse_mod m n) _ (n * sum_below n (λ a. slice_index h a * slice_index x (difference_mod n k a))) refl (row_total m n w h x root principal k)
    ∙ divided m n (inverse_mod m n) (sum_below n (λ a. slice_index h a * slice_index x (difference_mod n k a))) (inverse_mod-times m n positive coprime))
