-- Cyclic convolution, and its law.
use Rattle.std.specs.Prelude.{◌≡◌, ℕ, ◌*◌, ◌%◌, ◌<◌, ◌≤◌, ◌≢◌, List, slice_index}
use Rattle.std.specs.Int.{IsGcd}
use Rattle.ring_mod.specs.Inverse.{inverse_mod}
use Rattle.ring_mod.specs.Residue.{power_mod, difference_mod, product_mod}
use Rattle.operators.specs.Operator.{Operator, scale}
use Rattle.operators.specs.Sum.{sum_below, list_below}
use Rattle.matrix_meaning.specs.declared.Kind.TheVariants.{Dft, Idft}
use Rattle.matrix_meaning.specs.Kind.{inverse_root, transform}

-- h times x, cyclically: at the place k the sum over l of the item of h at l times the item of x at (k - l) mod n
abbrev pub convolution : ℕ → ℕ → List ℕ → Operator
convolution m n h x = list_below n (λ k. sum_below n (λ l. slice_index h l * slice_index x (difference_mod n k l)) % m)

-- w^0 + w^k + w^(2*k) + .. + w^((n-1)*k)
abbrev pub power_sum : ℕ → ℕ → ℕ → ℕ → ℕ
power_sum m n w k = sum_below n (λ l. power_mod m w (k * l)) % m

-- each power sum but that for 0 is 0
abbrev pub IsPrincipal : ℕ → ℕ → ℕ → Type 0
IsPrincipal m n w = (k : ℕ) → 1 ≤ k → k < n → power_sum m n w k ≡ 0

-- k is the least from 1 to n - 1 whose power sum is not 0
pub record IsFirstBadPower (m n w k : ℕ) : Type 0 where
  pub from : 1 ≤ k
  pub below : k < n
  pub bad : power_sum m n w k ≢ 0
  pub first : (j : ℕ) → 1 ≤ j → j < k → power_sum m n w j ≡ 0

-- the entrywise product of two lists
abbrev pub entrywise : ℕ → ℕ → List ℕ → Operator
entrywise m n h = scale m n (slice_index h)

-- The inverse transform of the entrywise product of the transforms of h and x is the convolution of h and x
abbrev pub ConvolutionByTransforms : Type 0
ConvolutionByTransforms =
    (m n w : ℕ) (h x : List ℕ) → 0 < m → power_mod m w n ≡ 1 % m → IsGcd n m 1 → IsPrincipal m n w →
    transform Idft m n w (entrywise m n (transform Dft m n w h) (transform Dft m n w x)) ≡ convolution m n h x

-- the transform of h, divided by n: the diagonal between the two halves of a program for convolutions with h
abbrev pub convolution_factor : ℕ → ℕ → ℕ → List ℕ → ℕ → ℕ
convolution_factor m n w h k = product_mod m (inverse_mod m n) (slice_index (transform Dft m n w h) k)

-- the same by two transforms and one diagonal between them
abbrev pub ConvolutionByDiagonal : Type 0
ConvolutionByDiagonal =
    (m n w : ℕ) (h x : List ℕ) → 0 < m → power_mod m w n ≡ 1 % m → IsGcd n m 1 → IsPrincipal m n w →
    transform Dft m n (inverse_root m n w) (scale m n (convolution_factor m n w h) (transform Dft m n w x)) ≡ convolution m n h x
