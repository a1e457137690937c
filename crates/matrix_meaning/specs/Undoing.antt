-- The inverse transform and the transform undo each other.
use Rattle.std.specs.Prelude.{◌≡◌, ℕ, ◌%◌, ◌<◌, List, length, All}
use Rattle.std.specs.Int.{IsGcd}
use Rattle.ring_mod.specs.Residue.{power_mod}
use Rattle.operators.specs.Operator.{Operator}
use Rattle.matrix_meaning.specs.declared.Kind.TheVariants.{Dft, Idft}
use Rattle.matrix_meaning.specs.Kind.{transform}
use Rattle.matrix_meaning.specs.Convolution.{IsPrincipal}

-- the second gives back each list of n residues modulo m of which the first was taken
abbrev pub Undoes : ℕ → ℕ → Operator → Operator → Type 0
Undoes m n second first = (x : List ℕ) → length x ≡ n → All (λ v. v < m) x → second (first x) ≡ x

-- Where the root to the power of the size is 1, its power sums are 0 and the size has an inverse, the inverse transform undoes the transform
abbrev pub InverseUndoes : Type 0
InverseUndoes =
    (m n w : ℕ) → 0 < m → 0 < n → power_mod m w n ≡ 1 % m → IsGcd n m 1 → IsPrincipal m n w →
    Undoes m n (transform Idft m n w) (transform Dft m n w)

-- and the transform undoes the inverse one
abbrev pub TransformUndoes : Type 0
TransformUndoes =
    (m n w : ℕ) → 0 < m → 0 < n → power_mod m w n ≡ 1 % m → IsGcd n m 1 → IsPrincipal m n w →
    Undoes m n (transform Dft m n w) (transform Idft m n w)
