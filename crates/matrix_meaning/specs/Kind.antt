-- The transforms, by their entries.
use Rattle.std.specs.Prelude.{◌≡◌, ℕ, ◌-◌, ◌*◌, ◌%◌, ◌^◌, ◌==◌, if◌then◌else◌, bit_and, count_ones}
use Rattle.ring_mod.specs.Inverse.{inverse_mod}
use Rattle.ring_mod.specs.Residue.{power_mod, product_mod}
use Rattle.operators.specs.Operator.{Operator, matrix_times}
use Rattle.matrix_meaning.specs.declared.Kind.{Kind}
use Rattle.matrix_meaning.specs.declared.Kind.TheVariants.{Dft, Wht, Idft}

-- 1 for an even number, m - 1 for an odd one
abbrev pub sign : ℕ → ℕ → ℕ
sign m count = if count % 2 == 0 then 1 else m - 1

-- the root of the inverse transform of size n: w to the power n - 1, which times w is 1
abbrev pub inverse_root : ℕ → ℕ → ℕ → ℕ
inverse_root m n w = power_mod m w (n - 1)

-- The entry in row k and column l of a transform of size n modulo m, with the root w. That of the inverse is 1 / n times a power of
-- the inverse root
abbrev pub entry_of : Kind → ℕ → ℕ → ℕ → ℕ → ℕ → ℕ
entry_of Dft m n w k l = power_mod m w (k * l)
entry_of Wht m n w k l = sign m (count_ones (bit_and k l))
entry_of Idft m n w k l = product_mod m (inverse_mod m n) (power_mod m (inverse_root m n w) (k * l))

-- the matrix of size n, times a list, modulo m
abbrev pub transform : Kind → ℕ → ℕ → ℕ → Operator
transform kind m n w = matrix_times m n (entry_of kind m n w)

-- a size that a `Wht` may have
abbrev pub IsPowerOfTwo : ℕ → Type 0
IsPowerOfTwo n = (k : ℕ) × (n ≡ 2 ^ k)
