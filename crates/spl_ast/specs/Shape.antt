-- The shapes of the parts of a formula.
use Rattle.std.specs.Prelude.{◌≡◌, ℕ, ◌+◌, ◌*◌, ◌/◌, ◌^◌, ◌<◌, ◌≤◌, List, length, slice_index, All}
use Rattle.std.specs.Int.{IsGcd}
use Rattle.matrix_meaning.specs.Kind.{IsPowerOfTwo}
use Rattle.operators.specs.Sizes.{max_size}
use Rattle.spl_ast.specs.Formula.{Formula, Identity, Fourier, Hadamard, Twiddles, Diagonal, Stride, Permutation, GoodThomasIn, GoodThomasOut, Product, TensorLeft, TensorRight, DirectSum, Pending, size_of}

-- there is a list of this size, and it is not too long
abbrev pub IsSize : ℕ → Type 0
IsSize n = (1 ≤ n) × (n ≤ max_size)

-- a number that counts modulo m
abbrev pub IsRingValue : ℕ → Type 0
IsRingValue v = v < 2 ^ 62

-- n is r times another number
abbrev pub IsMultiple : ℕ → ℕ → Type 0
IsMultiple n r = (n / r) * r ≡ n

-- r and s have no common factor, and neither is 1
pub record AreGoodThomasFactors (r s : ℕ) : Type 0 where
  pub first : 2 ≤ r
  pub second : 2 ≤ s
  pub coprime : IsGcd r s 1

-- the list is each number below its length once
pub record IsPermutation (k : List ℕ) : Type 0 where
  pub below : (i : ℕ) → i < length k → slice_index k i < length k
  pub once : (i j : ℕ) → i < length k → j < length k → slice_index k i ≡ slice_index k j → i ≡ j

-- each part has a size, and fits the part beside it
abbrev pub IsShaped : Formula → Type 0
IsShaped (Identity n) = IsSize n
IsShaped (Fourier n w) = IsSize n × IsRingValue w
IsShaped (Hadamard n) = IsSize n × IsPowerOfTwo n
IsShaped (Twiddles n s w) = IsSize n × IsSize s × IsMultiple n s × IsRingValue w
IsShaped (Diagonal c) = IsSize (length c) × All IsRingValue c
IsShaped (Stride n r) = IsSize n × IsSize r × IsMultiple n r
IsShaped (Permutation k) = IsSize (length k) × IsPermutation k
IsShaped (GoodThomasIn r s) = IsSize (r * s) × AreGoodThomasFactors r s
IsShaped (GoodThomasOut r s) = IsSize (r * s) × AreGoodThomasFactors r s
IsShaped (Product a b) = IsShaped a × IsShaped b × (size_of a ≡ size_of b)
IsShaped (TensorLeft a k) = IsShaped a × IsSize k × IsSize (size_of a * k)
IsShaped (TensorRight k a) = IsSize k × IsShaped a × IsSize (k * size_of a)
IsShaped (DirectSum a b) = IsShaped a × IsShaped b × IsSize (size_of a + size_of b)
IsShaped (Pending a) = IsShaped a
