-- What a formula does to a list, modulo m.
use Rattle.std.specs.Prelude.{◌≡◌, ℕ, ◌*◌, ◌/◌, ◌<◌, List, ◌++◌, length, slice_index, take, drop, All}
use Rattle.matrix_meaning.specs.declared.Kind.TheVariants.{Dft, Wht}
use Rattle.matrix_meaning.specs.Kind.{transform}
use Rattle.matrix_meaning.specs.Laws.{twiddle}
use Rattle.operators.specs.Operator.{Operator, gather, scale, on_columns, on_blocks, stride, good_thomas_in, good_thomas_out}
use Rattle.spl_ast.specs.Formula.{Formula, Identity, Fourier, Hadamard, Twiddles, Diagonal, Stride, Permutation, GoodThomasIn, GoodThomasOut, Product, TensorLeft, TensorRight, DirectSum, Pending, size_of}

-- the matrix of a formula, times a list
abbrev pub apply : ℕ → Formula → Operator
apply m (Identity n) x = x
apply m (Fourier n w) x = transform Dft m n w x
apply m (Hadamard n) x = transform Wht m n 0 x
apply m (Twiddles n s w) x = scale m n (twiddle m s w) x
apply m (Diagonal c) x = scale m (length c) (slice_index c) x
apply m (Stride n r) x = gather n (stride r (n / r)) x
apply m (Permutation k) x = gather (length k) (slice_index k) x
apply m (GoodThomasIn r s) x = gather (r * s) (good_thomas_in r s) x
apply m (GoodThomasOut r s) x = gather (r * s) (good_thomas_out r s) x
apply m (Product a b) x = apply m a (apply m b x)
apply m (TensorLeft a k) x = on_columns (size_of a) k (apply m a) x
apply m (TensorRight k a) x = on_blocks k (size_of a) (apply m a) x
apply m (DirectSum a b) x = apply m a (take (size_of a) x) ++ apply m b (drop (size_of a) x)
apply m (Pending a) x = apply m a x

-- n residues modulo m
pub record IsVector (m n : ℕ) (x : List ℕ) : Type 0 where
  pub size : length x ≡ n
  pub residues : All (λ v. v < m) x

-- f and g are the same matrix modulo m
pub record IsSameMatrix (m : ℕ) (f g : Formula) : Type 0 where
  pub size : size_of g ≡ size_of f
  pub meaning : (x : List ℕ) → IsVector m (size_of f) x → apply m g x ≡ apply m f x
