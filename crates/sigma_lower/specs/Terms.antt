-- The term of a formula modulo m, under the tensors since the last direct sum.
use Rattle.std.specs.Prelude.{ℕ, zero, suc, ◌*◌, ◌/◌, ◌%◌, ◌^◌, ◌==◌, nat_lt, nat_le, if◌then◌else◌, [], ◌∷◌, ◌++◌, map}
use Rattle.index_fn.specs.Mapping.{Strided, ThomasIn, ThomasOut}
use Rattle.matrix_meaning.specs.declared.Kind.TheVariants.{Dft, Wht}
use Rattle.sigma_spl.specs.Nest.{values, twiddles}
use Rattle.sigma_spl.specs.Term.{PlainTerm, same, gath, diag, nest, move, product, beside}
use Rattle.sigma_spl.specs.Work.{kernel, horner, short}
use Rattle.sigma_lower.specs.TreeTerms.Wrapped.{wrapped}
use Rattle.spl_ast.specs.Formula.{Formula, Identity, Fourier, Hadamard, Twiddles, Diagonal, Stride, Permutation}
use Rattle.spl_ast.specs.Formula.{GoodThomasIn, GoodThomasOut, Product, TensorLeft, TensorRight, DirectSum, Pending}
use Rattle.spl_ast.specs.Formula.{size_of}
use Rattle.operators.specs.declared.paths.Tensor.{Tensor}
use Rattle.operators.specs.declared.paths.Tensor.TheVariants.{Blocks, Columns}
use Rattle.operators.specs.Paths.Tensors.{Path, count_of}

-- a tensor of one copy is none
abbrev pub one_more : Path → Tensor → Path
one_more path t = if count_of t == 1 then path else path ++ t ∷ []

-- how often a number can be halved, for a bound on that
abbrev pub halvings : ℕ → ℕ → ℕ
halvings zero n = 0
halvings (suc b) n = if nat_lt n 2 then 0 else suc (halvings b (n / 2))

-- WHT of 2 ^ k, split by 2
abbrev pub hadamard_term : Path → ℕ → PlainTerm
hadamard_term path zero = same
hadamard_term path (suc k) =
    product (hadamard_term (path ++ Blocks 2 ∷ []) k) (nest (one_more path (Columns (2 ^ k))) (kernel (short Wht 0 2)))

-- a short DFT is straight-line code, and a longer one goes row by row
abbrev pub fourier_term : Path → ℕ → ℕ → PlainTerm
fourier_term path n w = if nat_le n 8 then nest path (kernel (short Dft w n)) else nest path (horner w n)

-- a diagonal holds residues
abbrev pub term_of : ℕ → Path → Formula → PlainTerm
term_of m path (Identity n) = same
term_of m path (Fourier n w) = fourier_term path n w
term_of m path (Hadamard n) = hadamard_term path (halvings n n)
term_of m path (Twiddles n s w) = diag path (twiddles (n / s) s w)
term_of m path (Diagonal c) = diag path (values (map (λ v. v % m) c))
term_of m path (Stride n r) = gath (wrapped path (r * (n / r)) (Strided r (n / r)))
term_of m path (Permutation k) = move path k
term_of m path (GoodThomasIn r s) = gath (wrapped path (r * s) (ThomasIn r s))
term_of m path (GoodThomasOut r s) = gath (wrapped path (r * s) (ThomasOut r s))
term_of m path (Product a b) = product (term_of m path b) (term_of m path a)
term_of m path (TensorLeft a k) = term_of m (one_more path (Columns k)) a
term_of m path (TensorRight k a) = term_of m (one_more path (Blocks k)) a
term_of m path (DirectSum a b) = beside path (size_of a) (term_of m [] a) (size_of b) (term_of m [] b)
term_of m path (Pending a) = term_of m path a
