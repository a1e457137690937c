-- The operations of a formula.
use Rattle.std.specs.Prelude.{ℕ, ◌+◌, ◌-◌, ◌*◌, nat_le, if◌then◌else◌, length}
use Rattle.tree_model.specs.KernelCosts.{products_cost}
use Rattle.matrix_meaning.specs.declared.Kind.TheVariants.{Dft}
use Rattle.matrix_meaning.specs.Kind.{entry_of}
use Rattle.sigma_lower.specs.Terms.{halvings}
use Rattle.spl_ast.specs.Formula.{Formula, Identity, Fourier, Hadamard, Twiddles, Diagonal, Stride, Permutation}
use Rattle.spl_ast.specs.Formula.{GoodThomasIn, GoodThomasOut, Product, TensorLeft, TensorRight, DirectSum, Pending}

-- A permutation has none, a diagonal a product for each item. A short DFT has an addition
-- or subtraction for each entry but those of a column, and a product for each entry that
-- is neither 1 nor -1; a longer one has a product and an addition for each entry
abbrev pub operations : ℕ → ℕ → Formula → ℕ
operations weight m (Identity n) = 0
operations weight m (Fourier n w) =
    if nat_le n 8 then n * (n - 1) + products_cost weight m 0 (entry_of Dft m n w) n n else (1 + weight) * n * n
operations weight m (Hadamard n) = n * halvings n n
operations weight m (Twiddles n s w) = weight * n
operations weight m (Diagonal c) = weight * length c
operations weight m (Stride n r) = 0
operations weight m (Permutation k) = 0
operations weight m (GoodThomasIn r s) = 0
operations weight m (GoodThomasOut r s) = 0
operations weight m (Product a b) = operations weight m a + operations weight m b
operations weight m (TensorLeft a k) = k * operations weight m a
operations weight m (TensorRight k a) = k * operations weight m a
operations weight m (DirectSum a b) = operations weight m a + operations weight m b
operations weight m (Pending a) = operations weight m a
