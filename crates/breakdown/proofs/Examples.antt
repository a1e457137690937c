-- Formulas modulo 7, by leaves.
use Rattle.std.proofs.Common.{◌≡◌, [], ◌∷◌, refl}
use Rattle.matrix_meaning.specs.declared.Dimensions.TheVariants.{One, Three}
use Rattle.matrix_meaning.specs.declared.Kind.TheVariants.{Dft, Idft}
use Rattle.matrix_meaning.specs.declared.Request.{Request}
use Rattle.ring_mod.specs.Inverse.{inverse_mod}
use Rattle.ring_mod.specs.Residue.{power_mod}
use Rattle.spl_ast.specs.Formula.{Diagonal, Fourier, Product, TensorLeft, TensorRight}
use Rattle.tree_model.specs.Breakdown.{leaf, node}
use Rattle.tree_model.specs.declared.tree.Rule.TheVariants.{Dim}
use Rattle.breakdown.specs.Expansion.{formula_of}

-- the sizes 2, 3 and 6
several : Request
several = record {
  kind = Dft;
  size = 36;
  modulus = 7;
  root = 1;
  dimensions = Three (record { size = 2; root = 6 }) (record { size = 3; root = 2 }) (record { size = 6; root = 3 });
  procs = 1;
  line = 1;
  lanes = 1;
  unroll = 16;
  budget = 1000;
  weight = 1;
}

-- the first dimension on columns of 18 words, after the others on two blocks
by_leaves : formula_of several (node Dim (leaf 2) (node Dim (leaf 3) (leaf 6)))
    ≡ Product (TensorLeft (Fourier 2 6) 18)
    (TensorRight 2 (Product (TensorLeft (Fourier 3 2) 6) (TensorRight 3 (Fourier 6 3))))
unfolding several power_mod
by_leaves = refl

-- the inverse of size 3 with the root 2
inverse : Request
inverse = record {
  kind = Idft;
  size = 3;
  modulus = 7;
  root = 2;
  dimensions = One;
  procs = 1;
  line = 1;
  lanes = 1;
  unroll = 16;
  budget = 1000;
  weight = 1;
}

-- the transform with the root 4, which times 2 is 1, and then 1 / 3 times each item
inverse_by_leaf : formula_of inverse (leaf 3) ≡ Product (TensorRight 3 (Diagonal (inverse_mod 7 3 ∷ []))) (Fourier 3 4)
unfolding inverse power_mod
inverse_by_leaf = refl
