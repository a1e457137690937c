-- The transform of the sizes 2 and 3 modulo 7, computed.
use Rattle.std.proofs.Common.{◌≡◌, [], ◌∷◌, refl}
use Rattle.ring_mod.specs.Residue.{power_mod}
use Rattle.matrix_meaning.specs.declared.Kind.TheVariants.{Dft}
use Rattle.matrix_meaning.specs.Dimensions.{transform_in}

-- the last digit is the fastest
second_column : transform_in Dft 7 (2 ∷ 3 ∷ []) (6 ∷ 2 ∷ []) (0 ∷ 1 ∷ 0 ∷ 0 ∷ 0 ∷ 0 ∷ []) ≡ 1 ∷ 2 ∷ 4 ∷ 1 ∷ 2 ∷ 4 ∷ []
unfolding power_mod
second_column = refl

fourth_column : transform_in Dft 7 (2 ∷ 3 ∷ []) (6 ∷ 2 ∷ []) (0 ∷ 0 ∷ 0 ∷ 1 ∷ 0 ∷ 0 ∷ []) ≡ 1 ∷ 1 ∷ 1 ∷ 6 ∷ 6 ∷ 6 ∷ []
unfolding power_mod
fourth_column = refl
