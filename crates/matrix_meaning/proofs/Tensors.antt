-- The law of several dimensions.
use Rattle.std.proofs.Common.{◌*◌, sym, ◌∙◌}
use Rattle.std.proofs.Math.Nat.{mod-mod}
use Rattle.matrix_meaning.specs.Dimensions.{entry_from, product_from}
use Rattle.matrix_meaning.specs.Kind.{entry_of}
use Rattle.matrix_meaning.specs.Laws.{DimensionByDimension}
use Rattle.operators.proofs.Matrices.{matrix_times-same, on_columns-on_blocks}

pub dimension_by_dimension : DimensionByDimension
dimension_by_dimension kind m n s w v sizes roots x =
    matrix_times-same m (n * product_from s sizes) _ _ x (λ k l _ _. mod-mod _ m)
    ∙ sym (on_columns-on_blocks m n (product_from s sizes) (entry_of kind m n w) (entry_from kind m s v sizes roots) x)
