-- Reading the line of a convolution.
use Rattle.std.specs.Prelude.{ℕ, [], ◌∷◌, codes, Result}
use Rattle.matrix_meaning.specs.declared.Kind.TheVariants.{Dft}
use Rattle.matrix_meaning.specs.declared.Request.{Request}
use Rattle.grammar.specs.Reading.{Place, ◌>>=◌, pure_at, named_number_at, parts_at}
use Rattle.request_text.specs.Line.{above_all, cost_parts, request_of}
use Rattle.request_text.specs.Reading.{dimension_at}

unfoldable pub conv_at : Place ℕ → Result (Request × Place ℕ) ℕ
conv_at = do
  size ← named_number_at (codes "conv ") above_all
  modulus ← named_number_at (codes " mod ") above_all
  d ← dimension_at (codes " root ") size
  options ← parts_at above_all cost_parts
  pure_at (request_of Dft (d ∷ []) modulus (1 ∷ 1 ∷ 1 ∷ options))
