-- The grammar of the line of a convolution.
use Rattle.std.specs.Prelude.{ℕ, List, [], ◌∷◌, codes}
use Rattle.matrix_meaning.specs.declared.Kind.TheVariants.{Dft}
use Rattle.matrix_meaning.specs.declared.Request.{Request}
use Rattle.grammar.specs.Grammar.{◌>>=◌, pure, named_number, parts}
use Rattle.request_text.specs.Line.{above_all, cost_parts, dimension, request_of}

-- The line of a convolution, without its end: a request for the Fourier transform by which to convolve, on one
-- processor and one lane, in lines of one word
abbrev pub conv_line : List ℕ → Request → Type 0
conv_line = do
  size ← named_number (codes "conv ") above_all
  modulus ← named_number (codes " mod ") above_all
  d ← dimension (codes " root ") size
  options ← parts above_all cost_parts
  pure (request_of Dft (d ∷ []) modulus (1 ∷ 1 ∷ 1 ∷ options))
