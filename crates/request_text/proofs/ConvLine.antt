-- The reader of the line of a convolution reads by its grammar.
use Rattle.std.proofs.Common.{◌≡◌, ℕ, List, refl, subst, codes, Result}
use Rattle.matrix_meaning.specs.declared.Request.{Request}
use Rattle.grammar.specs.Grammar.{Judges}
use Rattle.grammar.specs.Reading.{whole}
use Rattle.grammar.proofs.Whole.{whole_judges}
use Rattle.grammar.proofs.Numbers.{NoDigit}
use Rattle.grammar.proofs.Places.{IsReader, pure_reader, bind_reader}
use Rattle.grammar.proofs.Parts.{Nothing, keeps_pure, keeps_then, leaves_at_end, then_no_digit, named_number_reader}
use Rattle.grammar.proofs.OptionalParts.{BehindParts, parts_reader, parts_no_digit, parts_end}
use Rattle.request_text.specs.Line.{cost_parts, above_all}
use Rattle.request_text.specs.ConvLine.{conv_line}
use Rattle.request_text.specs.ConvReading.{conv_at}
use Rattle.request_text.proofs.Line.{pos, small, dimension_reader, dimension_keeps}

pub conv_reader : IsReader Nothing conv_line conv_at
unfolding conv_at
conv_reader =
    bind_reader NoDigit Nothing _ _ _ _ (named_number_reader (codes "conv ") above_all pos small) (λ size u l.
    bind_reader NoDigit Nothing _ _ _ _ (named_number_reader (codes " mod ") above_all pos small) (λ modulus u l.
    bind_reader NoDigit Nothing _ _ _ _ (dimension_reader (codes " root ") size) (λ d u l.
    bind_reader (BehindParts cost_parts) Nothing _ _ _ _ (parts_reader above_all cost_parts pos small refl refl)
    (λ options u l. pure_reader Nothing _)
    (λ options. leaves_at_end (BehindParts cost_parts) _ (keeps_pure (BehindParts cost_parts) _)
    (parts_end cost_parts refl)))
    (λ d. leaves_at_end NoDigit _ (keeps_then NoDigit _ _ (parts_no_digit above_all cost_parts refl)
    (λ options. keeps_pure NoDigit _)) refl))
    (λ modulus. leaves_at_end NoDigit _
    (keeps_then NoDigit _ _ (dimension_keeps (codes " root ") size refl)
    (λ d. keeps_then NoDigit _ _ (parts_no_digit above_all cost_parts refl) (λ options. keeps_pure NoDigit _)))
    refl))
    (λ size. then_no_digit Nothing (codes " mod ") above_all _ refl)

-- what the reader gives of a whole line is what the grammar says
pub conv_line_judges : (text : List ℕ) (r : Result Request ℕ) → whole conv_at text ≡ r → Judges conv_line text r
conv_line_judges text r e = subst (Judges conv_line text) e
    (whole_judges Nothing conv_line conv_at conv_reader refl text)
