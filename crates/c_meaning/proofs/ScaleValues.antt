-- What a lane of a product with a table gives.
use Rattle.std.proofs.Common.{◌≡◌, ◌+◌, ◌*◌, codes, arith, ap, ◌∙◌}
use Rattle.std.specs.Prelude.{pos, slice_index_or}
use Rattle.icode.specs.Expression.{sum_numbers}
use Rattle.c_meaning.specs.Syntax.{Element, word}
use Rattle.c_meaning.specs.Numbers.{Undefined, Defined, ◌>>=◌}
use Rattle.c_meaning.specs.Scopes.{word_at}
use Rattle.c_meaning.specs.Expressions.{value_of, values_of}
use Rattle.c_meaning.specs.ProgramTrees.{table_name, register, at_step}
use Rattle.c_meaning.specs.AddressLaws.{lane_scope}
use Rattle.c_meaning.specs.ScaleLaws.{LanesScale}
use Rattle.c_meaning.proofs.ProgramScopes.{units_compute}
use Rattle.c_meaning.proofs.Entries.{entries_are_words}
use Rattle.c_meaning.proofs.LaneValues.{grouped, register_value, call_is}

pub lanes_scale : LanesScale
lanes_scale p q vs words table entries place step l x a factor found small below inside numbers one short fits modulus few narrow is_lane h a_below factor_below a_held held =
    let s = lane_scope p q vs l in
    let name = table_name table in
    let at = entries_are_words p q vs words table entries place step l found small below inside numbers one (omega arith) short fits in
    let left = register_value p q vs words l few narrow is_lane x a h a_held in
    let right : value_of s words (Element name (at_step place step)) ≡ Defined (pos factor) =
    grouped (values_of s words (at_step place step)) (λ is. word_at s name is) (λ place. slice_index_or (words (s.lies name).0) place Undefined)
    ∙ ap (λ o. o >>= λ place. slice_index_or (words (s.lies name).0) place Undefined) at.1
    ∙ ap (λ whole. slice_index_or (words whole) ((sum_numbers place vs q).value + step * l) Undefined) at.0
    ∙ held in
    call_is p q vs words l few narrow is_lane (word (codes "mul")) (register x) (Element name (at_step place step)) (pos a) (pos factor) _ left right
    (units_compute p modulus a factor a_below factor_below).3
