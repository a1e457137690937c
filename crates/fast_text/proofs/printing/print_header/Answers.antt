use Rattle.std.proofs.Common.{◌≡◌, ◌++◌, ◌==◌, ℕ, List, ap, map, ◌∙◌}
use Rattle.word_code.specs.Views.{plain_word_program}
use Rattle.fast_text.specs.FirstValues.{first_values_text, callers_arrays_text}
use Rattle.fast_text.specs.FunctionText.{asked_text, capital, declared_functions_text, guard_text, linkage_text, word_type_text}
use Rattle.fast_text.specs.WordText.{macros_text, word_header_text}
use Rattle.fast_text.proofs.Pieces.{five_parts}
use Rattle.fast_text.proofs.printing.print_header.Goals as goal

pub returns : goal.returns
returns c =
    let p = plain_word_program c.args.program.now in
    let name = c.args.name.now in
    let capitals = map capital name in
    let type = word_type_text p.width.half in
    let first = c.put_first.new.out.items in
    let guard = c.put_guard.new.out.items in
    let macros = c.put_macros.new.out.items in
    let told = c.put_callers_first_values.new.out.items in
    five_parts (word_header_text p) (guard_text capitals) (macros_text capitals p)
    (first_values_text (callers_arrays_text c.args.fresh) c.args.fresh)
    (linkage_text (asked_text capitals name ++ declared_functions_text name type)) c.new-out.result.items first guard macros told
    c.put_linked.new.out.items c.new-out.ensures.items c.in_ok-put_first.ensures
    (c.in_ok-put_guard.ensures
    ∙ ap (λ (x : List ℕ). first ++ guard_text x) (c.deref.ensures.value ∙ c.in_ok-capitals.ensures))
    (c.in_ok-put_macros.ensures
    ∙ ap (λ (x : List ℕ). guard ++ macros_text x p) (c.deref-2.ensures.value ∙ c.in_ok-capitals.ensures))
    c.in_ok-put_callers_first_values.ensures
    (c.in_ok-put_linked.ensures
    ∙ ap (λ (x : List ℕ). told ++ linkage_text (asked_text x name ++ declared_functions_text name type))
    (c.deref-3.ensures.value ∙ c.in_ok-capitals.ensures))
