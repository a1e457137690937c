use Rattle.std.proofs.Common.{◌≡◌, ◌++◌, ℕ, List, length, ap, ◌∙◌, arith}
use Rattle.std.proofs.lemmas.List.{length-map}
use Rattle.word_code.specs.Views.{plain_word_program}
use Rattle.fast_text.specs.FirstValues.{first_values_text, callers_arrays_text}
use Rattle.fast_text.specs.FunctionText.{static_phase_text, parameters_text, functions_to_link_text}
use Rattle.fast_text.specs.WordText.{words_of_array, front_text, all_phases_text}
use Rattle.fast_text.proofs.Pieces.{four_parts}
use Rattle.fast_text.proofs.printing.print_function.Goals as goal

pub returns : goal.returns
returns c =
    let p = plain_word_program c.args.program.now in
    let name = c.args.name.now in
    let procs = c.args.program.now.procs in
    let front = c.put_front.new.out.items in
    let phases = c.put_phases.new.out.items in
    let told = c.put_callers_first_values.new.out.items in
    let mapped : length p.phases ≡ length c.args.program.now.phases.items = length-map c.args.program.now.phases.items _ in
    let count : c.len-phases.result ≡ length p.phases = omega (arith, c.len-phases.ensures, c.args.program.now.phases.ok.0, mapped) in
    four_parts (front_text p) (all_phases_text (static_phase_text name) parameters_text p)
    (first_values_text (callers_arrays_text c.args.fresh) c.args.fresh)
    (functions_to_link_text name (words_of_array p) procs (length p.phases)) c.new-out.result.items front phases told
    c.put_functions_to_link.new.out.items c.new-out.ensures.items c.in_ok-put_front.ensures
    (c.in_ok-put_phases.ensures
    ∙ ap (λ (before : List ℕ). front ++ all_phases_text before parameters_text p)
    (c.deref.ensures.value ∙ c.in_ok-static_phase.ensures))
    c.in_ok-put_callers_first_values.ensures
    (c.in_ok-put_functions_to_link.ensures
    ∙ ap (λ (words : ℕ). told ++ functions_to_link_text name words procs c.len-phases.result) c.array_words-words.ensures.words
    ∙ ap (λ (n : ℕ). told ++ functions_to_link_text name (words_of_array p) procs n) count)
