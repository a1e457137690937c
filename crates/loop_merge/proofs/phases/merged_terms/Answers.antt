use Rattle.std.proofs.Common.{rules, sym, ap, ap₂, ◌∙◌, [], ◌∷◌, ◌++◌, map}
use Rattle.std.proofs.lemmas.List.{map-append}
use Rattle.sigma_spl.specs.Sigma.{passes_in_order}
use Rattle.sigma_spl.specs.Views.{plain_term}
use Rattle.loop_nests.specs.Views.{plain_passes}
use Rattle.loop_merge.specs.Views.{plain_phases}
use Rattle.loop_merge.proofs.phases.merged_terms.Goals as goal

pub loop-term-preserved : goal.loop-term-preserved
loop-term-preserved c =
    let order = passes_in_order c.args.size in
    let more = ap plain_phases c.in_ok-push.ensures.items
    ∙ map-append (λ ps. plain_passes ps.items) c.loop-term.phases.items (c.in_ok-merge_term.field-0 ∷ [])
    ∙ ap₂ (λ xs x. xs ++ x ∷ []) c.loop-term.invariant.0 c.in_ok-merge_term.ensures
    ∙ sym (ap (map order) (map-append plain_term c.loop-term.yielded (c.in-Some.term ∷ []))
    ∙ map-append order (map plain_term c.loop-term.yielded) (plain_term c.in-Some.term ∷ [])) in
    (more, (c.loop-term.invariant.1.0, search rules))
