use Rattle.std.proofs.Common.{sym, ap, ◌∙◌, subst}
use Rattle.sigma_spl.specs.Merge.{ended, most}
use Rattle.loop_nests.specs.Places.Known.{AreSteps}
use Rattle.loop_nests.specs.Places.Views.{mappings_of}
use Rattle.loop_nests.specs.Views.{from_last}
use Rattle.loop_merge.proofs.Waiting.{from_waiting, steps_turned}
use Rattle.loop_merge.proofs.merging.finished.Goals as goal

pub ended-requires-clause-steps : goal.ended-requires-clause-steps
ended-requires-clause-steps c =
    subst (λ xs. AreSteps c.args.limits.size (mappings_of xs)) (sym c.deref.ensures.value)
    (steps_turned c.args.limits.size c.args.state.waiting.items c.requires.known.waiting)

pub returns : goal.returns
returns c =
    let room = most c.args.limits.room in
    let n = c.args.limits.size in
    let passes = from_last c.args.state.passes.items in
    c.in_ok-passes.ensures
    ∙ ap (λ xs. ended room n (mappings_of xs) passes) c.deref.ensures.value
    ∙ ap (λ fs. ended room n fs passes) (sym (from_waiting c.args.state.waiting.items))
