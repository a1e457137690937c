use Rattle.std.proofs.Common.{sym, ap, ◌∙◌, subst}
use Rattle.sigma_spl.specs.Merge.{copies_before, most, settled}
use Rattle.loop_nests.specs.Places.Views.{waiting_of}
use Rattle.index_fn.specs.Index.{mapping_of}
use Rattle.loop_nests.specs.Places.Known.{AreSteps, IsKnownPass}
use Rattle.loop_merge.proofs.Readies.{known-by}
use Rattle.loop_nests.proofs.Standing.{last_waits}
use Rattle.loop_merge.proofs.copies.settled.Goals as goal

pub copies_before-requires-clause-known : goal.copies_before-requires-clause-known
copies_before-requires-clause-known c =
    let room = c.args.limits.room in
    let n = c.args.limits.size in
    let steps = subst (AreSteps n) (last_waits _ _ _ c.in-Some.ensures.cases.0) c.requires.steps in
    subst (IsKnownPass room n) (sym c.in_ok-pass-in-Some.ensures) (known-by room n c.requires.room (mapping_of c.in-Some.f.now) steps.0)

pub returns-in_ok-passes-in-Some : goal.returns-in_ok-passes-in-Some
returns-in_ok-passes-in-Some c =
    let room = most c.args.limits.room in
    let n = c.args.limits.size in
    c.in_ok-passes-in-Some.ensures
    ∙ ap (λ z. copies_before room n z (waiting_of c.in-Some.rest.now)) c.in_ok-pass-in-Some.ensures
    ∙ ap (settled room n) (sym (last_waits _ _ _ c.in-Some.ensures.cases.0))
