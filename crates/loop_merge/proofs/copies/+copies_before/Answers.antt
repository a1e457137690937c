use Rattle.std.proofs.Common.{sym, ◌∙◌, subst, arith, map}
use Rattle.sigma_spl.specs.Merge.{most}
use Rattle.loop_nests.specs.Views.{plain_pass}
use Rattle.loop_merge.proofs.Waiting.{copies_left, copies_took}
use Rattle.index_fn.specs.Index.{mapping_of}
use Rattle.sigma_spl.specs.Views.{plain_nest}
use Rattle.loop_nests.specs.Places.Known.{AreSteps, IsKnownPass}
use Rattle.loop_merge.proofs.Readies.{known-by, known-more}
use Rattle.loop_nests.proofs.Standing.{last_waits}
use Rattle.loop_merge.proofs.copies.+copies_before.Goals as goal

pub copies_before-requires : goal.copies_before-requires
copies_before-requires t c =
    let room = c.args.limits.room in
    let n = c.args.limits.size in
    let steps = subst (AreSteps n) (last_waits _ _ _ c.in-Some.ensures.cases.0) c.requires.steps in
    let made = c.in_ok-pass-in-Some.ensures.made c.in-Made.pass c.in-Made.is in (
      omega (arith, c.decreases, c.in-Some.ensures.cases.1),
      (c.requires.room, (known-more room n c.requires.room (mapping_of c.in-Some.f.now) (map plain_nest c.args.pass.items) (map plain_nest c.in-Made.pass.items) steps.0 made.0 made.1 c.requires.known, steps.1)),
    )

pub copies_before-requires-in-Refused : goal.copies_before-requires-in-Refused
copies_before-requires-in-Refused t c =
    let room = c.args.limits.room in
    let n = c.args.limits.size in
    let steps = subst (AreSteps n) (last_waits _ _ _ c.in-Some.ensures.cases.0) c.requires.steps in (
      omega (arith, c.decreases, c.in-Some.ensures.cases.1),
      (c.requires.room, (subst (IsKnownPass room n) (sym c.in_ok-copies-in-Refused.ensures) (known-by room n c.requires.room (mapping_of c.in-Some.f.now) steps.0), steps.1)),
    )

pub returns-in_ok-passes-in-Made : goal.returns-in_ok-passes-in-Made
returns-in_ok-passes-in-Made t c =
    let made = c.in_ok-pass-in-Some.ensures.made c.in-Made.pass c.in-Made.is in
    c.in_ok-passes-in-Made.ensures
    ∙ copies_took (most c.args.limits.room) c.args.limits.size _ _ _ (plain_pass c.args.pass) c.in-Some.ensures.cases.0 _ made.0 made.1

pub returns-in_ok-push-in-Refused : goal.returns-in_ok-push-in-Refused
returns-in_ok-push-in-Refused t c =
    let refused = c.in_ok-pass-in-Some.ensures.refused c.in-Refused.pass c.in-Refused.is in
    copies_left (most c.args.limits.room) c.args.limits.size _ _ _ (plain_pass c.args.pass) c.in-Some.ensures.cases.0 _
    c.in_ok-passes-in-Refused.passes.items _ c.in-Refused.pass refused.0 refused.1 c.in_ok-copies-in-Refused.ensures
    c.in_ok-passes-in-Refused.ensures c.in_ok-push-in-Refused.ensures.items
