use Rattle.std.proofs.Common.{◌∙◌, subst, arith, map}
use Rattle.sigma_spl.specs.Merge.{most}
use Rattle.loop_nests.specs.Views.{plain_pass}
use Rattle.loop_merge.proofs.Waiting.{pass_left, pass_took}
use Rattle.index_fn.specs.Index.{mapping_of}
use Rattle.sigma_spl.specs.Views.{plain_nest}
use Rattle.loop_nests.specs.Places.Known.{AreSteps}
use Rattle.loop_merge.proofs.Readies.{known-more}
use Rattle.loop_nests.proofs.Standing.{last_waits}
use Rattle.loop_merge.proofs.copies.+taken.Goals as goal

pub taken-requires : goal.taken-requires
taken-requires t c =
    let room = c.args.limits.room in
    let n = c.args.limits.size in
    let steps = subst (AreSteps n) (last_waits _ _ _ c.in-Some.ensures.cases.0) c.requires.steps in
    let made = c.in_ok-pass-in-Some.ensures.made c.in-Made.pass c.in-Made.is in (
      omega (arith, c.decreases, c.in-Some.ensures.cases.1),
      (c.requires.room, (known-more room n c.requires.room (mapping_of c.in-Some.f.now) (map plain_nest c.args.pass.items) (map plain_nest c.in-Made.pass.items) steps.0 made.0 made.1 c.requires.known, steps.1)),
    )

pub returns-in_ok-passes-in-Made : goal.returns-in_ok-passes-in-Made
returns-in_ok-passes-in-Made t c =
    let made = c.in_ok-pass-in-Some.ensures.made c.in-Made.pass c.in-Made.is in
    c.in_ok-passes-in-Made.ensures
    ∙ pass_took (most c.args.limits.room) c.args.limits.size _ _ _ (plain_pass c.args.pass) c.in-Some.ensures.cases.0 _ made.0 made.1

pub returns-in_ok-push-in-Refused : goal.returns-in_ok-push-in-Refused
returns-in_ok-push-in-Refused t c =
    let refused = c.in_ok-pass-in-Some.ensures.refused c.in-Refused.pass c.in-Refused.is in
    pass_left (most c.args.limits.room) c.args.limits.size _ _ _ (plain_pass c.args.pass) c.in-Some.ensures.cases.0
    c.in_ok-passes-in-Refused.passes.items _ c.in-Refused.pass refused.0 refused.1 c.in_ok-passes-in-Refused.ensures
    c.in_ok-push-in-Refused.ensures.items
