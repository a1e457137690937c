use Rattle.std.proofs.Common.{ap}
use Rattle.index_fn.specs.Index.{mapping_of}
use Rattle.sigma_spl.specs.Merge.{most}
use Rattle.loop_nests.specs.Places.Views.{waiting_of}
use Rattle.loop_merge.specs.Views.{plain_merging}
use Rattle.loop_merge.proofs.Waiting.{scatter_goes, scatter_waits}
use Rattle.loop_merge.proofs.steps.scattered_last.Goals as goal

pub returns-in_ok-push-in-Made : goal.returns-in_ok-push-in-Made
returns-in_ok-push-in-Made c =
    let made = c.in_ok-pass.ensures.made c.in-Made.pass c.in-Made.is in
    scatter_goes (most c.args.limits.room) c.args.limits.size (mapping_of c.args.f.now) _ _ _ _ _ _
    (ap waiting_of c.requires.none) c.in-Some.ensures.items c.in_ok-push-in-Made.ensures.items made.0 made.1

pub returns-in_ok-next-in-Refused : goal.returns-in_ok-next-in-Refused
returns-in_ok-next-in-Refused c =
    let refused = c.in_ok-pass.ensures.refused c.in-Refused.last c.in-Refused.is in
    scatter_waits (most c.args.limits.room) c.args.limits.size (mapping_of c.args.f.now) _ _ _ _ _ _
    (ap waiting_of c.requires.none) c.in-Some.ensures.items c.in_ok-push-in-Refused.ensures.items
    (plain_merging c.in_ok-next-in-Refused.next) refused.0 refused.1 c.in_ok-next-in-Refused.ensures.waiting
    c.in_ok-next-in-Refused.ensures.passes
