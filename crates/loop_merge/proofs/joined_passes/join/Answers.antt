use Rattle.std.proofs.Common.{ap, ◌∙◌}
use Rattle.sigma_spl.specs.Views.{plain_merged}
use Rattle.loop_merge.specs.MultipliedPasses.Multiplied.{multiplied_last}
use Rattle.loop_merge.specs.MultipliedPasses.Views.{plain_phases}
use Rattle.sigma_spl.specs.Nest.{values}
use Rattle.loop_merge.proofs.JoinedPasses.Counts.{count_both}
use Rattle.loop_merge.proofs.JoinedPasses.Means.{are_in_turn}
use Rattle.loop_merge.proofs.JoinedPasses.Phases.{one-phase}
use Rattle.loop_merge.proofs.JoinedPasses.Programs.{ready_joined}
use Rattle.loop_merge.proofs.joined_passes.join.Goals as goal

pub returns-clause-meaning : goal.returns-clause-meaning
returns-clause-meaning c =
    are_in_turn (plain_merged c.args.first) (plain_merged c.args.second) c.args.diagonal.items
    (plain_phases c.push.new.self.items)
    (one-phase c.new-phases.result.items c.push.new.self.items c.append.new.self c.in_ok-passes.passes.items
    c.in_ok-after.after.items _ _
    c.new-phases.ensures.items c.in_ok-push.ensures.items c.in_ok-append.ensures.items
    (c.in_ok-passes.ensures ∙ ap (multiplied_last (values c.args.diagonal.items)) c.in_ok-before.ensures)
    c.in_ok-after.ensures)

pub returns-clause-counts : goal.returns-clause-counts
returns-clause-counts c =
    count_both (plain_merged c.args.first) (plain_merged c.args.second) c.args.diagonal.items
    (plain_phases c.push.new.self.items)
    (one-phase c.new-phases.result.items c.push.new.self.items c.append.new.self c.in_ok-passes.passes.items
    c.in_ok-after.after.items _ _
    c.new-phases.ensures.items c.in_ok-push.ensures.items c.in_ok-append.ensures.items
    (c.in_ok-passes.ensures ∙ ap (multiplied_last (values c.args.diagonal.items)) c.in_ok-before.ensures)
    c.in_ok-after.ensures)

pub returns-clause-ready : goal.returns-clause-ready
returns-clause-ready c =
    ready_joined (plain_merged c.args.first) (plain_merged c.args.second) c.args.diagonal.items
    (plain_phases c.push.new.self.items)
    (one-phase c.new-phases.result.items c.push.new.self.items c.append.new.self c.in_ok-passes.passes.items
    c.in_ok-after.after.items _ _
    c.new-phases.ensures.items c.in_ok-push.ensures.items c.in_ok-append.ensures.items
    (c.in_ok-passes.ensures ∙ ap (multiplied_last (values c.args.diagonal.items)) c.in_ok-before.ensures)
    c.in_ok-after.ensures)
