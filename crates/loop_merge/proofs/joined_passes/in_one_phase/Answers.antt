use Rattle.loop_merge.proofs.JoinedPasses.Phases.{phase-more}
use Rattle.loop_merge.proofs.joined_passes.in_one_phase.Goals as goal

pub loop-phase-preserved : goal.loop-phase-preserved
loop-phase-preserved c = phase-more c.loop-phase.yielded c.in-Some.phase c.loop-phase.passes.items c.append.new.self.items c.in_ok-append.ensures.items c.loop-phase.invariant
