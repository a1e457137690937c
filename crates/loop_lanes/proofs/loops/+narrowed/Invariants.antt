use Rattle.std.proofs.Common.{length}
use Rattle.loop_lanes.proofs.loops.+narrowed.Given as goal

abbrev pub decreases-narrowed : goal.decreases-narrowed
decreases-narrowed l = length l.counts.now
