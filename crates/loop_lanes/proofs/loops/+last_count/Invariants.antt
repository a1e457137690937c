use Rattle.std.proofs.Common.{length}
use Rattle.loop_lanes.proofs.loops.+last_count.Given as goal

abbrev pub decreases-last_count : goal.decreases-last_count
decreases-last_count l = length l.counts.now
