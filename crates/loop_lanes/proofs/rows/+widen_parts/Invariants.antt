use Rattle.std.proofs.Common.{length}
use Rattle.loop_lanes.proofs.rows.+widen_parts.Given as goal

abbrev pub decreases-widen_parts : goal.decreases-widen_parts
decreases-widen_parts l = length l.parts.now
