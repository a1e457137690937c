use Rattle.std.proofs.Common.{length}
use Rattle.loop_lanes.proofs.rows.+are_clear.Given as goal

abbrev pub decreases-are_clear : goal.decreases-are_clear
decreases-are_clear l = length l.constants.now
