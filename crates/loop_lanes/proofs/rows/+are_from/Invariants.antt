use Rattle.std.proofs.Common.{length}
use Rattle.loop_lanes.proofs.rows.+are_from.Given as goal

abbrev pub decreases-are_from : goal.decreases-are_from
decreases-are_from l = length l.numbers.now
