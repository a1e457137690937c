use Rattle.std.proofs.Common.{length}
use Rattle.nests.proofs.parts.+are_linear_from.Given as goal

abbrev pub decreases-are_linear_from : goal.decreases-are_linear_from
decreases-are_linear_from l = length l.parts.now
