use Rattle.std.proofs.Common.{length}
use Rattle.nests.proofs.parts.+same_parts.Given as goal

abbrev pub decreases-same_parts : goal.decreases-same_parts
decreases-same_parts l = length l.left.now
