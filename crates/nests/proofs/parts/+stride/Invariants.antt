use Rattle.std.proofs.Common.{length}
use Rattle.nests.proofs.parts.+stride.Given as goal

abbrev pub decreases-stride : goal.decreases-stride
decreases-stride l = length l.parts.now
