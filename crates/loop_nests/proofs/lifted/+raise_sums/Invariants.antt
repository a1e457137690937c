use Rattle.std.specs.Prelude.{length}
use Rattle.loop_nests.proofs.lifted.+raise_sums.Given as goal

abbrev pub decreases-raise_sums : goal.decreases-raise_sums
decreases-raise_sums l = length l.sums.now
