use Rattle.std.specs.Prelude.{length}
use Rattle.loop_nests.proofs.lifted.+raise_nests.Given as goal

abbrev pub decreases-raise_nests : goal.decreases-raise_nests
decreases-raise_nests l = length l.nests.now
