use Rattle.std.specs.Prelude.{length}
use Rattle.loop_nests.proofs.lifted.+lift_nests.Given as goal

abbrev pub decreases-lift_nests : goal.decreases-lift_nests
decreases-lift_nests l = length l.nests.now
