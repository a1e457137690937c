use Rattle.std.specs.Prelude.{length}
use Rattle.loop_nests.proofs.lifted.+renumber_all.Given as goal

abbrev pub decreases-renumber_all : goal.decreases-renumber_all
decreases-renumber_all l = length l.sums.now
