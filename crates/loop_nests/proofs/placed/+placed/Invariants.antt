use Rattle.std.specs.Prelude.{length}
use Rattle.loop_nests.proofs.placed.+placed.Given as goal

abbrev pub decreases-placed : goal.decreases-placed
decreases-placed l = length l.path.now
