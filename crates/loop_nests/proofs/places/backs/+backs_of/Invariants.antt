use Rattle.std.specs.Prelude.{length}
use Rattle.loop_nests.proofs.places.backs.+backs_of.Given as goal

abbrev pub decreases-backs_of : goal.decreases-backs_of
decreases-backs_of l = length l.waiting.now
