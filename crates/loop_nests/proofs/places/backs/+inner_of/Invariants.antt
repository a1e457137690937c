use Rattle.std.specs.Prelude.{length}
use Rattle.loop_nests.proofs.places.backs.+inner_of.Given as goal

abbrev pub decreases-inner_of : goal.decreases-inner_of
decreases-inner_of l = length l.path.now
