use Rattle.std.specs.Prelude.{length}
use Rattle.loop_nests.proofs.places.changes.+put_all_places.Given as goal

abbrev pub decreases-put_all_places : goal.decreases-put_all_places
decreases-put_all_places l = length l.nests.now
