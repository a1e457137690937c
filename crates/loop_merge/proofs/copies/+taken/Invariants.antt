use Rattle.std.specs.Prelude.{length}
use Rattle.loop_merge.proofs.copies.+taken.Given as goal

abbrev pub decreases-taken : goal.decreases-taken
decreases-taken l = length l.waiting.now
