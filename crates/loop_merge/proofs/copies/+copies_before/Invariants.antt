use Rattle.std.specs.Prelude.{length}
use Rattle.loop_merge.proofs.copies.+copies_before.Given as goal

abbrev pub decreases-copies_before : goal.decreases-copies_before
decreases-copies_before l = length l.waiting.now
