use Rattle.std.specs.Prelude.{length}
use Rattle.loop_merge.proofs.steps.+ended.Given as goal

abbrev pub decreases-ended : goal.decreases-ended
decreases-ended l = length l.waiting.now
