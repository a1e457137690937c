use Rattle.std.proofs.Common.{length}
use Rattle.fused_loops.proofs.followed.+followed.Given as goal

abbrev pub decreases-followed : goal.decreases-followed
decreases-followed l = length l.steps.now
