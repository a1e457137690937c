use Rattle.std.proofs.Common.{length}
use Rattle.fused_loops.proofs.blocks.+shared.Given as goal

abbrev pub decreases-shared : goal.decreases-shared
decreases-shared l = length l.blocks.now
