-- The law of fused loops.
use Rattle.fused_loops.specs.Laws.{FusedLeavesTheSame}
use Rattle.fused_loops.proofs.Programs.{fused_program}

pub fused_leaves_the_same : FusedLeavesTheSame
fused_leaves_the_same = fused_program
