use Rattle.std.proofs.Common.{◌≡◌, ◌++◌, drop}
use Rattle.fused_loops.specs.Blocks.{blocks_with}
use Rattle.fused_loops.proofs.blocks.blocks_with.Given as goal

abbrev pub invariant-loop-index : goal.invariant-loop-index
invariant-loop-index l =
    l.made.items ++ blocks_with (drop l.index l.counts) (drop l.index l.steps) ≡ blocks_with l.counts l.steps
