use Rattle.std.proofs.Common.{◌≡◌, ◌++◌, drop}
use Rattle.nests.specs.Views.{plain_parts}
use Rattle.fused_loops.specs.Blocks.{factors_of}
use Rattle.fused_loops.proofs.blocks.factors_of.Given as goal

abbrev pub invariant-loop-part : goal.invariant-loop-part
invariant-loop-part l =
    l.made.items ++ factors_of (plain_parts (drop l.part-index l.parts)) ≡ factors_of (plain_parts l.parts)
