use Rattle.std.proofs.Common.{◌≡◌, drop}
use Rattle.icode.specs.Plain.{plain_body}
use Rattle.fused_loops.specs.Blocks.{followed_in}
use Rattle.fused_loops.proofs.blocks.keep_for_round.Given as goal

abbrev pub invariant-loop-stmt : goal.invariant-loop-stmt
invariant-loop-stmt l =
    followed_in l.lanes l.counts (plain_body (drop l.stmt-index l.round)) l.steps.items ≡ followed_in l.lanes l.counts (plain_body l.round) l.fn.steps.items
