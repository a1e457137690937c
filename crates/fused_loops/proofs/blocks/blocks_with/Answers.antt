use Rattle.std.proofs.Common.{◌++◌, ap, sym, ◌∙◌, arith, append-nil}
use Rattle.fused_loops.proofs.Seen.{blocks-done}
use Rattle.fused_loops.proofs.blocks.blocks_with.Goals as goal

pub returns : goal.returns
returns c =
    sym (append-nil c.loop-index.made.items)
    ∙ ap (λ blocks. c.loop-index.made.items ++ blocks)
    (sym (blocks-done c.args.counts.now c.args.steps.now c.loop-index.index (omega (arith, c.loop-index-test.false, c.min-index-end.ensures))))
    ∙ c.loop-index.invariant
