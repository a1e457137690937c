use Rattle.std.proofs.Common.{arith}
use Rattle.coalesced_loops.proofs.Seen.{parts-pushed}
use Rattle.coalesced_loops.proofs.lifts.lifted_parts.Goals as goal

pub returns : goal.returns
returns c =
    parts-pushed c.args.depth c.loop-part.part-index c.args.parts.now c.loop-part.made.items
    (omega (arith, c.loop-part-test.false)) c.loop-part.invariant
