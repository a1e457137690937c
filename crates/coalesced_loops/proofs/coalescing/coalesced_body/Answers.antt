use Rattle.std.proofs.Common.{arith}
use Rattle.coalesced_loops.proofs.Seen.{coalesced-pushed}
use Rattle.nests.proofs.Limited.{item-within}
use Rattle.coalesced_loops.proofs.coalescing.coalesced_body.Goals as goal

pub coalesced_stmt-requires-clause-within : goal.coalesced_stmt-requires-clause-within
coalesced_stmt-requires-clause-within c =
    item-within c.args.modulus 0 c.loop-stmt.stmt-index c.args.body.now c.stmt-item.result c.requires (omega arith)
    c.stmt-item.is

pub returns : goal.returns
returns c =
    coalesced-pushed 0 c.loop-stmt.stmt-index c.args.body.now c.loop-stmt.made.items
    (omega (arith, c.loop-stmt-test.false)) c.loop-stmt.invariant
