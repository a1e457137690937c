use Rattle.std.proofs.Common.{◌∙◌, sym, arith}
use Rattle.nests.proofs.Counts.{fresh-more}
use Rattle.nests.proofs.registers.are_fresh.Goals as goal

pub loop-stmt-preserved : goal.loop-stmt-preserved
loop-stmt-preserved c =
    let after = c.put_after-next.ensures in
    record {
      rest = fresh-more c.args.lanes c.loop-stmt.next c.put_after-next.result c.loop-stmt.stmt-index c.args.body.now c.stmt-item.result c.in-Do.op _ (omega arith) c.stmt-item.is c.in-Do.is (sym c.is_fresh.ensures ∙ c.if-not-is_fresh.false) after.value c.loop-stmt.invariant.rest;
      small = after.small;
    }
