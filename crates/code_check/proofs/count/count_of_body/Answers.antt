use Rattle.std.proofs.Common.{◌∙◌, ap, min}
use Rattle.code_check.proofs.Counting.{count_none, count_more, count_all}
use Rattle.code_check.proofs.count.count_of_body.Goals as goal

pub loop-stmt-init : goal.loop-stmt-init
loop-stmt-init c = count_none c.args.limit c.args.body.now

pub loop-stmt-preserved : goal.loop-stmt-preserved
loop-stmt-preserved c =
    count_more c.args.limit c.loop-stmt.sum c.loop-stmt.stmt-index c.count_of.result c.min-sum.result c.args.body.now c.stmt-item.result
    c.ranges.limit.fits c.loop-stmt-test.true c.stmt-item.is c.loop-stmt.invariant c.count_of.ensures (c.min-sum.ensures ∙ ap (λ n. min n c.args.limit) c.saturating_add.ensures)

pub returns : goal.returns
returns c = count_all c.args.limit c.loop-stmt.sum c.loop-stmt.stmt-index c.args.body.now c.loop-stmt-test.false c.loop-stmt.invariant
