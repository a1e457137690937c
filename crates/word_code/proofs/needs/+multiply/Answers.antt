use Rattle.word_code.proofs.Needing.{left-more, left-fails, left-all}
use Rattle.word_code.proofs.needs.+multiply.Goals as goal

pub multiply-returns-then-not-multiplies : goal.multiply-returns-then-not-multiplies
multiply-returns-then-not-multiplies t c =
    left-fails c.loop-stmt.stmt-index c.args.body.now c.stmt-item.result c.loop-stmt.last c.multiplies.result
    c.loop-stmt-test.true c.stmt-item.is c.multiplies.ensures c.if-not-multiplies.true c.loop-stmt.invariant

pub multiply-loop-stmt-preserved : goal.multiply-loop-stmt-preserved
multiply-loop-stmt-preserved t c =
    left-more c.loop-stmt.stmt-index c.args.body.now c.stmt-item.result c.loop-stmt.last c.product_of-last.result c.multiplies.result
    c.loop-stmt-test.true c.stmt-item.is c.multiplies.ensures c.if-not-multiplies.false c.product_of-last.ensures c.loop-stmt.invariant

pub multiply-returns : goal.multiply-returns
multiply-returns t c = left-all c.loop-stmt.stmt-index c.args.body.now c.loop-stmt.last c.loop-stmt-test.false c.loop-stmt.invariant
