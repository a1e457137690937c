use Rattle.std.proofs.Common.{◌∙◌, ap, min, sym}
use Rattle.icode.specs.Lengths.{stmt_len, body_len}
use Rattle.icode.proofs.Lengths.{stmt_len-Loop}
use Rattle.code_check.proofs.Counting.{capped_product, count_none, count_more, count_all}
use Rattle.code_check.proofs.count.+count_of.Goals as goal

pub loop-inner-init : goal.loop-inner-init
loop-inner-init t c = count_none c.args.limit c.deref-inner-items.result.now

pub loop-inner-preserved : goal.loop-inner-preserved
loop-inner-preserved t c =
    count_more c.args.limit c.loop-inner.sum c.loop-inner.inner-index c.count_of.result c.min-sum.result c.deref-inner-items.result.now c.inner-item.result
    c.ranges.limit.fits c.loop-inner-test.true c.inner-item.is c.loop-inner.invariant c.count_of.ensures (c.min-sum.ensures ∙ ap (λ n. min n c.args.limit) c.saturating_add.ensures)

pub returns-after-loop-inner : goal.returns-after-loop-inner
returns-after-loop-inner t c =
    let len = ap stmt_len c.in-Loop.is ∙ stmt_len-Loop c.in-Loop.count c.in-Loop.body in
    let sum = count_all c.args.limit c.loop-inner.sum c.loop-inner.inner-index c.deref-inner-items.result.now c.loop-inner-test.false c.loop-inner.invariant
    ∙ ap (λ items. min (body_len items) c.args.limit) c.deref-inner-items.ensures.value in
    c.min.ensures
    ∙ (ap (λ n. min n c.args.limit) c.saturating_mul.ensures
    ∙ (capped_product c.in-Loop.count (body_len c.in-Loop.body.items) c.args.limit c.loop-inner.sum sum c.ranges.limit.fits
    ∙ ap (λ n. min n c.args.limit) (sym len)))
