use Rattle.std.proofs.Common.{◌<◌, ◌∙◌, ap, min, arith, length, get_or}
use Rattle.icode.specs.Lengths.{body_len}
use Rattle.code_check.proofs.Counting.{phases_none, phases_more, phases_all}
use Rattle.code_check.proofs.count.count_actions.Goals as goal

pub loop-body-init : goal.loop-body-init
loop-body-init c = phases_none c.args.program.now c.args.limit

pub loop-body-preserved : goal.loop-body-preserved
loop-body-preserved c =
    let items = c.deref-body-items.ensures.value in
    let there : c.loop-body.body-index < length c.args.program.now.phases.items = omega (arith, c.loop-body-test.true, ap length items) in
    let is = c.body-item.is ∙ ap (λ bodies. get_or bodies c.loop-body.body-index c.body-item.result) items in
    let one = c.count_of_body.ensures ∙ ap (λ body. min (body_len body) c.args.limit) c.deref.ensures.value in
    phases_more c.args.program.now c.args.limit c.loop-body.sum c.loop-body.body-index c.count_of_body.result c.min-sum.result c.body-item.result
    c.ranges.limit.fits there is c.loop-body.invariant one (c.min-sum.ensures ∙ ap (λ n. min n c.args.limit) c.saturating_add.ensures)

pub returns : goal.returns
returns c =
    let len = ap length c.deref-body-items.ensures.value in
    phases_all c.args.program.now c.args.limit c.loop-body.sum c.loop-body.body-index c.min.result c.ranges.limit.fits
    (omega (arith, c.loop-body-test.false, len)) (omega (arith, c.loop-body.auto.body-index-end, len)) c.loop-body.invariant
    (c.min.ensures ∙ ap (λ n. min n c.args.limit) c.saturating_mul.ensures)
