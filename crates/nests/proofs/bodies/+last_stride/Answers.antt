use Rattle.std.proofs.Common.{◌+◌, ◌∙◌, sym, ap}
use Rattle.icode.specs.Plain.{plain_body}
use Rattle.nests.specs.Views.{plain_parts, last_stride_in}
use Rattle.nests.proofs.Counts.{others-counts, op-counts, loop-seen, last-alone}
use Rattle.nests.proofs.bodies.+last_stride.Goals as goal

pub returns-then-body-ne1 : goal.returns-then-body-ne1
returns-then-body-ne1 t c =
    c.stride.ensures ∙ last-alone c.args.depth (plain_body c.args.body.now) (plain_parts c.args.parts.now) (others-counts c.args.body.now c.if-body-ne1.true)

pub returns-in-Do : goal.returns-in-Do
returns-in-Do t c =
    c.stride-in-Do.ensures
    ∙ last-alone c.args.depth (plain_body c.args.body.now) (plain_parts c.args.parts.now) (op-counts c.args.body.now c.index-body-0.result c.in-Do.field-0 c.if-body-ne1.false c.index-body-0.is c.in-Do.is)

pub returns-in-Loop : goal.returns-in-Loop
returns-in-Loop t c =
    c.last_stride.ensures
    ∙ (ap (λ xs. last_stride_in (c.args.depth + 1) (plain_body xs) (plain_parts c.args.parts.now)) c.deref.ensures.value
    ∙ ap (λ s. last_stride_in c.args.depth s (plain_parts c.args.parts.now)) (sym (loop-seen c.args.body.now c.index-body-0.result c.in-Loop.count c.in-Loop.inside c.if-body-ne1.false c.index-body-0.is c.in-Loop.is)))
