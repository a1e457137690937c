use Rattle.std.proofs.Common.{◌*◌, ◌∙◌, sym, ap}
use Rattle.std.proofs.lemmas.Bool.{lt-leb}
use Rattle.icode.specs.Plain.{plain_body}
use Rattle.nests.specs.Views.{plain_parts, one_loop}
use Rattle.nests.proofs.Counts.{others-counts, op-counts, loop-seen, nested-alone, nested-loop, nested-not}
use Rattle.nests.proofs.bodies.+are_nested.Goals as goal

pub returns-then-body-ne1 : goal.returns-then-body-ne1
returns-then-body-ne1 t c = nested-alone c.args.depth (plain_body c.args.body.now) (plain_parts c.args.parts.now) (others-counts c.args.body.now c.if-body-ne1.true)

pub returns-in-Do : goal.returns-in-Do
returns-in-Do t c =
    nested-alone c.args.depth (plain_body c.args.body.now) (plain_parts c.args.parts.now) (op-counts c.args.body.now c.index-body-0.result c.in-Do.field-0 c.if-body-ne1.false c.index-body-0.is c.in-Do.is)

pub returns-then-width-stride : goal.returns-then-width-stride
returns-then-width-stride t c =
    nested-loop c.args.depth c.in-Loop.count c.stride.result c.stride-in-Loop.result c.args.body.now c.deref.result.now (plain_parts c.args.parts.now) c.are_nested.result
    (loop-seen c.args.body.now c.index-body-0.result c.in-Loop.count c.in-Loop.inside c.if-body-ne1.false c.index-body-0.is c.in-Loop.is ∙ ap (λ xs. one_loop c.in-Loop.count (plain_body xs)) (sym c.deref.ensures.value))
    c.stride.ensures c.stride-in-Loop.ensures c.if-width-stride.true c.are_nested.ensures

pub returns-else-width-stride : goal.returns-else-width-stride
returns-else-width-stride t c =
    nested-not c.args.depth c.in-Loop.count c.stride.result c.stride-in-Loop.result c.args.body.now c.in-Loop.inside.items (plain_parts c.args.parts.now)
    (loop-seen c.args.body.now c.index-body-0.result c.in-Loop.count c.in-Loop.inside c.if-body-ne1.false c.index-body-0.is c.in-Loop.is)
    c.stride.ensures c.stride-in-Loop.ensures (lt-leb (c.in-Loop.count * c.stride.result) c.stride-in-Loop.result c.if-width-stride.false)
