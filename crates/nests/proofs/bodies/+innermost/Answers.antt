use Rattle.std.proofs.Common.{◌∙◌, sym, ap}
use Rattle.icode.specs.Plain.{plain_body}
use Rattle.nests.specs.Nests.{round_in}
use Rattle.nests.proofs.Counts.{others-counts, op-counts, loop-seen, inner-round}
use Rattle.nests.proofs.bodies.+innermost.Goals as goal

pub returns-then-body-ne1 : goal.returns-then-body-ne1
returns-then-body-ne1 t c = sym (inner-round (plain_body c.args.body.now) (others-counts c.args.body.now c.if-body-ne1.true))

pub returns-in-Do : goal.returns-in-Do
returns-in-Do t c =
    sym (inner-round (plain_body c.args.body.now) (op-counts c.args.body.now c.index-body-0.result c.in-Do.field-0 c.if-body-ne1.false c.index-body-0.is c.in-Do.is))

pub returns-in-Loop : goal.returns-in-Loop
returns-in-Loop t c =
    c.innermost.ensures
    ∙ (ap (λ xs. round_in (plain_body xs)) c.deref.ensures.value
    ∙ ap round_in (sym (loop-seen c.args.body.now c.index-body-0.result c.in-Loop.count c.in-Loop.inside c.if-body-ne1.false c.index-body-0.is c.in-Loop.is)))
