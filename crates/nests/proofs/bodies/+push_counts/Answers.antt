use Rattle.std.proofs.Common.{◌++◌, ◌∙◌, sym, ap, append-nil}
use Rattle.nests.proofs.Counts.{others-counts, op-counts}
use Rattle.nests.proofs.bodies.+push_counts.Goals as goal

pub returns-then-body-ne1 : goal.returns-then-body-ne1
returns-then-body-ne1 t c =
    sym (ap (λ cs. c.args.counts.items ++ cs) (others-counts c.args.body.now c.if-body-ne1.true) ∙ append-nil c.args.counts.items)

pub returns-in-Do : goal.returns-in-Do
returns-in-Do t c =
    sym (ap (λ cs. c.args.counts.items ++ cs) (op-counts c.args.body.now c.index-body-0.result c.in-Do.field-0 c.if-body-ne1.false c.index-body-0.is c.in-Do.is) ∙ append-nil c.args.counts.items)
