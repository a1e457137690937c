use Rattle.std.proofs.Common.{◌∙◌, sym, ap}
use Rattle.icode.specs.Plain.{plain_body}
use Rattle.coalesced_loops.specs.Coalesced.{both_as_one, as_one}
use Rattle.nests.proofs.Counts.{others-counts, op-counts, loop-seen}
use Rattle.coalesced_loops.proofs.Seen.{not-one}
use Rattle.coalesced_loops.proofs.coalescing.as_one.Goals as goal

pub returns-then-body-ne1 : goal.returns-then-body-ne1
returns-then-body-ne1 c =
    not-one c.args.depth c.args.count (plain_body c.args.body.now) (others-counts c.args.body.now c.if-body-ne1.true)

pub returns-in-Do : goal.returns-in-Do
returns-in-Do c =
    not-one c.args.depth c.args.count (plain_body c.args.body.now)
    (op-counts c.args.body.now c.index-body-0.result c.in-Do.field-0 c.if-body-ne1.false c.index-body-0.is
    c.in-Do.is)

pub returns-in_ok-both_as_one-in-Loop : goal.returns-in_ok-both_as_one-in-Loop
returns-in_ok-both_as_one-in-Loop c =
    c.in_ok-both_as_one-in-Loop.ensures
    ∙ (ap (λ xs. both_as_one c.args.depth c.args.count c.in-Loop.inner (plain_body xs)) c.deref.ensures.value
    ∙ ap (as_one c.args.depth c.args.count)
    (sym (loop-seen c.args.body.now c.index-body-0.result c.in-Loop.inner c.in-Loop.inside c.if-body-ne1.false
    c.index-body-0.is c.in-Loop.is)))
