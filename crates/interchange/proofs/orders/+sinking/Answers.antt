use Rattle.std.proofs.Common.{◌≡◌, ◌∙◌, sym, ap, arith}
use Rattle.icode.specs.Plain.{plain_body}
use Rattle.interchange.specs.Interchanged.{steps_less}
use Rattle.nests.specs.Rounds.{first_load}
use Rattle.nests.specs.Views.{loops_in}
use Rattle.nests.proofs.Counts.{others-counts}
use Rattle.interchange.proofs.Sunk.{sunk-alone, sunk-stays, sunk-swapped, loops-exchanged}
use Rattle.interchange.proofs.orders.+sinking.Goals as goal

pub sink_further-returns-then-body-ne1 : goal.sink_further-returns-then-body-ne1
sink_further-returns-then-body-ne1 t c = sunk-alone c.args.depth c.args.count.now (plain_body c.args.body.now) (others-counts c.args.body.now c.if-body-ne1.true)

pub sink-returns-then-not-steps_less : goal.sink-returns-then-not-steps_less
sink-returns-then-not-steps_less t c =
    sunk-stays c.args.depth c.args.count.now c.args.inner.now (plain_body c.args.inside.now)
    (ap (λ b. steps_less c.args.depth (first_load b)) (sym c.innermost.ensures) ∙ (sym c.steps_less.ensures ∙ c.if-not-steps_less.true))

pub sink-sink_further-requires : goal.sink-sink_further-requires
sink-sink_further-requires t c =
    let same : loops_in (plain_body c.exchange_innermost.new.body) ≡ loops_in (plain_body c.args.inside.now) =
    ap loops_in c.exchange_innermost.ensures ∙ loops-exchanged c.args.depth (plain_body c.args.inside.now) in
    (omega (arith, same, c.decreases), omega (arith, same, c.requires))

pub sink-returns : goal.sink-returns
sink-returns t c =
    sunk-swapped c.args.depth c.args.count.now c.args.inner.now c.swap.new.x c.swap.new.y c.sink_further.new.count (plain_body c.args.inside.now) (plain_body c.exchange_innermost.new.body) (plain_body c.sink_further.new.body)
    (ap (λ b. steps_less c.args.depth (first_load b)) (sym c.innermost.ensures) ∙ (sym c.steps_less.ensures ∙ c.if-not-steps_less.false))
    c.exchange_innermost.ensures c.swap.ensures.x_after c.swap.ensures.y_after c.sink_further.ensures
