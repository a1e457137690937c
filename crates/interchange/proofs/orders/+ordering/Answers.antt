use Rattle.std.proofs.Common.{◌+◌, arith}
use Rattle.icode.specs.Plain.{Loop, plain_body}
use Rattle.nests.specs.Views.{one_loop}
use Rattle.nests.proofs.Counts.{others-counts}
use Rattle.interchange.proofs.Sunk.{ordered-alone, ordered-loops, ordered-deeper}
use Rattle.interchange.proofs.orders.+ordering.Goals as goal

pub order-returns-then-body-ne1 : goal.order-returns-then-body-ne1
order-returns-then-body-ne1 t c = ordered-alone c.args.depth c.args.count.now (plain_body c.args.body.now) (others-counts c.args.body.now c.if-body-ne1.true)

pub order_both-sink-requires : goal.order_both-sink-requires
order_both-sink-requires t c =
    let same = ordered-loops (c.args.depth + 1) c.args.inner.now c.order.new.count (plain_body c.args.inside.now) (plain_body c.order.new.body) c.order.ensures in
    omega (arith, same, c.requires)

pub order_both-returns : goal.order_both-returns
order_both-returns t c =
    ordered-deeper c.args.depth c.args.count.now c.args.inner.now c.order.new.count (plain_body c.args.inside.now) (plain_body c.order.new.body)
    (Loop c.sink.new.count (one_loop c.sink.new.inner (plain_body c.sink.new.inside))) c.order.ensures c.sink.ensures
