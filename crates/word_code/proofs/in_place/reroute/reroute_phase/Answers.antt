use Rattle.std.proofs.Common.{arith}
use Rattle.word_code.proofs.InPlace.Rerouting.{rerouted-none, rerouted-more, rerouted-all}
use Rattle.word_code.proofs.in_place.reroute.reroute_phase.Goals as goal

pub loop-index-init : goal.loop-index-init
loop-index-init c = rerouted-none c.args.routes.now c.args.body.now

pub loop-index-preserved : goal.loop-index-preserved
loop-index-preserved c =
    rerouted-more c.args.routes.now c.loop-index.index c.args.body.now c.loop-index.body _ c.index-body-index.result c.reroute_stmt.new.stmt (omega arith) (omega arith) c.index-body-index.is c.reroute_stmt.ensures c.loop-index.invariant

pub returns : goal.returns
returns c =
    rerouted-all c.args.routes.now c.loop-index.index c.args.body.now c.loop-index.body (omega (arith, c.min-index-end.ensures, c.loop-index-test.false)) c.loop-index.invariant
