use Rattle.std.proofs.Common.{◌-◌, length, arith}
use Rattle.word_code.proofs.InPlace.Choosing.{chosen-more}
use Rattle.word_code.proofs.in_place.routing.choose.Goals as goal

pub loop-behind-preserved : goal.loop-behind-preserved
loop-behind-preserved c =
    chosen-more c.loop-behind.behind (length c.args.body.now - 1 - c.loop-behind.behind) c.args.body.now c.loop-behind.routes.items c.loop-behind.target c.index-body-body.result c.in_ok-route.route c.push.new.self.items c.not_input-target.result
    c.loop-behind-test.true (omega (arith, c.loop-behind-test.true)) c.index-body-body.is c.in_ok-route.ensures c.in_ok-push.ensures.items c.not_input-target.ensures c.loop-behind.invariant
