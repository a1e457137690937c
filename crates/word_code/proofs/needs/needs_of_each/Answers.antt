use Rattle.std.proofs.Common.{◌-◌, length, arith}
use Rattle.word_code.proofs.Needing.{needed-none, needed-more}
use Rattle.word_code.proofs.needs.needs_of_each.Goals as goal

pub loop-behind-init : goal.loop-behind-init
loop-behind-init c = needed-none c.args.body.now c.new-each.result.items c.new-each.ensures.items

pub loop-behind-preserved : goal.loop-behind-preserved
loop-behind-preserved c =
    needed-more c.loop-behind.behind (length c.args.body.now - 1 - c.loop-behind.behind) c.args.body.now c.loop-behind.each.items c.loop-behind.needs c.index-body-body.result c.needs_of_stmt.result c.and-needs.result c.push.new.self.items
    c.loop-behind-test.true (omega (arith, c.loop-behind-test.true)) c.index-body-body.is c.needs_of_stmt.ensures c.and-needs.ensures c.in_ok-push.ensures.items c.loop-behind.invariant
