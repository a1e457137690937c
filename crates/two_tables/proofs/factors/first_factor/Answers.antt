use Rattle.std.proofs.Common.{length, arith}
use Rattle.two_tables.proofs.Cutting.{list_more, block_room}
use Rattle.two_tables.proofs.factors.first_factor.Goals as goal

pub entry_at-requires : goal.entry_at-requires
entry_at-requires c =
    let room = block_room (length c.args.entries.now) c.args.cut.width c.loop-block.block c.loop-block-test.true in
    let wide = c.requires.wide in
    omega (arith, room, wide)

pub loop-block-preserved : goal.loop-block-preserved
loop-block-preserved c =
    list_more c.loop-block.block _ c.loop-block.made.items c.push.new.self.items c.entry_at.result c.loop-block.invariant c.in_ok-push.ensures.items c.entry_at.ensures
