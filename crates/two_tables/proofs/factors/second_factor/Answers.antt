use Rattle.std.proofs.Common.{length, arith}
use Rattle.two_tables.proofs.Cutting.{from_block, list_more}
use Rattle.two_tables.proofs.factors.second_factor.Goals as goal

pub overflow_mul-at-in-loop-place : goal.overflow_mul-at-in-loop-place
overflow_mul-at-in-loop-place c =
    let k = from_block (length c.args.entries.now) c.args.cut.width c.args.cut.across c.loop-place.place c.requires.wide c.requires.across c.loop-place-test.true in
    let row = k.row in
    omega (arith, row)

pub overflow_add-at : goal.overflow_add-at
overflow_add-at c =
    let k = from_block (length c.args.entries.now) c.args.cut.width c.args.cut.across c.loop-place.place c.requires.wide c.requires.across c.loop-place-test.true in
    let entry = k.entry in
    omega (arith, entry)

pub entry_at-requires : goal.entry_at-requires
entry_at-requires c =
    (from_block (length c.args.entries.now) c.args.cut.width c.args.cut.across c.loop-place.place c.requires.wide c.requires.across c.loop-place-test.true).entry

pub loop-place-preserved : goal.loop-place-preserved
loop-place-preserved c =
    list_more c.loop-place.place _ c.loop-place.made.items c.push.new.self.items c.entry_at.result c.loop-place.invariant c.in_ok-push.ensures.items c.entry_at.ensures
