use Rattle.std.proofs.Common.{ap, sym, ◌∙◌}
use Rattle.grammar.proofs.Loop.{reads_one, reads_none, reads_all}
use Rattle.schedules.specs.MixReading.{next_event_at}
use Rattle.schedules.proofs.mix.events.Goals as goal

pub returns-in-Err : goal.returns-in-Err
returns-in-Err c =
    let read = ap next_event_at (sym c.fork-ahead.ensures) ∙ c.in-Err.ensures in
    rw c.give_up.ensures (reads_none next_event_at c.args.count c.loop.counter c.loop.cursor c.loop.events.items c.in-Err.stuck.left _ c.loop-test.true read c.loop.invariant)

pub loop-preserved : goal.loop-preserved
loop-preserved c =
    let read = ap next_event_at (sym c.fork-ahead.ensures) ∙ c.in-Ok.ensures in
    rw c.in_ok-push-in-Ok.ensures.items (reads_one next_event_at c.args.count c.loop.counter c.loop.cursor c.next_event.new.cursor c.loop.events.items c.in-Ok.event _ c.loop-test.true read c.loop.invariant)

pub returns : goal.returns
returns c = reads_all next_event_at c.args.count c.loop.counter c.loop.cursor c.loop.events.items _ c.loop-test.false c.loop.invariant
