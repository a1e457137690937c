use Rattle.std.proofs.Common.{◌≡◌, ◌-◌}
use Rattle.grammar.specs.Reading.{many_at}
use Rattle.grammar.proofs.Loop.{in_front}
use Rattle.schedules.specs.MixReading.{next_event_at, events_at}
use Rattle.schedules.proofs.mix.events.Given as goal

abbrev pub invariant-loop : goal.invariant-loop
invariant-loop l = in_front l.events.items (many_at (l.count - l.counter) next_event_at l.cursor) ≡ events_at l.count l.fn.cursor
