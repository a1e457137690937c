use Rattle.std.proofs.Common.{◌≡◌, drop, map, nat_le}
use Rattle.std.specs.List.{find}
use Rattle.icode.specs.Buffers.{proc_of}
use Rattle.schedules.proofs.mix.first_proc_from.Given as goal

abbrev pub invariant-loop-event : goal.invariant-loop-event
invariant-loop-event l = find (λ q. nat_le l.p q) (map proc_of (drop l.event-index l.events)) ≡ find (λ q. nat_le l.p q) (map proc_of l.events)
