-- The events that a word names.
use Rattle.std.specs.Prelude.{◌≡◌, ℕ, List, None, map, find, nat_le}
use Rattle.icode.specs.Buffers.{proc_of}
use Rattle.icode.specs.declared.event.Event.{Event}
use Rattle.icode.specs.declared.event.Event.TheVariants.{Turn}
use Rattle.schedules.specs.Turns.{named, turns_of}
use Rattle.buffer_machine.specs.declared.events.Events.{Events}
use Rattle.buffer_machine.specs.declared.events.Events.TheVariants.{Turns, Mixed}

-- for p processors
abbrev pub events_of : Events → ℕ → List Event
events_of (Turns schedule) p = map Turn (turns_of schedule.now p)
events_of (Mixed mix) p = mix.now

-- the processors that the word names
abbrev pub procs_named : Events → List ℕ
procs_named (Turns schedule) = named schedule.now
procs_named (Mixed mix) = map proc_of mix.now

-- each of them is one of the processors
abbrev pub HasNoStranger : Events → ℕ → Type 0
HasNoStranger events procs = find (λ q. nat_le procs q) (procs_named events) ≡ None
