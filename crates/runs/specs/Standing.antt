-- Where a machine stands, and what it does at an event: a machine without store buffers, or one with them.
use Rattle.std.specs.Prelude.{◌≡◌, ℕ, ◌<◌, List, ◌∷◌, map}
use Rattle.icode.specs.declared.event.Event.{Event}
use Rattle.icode.specs.declared.event.Event.TheVariants.{Turn, Drain}
use Rattle.icode.specs.Buffers.{Buffered, buffered_completion, buffered_step, proc_of}
use Rattle.icode.specs.Machine.{Code, State, completion, turn}

pub data Standing : Type 0 where
  direct : State → Standing
  queued : Buffered → Standing

-- where it stands after an event; without buffers no store waits, so a drain changes nothing
abbrev pub stepped : Code → Standing → Event → Standing
stepped code (direct s) (Turn q) = direct (turn code s q)
stepped code (direct s) (Drain q) = direct s
stepped code (queued b) event = queued (buffered_step code b event)

-- the events that complete its run
abbrev pub completion_at : Code → Standing → List Event
completion_at code (direct s) = map Turn (completion code s)
completion_at code (queued b) = buffered_completion code b

abbrev pub memory_at : Standing → List ℕ
memory_at (direct s) = s.memory
memory_at (queued b) = b.state.memory

-- the event is of a processor that there is, and the events that complete the run begin with it
abbrev pub IsNextStep : Code → Standing → Event → Type 0
IsNextStep code s event =
    (proc_of event < code.procs) × (completion_at code s ≡ event ∷ completion_at code (stepped code s event))
