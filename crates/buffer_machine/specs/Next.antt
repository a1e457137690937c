-- The next of the events that finish a run.
use Rattle.std.specs.Prelude.{◌≡◌, ◌<◌, ◌∷◌}
use Rattle.icode.specs.declared.event.Event.{Event}
use Rattle.icode.specs.Buffers.{Buffered, proc_of, buffered_step, buffered_completion}
use Rattle.icode.specs.Machine.{Code}

-- it is of a processor that there is, and those that finish the run begin with it
abbrev pub IsNextEvent : Code → Buffered → Event → Type 0
IsNextEvent code state event =
    (proc_of event < code.procs)
    × (buffered_completion code state ≡ event ∷ buffered_completion code (buffered_step code state event))
