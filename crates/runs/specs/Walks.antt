-- Runs by events, one after another.
use Rattle.std.specs.Prelude.{List, [], ◌∷◌, ◌++◌}
use Rattle.icode.specs.declared.event.Event.{Event}
use Rattle.icode.specs.Machine.{Code}
use Rattle.runs.specs.Standing.{Standing, completion_at, stepped}

-- where a machine stands after the events
abbrev pub walked : Code → Standing → List Event → Standing
walked code s [] = s
walked code s (e ∷ events) = walked code (stepped code s e) events

-- the events, and then those that complete them
abbrev pub completed : Code → Standing → List Event → List Event
completed code s events = events ++ completion_at code (walked code s events)

-- where it stands after the events that complete its run
abbrev pub finished_at : Code → Standing → Standing
finished_at code s = walked code s (completion_at code s)

-- after the events, and those that complete them
abbrev pub ended : Code → Standing → List Event → Standing
ended code s events = finished_at code (walked code s events)
