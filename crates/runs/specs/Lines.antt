-- The lines of events, one after another.
use Rattle.std.specs.Prelude.{ℕ, ◌+◌, List, [], ◌∷◌, ◌++◌}
use Rattle.icode.specs.declared.event.Drained.TheVariants.{Empty}
use Rattle.icode.specs.declared.event.Event.{Event}
use Rattle.icode.specs.declared.event.Event.TheVariants.{Turn, Drain}
use Rattle.icode.specs.Buffers.{drain_answer}
use Rattle.icode.specs.Machine.{Code, answer}
use Rattle.runs.specs.Standing.{Standing, direct, queued, stepped}
use Rattle.runs.specs.Trace.{drain_line, turn_line}
use Rattle.runs.specs.Walks.{completed}

-- the line of an event that is done where the machine stands so
abbrev pub step_line : Code → Standing → ℕ → Event → List ℕ
step_line code (direct s) number (Turn q) = turn_line code.lanes number q (answer code s q)
step_line code (direct s) number (Drain q) = drain_line number q Empty
step_line code (queued b) number (Turn q) = turn_line code.lanes number q (answer code b.state q)
step_line code (queued b) number (Drain q) = drain_line number q (drain_answer b q)

-- the lines of events from this number on, the first of which is done where the machine stands so
abbrev pub step_lines : Code → Standing → ℕ → List Event → List ℕ
step_lines code s number [] = []
step_lines code s number (e ∷ events) =
    step_line code s number e ++ step_lines code (stepped code s e) (number + 1) events

-- the lines of a whole run from there on
abbrev pub trace_of : Code → Standing → List Event → List ℕ
trace_of code s events = step_lines code s 0 (completed code s events)
