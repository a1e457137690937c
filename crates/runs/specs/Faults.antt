-- Where a write fault meets a run whose lines are written one by one.
use Rattle.std.specs.Prelude.{◌≡◌, ℕ, ◌+◌, List, [], ◌∷◌, ◌++◌, length}
use Rattle.std.specs.declared.option.Option.{Option}
use Rattle.std.specs.Io.KnownBytes.{Appends}
use Rattle.icode.specs.declared.event.Event.{Event}
use Rattle.icode.specs.Machine.{Code}
use Rattle.io_edge.specs.Taken.{AppendsPrefix}
use Rattle.runs.specs.Lines.{step_lines}
use Rattle.runs.specs.Standing.{Standing}
use Rattle.runs.specs.Walks.{walked}

-- the fault met the line of one of the events: the lines of those before it are written, and a front of its own; it is
-- the last that is done. Events are numbered from a number on.
pub record FaultMet (code : Code) (s : Standing) (number : ℕ) (events : List Event) (t : Standing)
    (old new : Option (List ℕ)) : Type 0 where
  pub front : List Event
  pub met : Event
  pub rest : List Event
  pub whole : events ≡ front ++ met ∷ rest
  pub after : t ≡ walked code s (front ++ met ∷ [])
  -- what the output held before that line
  pub before : Option (List ℕ)
  pub written : Appends old before (step_lines code s number front)
  pub cut : AppendsPrefix before new (step_lines code (walked code s front) (number + length front) (met ∷ []))
