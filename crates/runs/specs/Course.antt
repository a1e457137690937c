-- The course of a run: where it passes through, and what the events at its end do.
use Rattle.std.specs.Prelude.{◌≡◌, ℕ, List, [], ◌∷◌, ◌++◌, map}
use Rattle.icode.specs.declared.action.Action.{Action}
use Rattle.icode.specs.declared.event.Drained.TheVariants.{Wrote}
use Rattle.icode.specs.declared.event.Event.{Event}
use Rattle.icode.specs.declared.event.Event.TheVariants.{Turn, Drain}
use Rattle.icode.specs.declared.event.Turned.TheVariants.{Did}
use Rattle.icode.specs.Buffers.{buffered_start, drain_answer}
use Rattle.icode.specs.Machine.{Code, IsCode, answer, start}
use Rattle.runs.specs.Standing.{Standing, completion_at, direct, queued, stepped}
use Rattle.runs.specs.Walks.{walked}

-- the machine has done a front of the events
pub record PassesThrough (code : Code) (s : Standing) (events : List Event) (t : Standing) : Type 0 where
  pub front : List Event
  pub rest : List Event
  pub whole : events ≡ front ++ rest
  pub after : t ≡ walked code s front

-- the turn does an action, or the drain writes a store
abbrev pub StepActs : Code → Standing → Event → Type 0
StepActs code (direct s) (Turn q) = (action : Action) × (answer code s q ≡ Did action)
StepActs code (direct s) (Drain q) = ⊥
StepActs code (queued b) (Turn q) = (action : Action) × (answer code b.state q ≡ Did action)
StepActs code (queued b) (Drain q) = (address : ℕ) × (drain_answer b q ≡ Wrote address)

-- so does each of the events, the first of which is done here
abbrev pub EachActs : Code → Standing → List Event → Type 0
EachActs code s [] = Unit {0}
EachActs code s (e ∷ events) = StepActs code s e × EachActs code (stepped code s e) events

-- each of the events that complete the run from here on does something: no turn waits, none comes when all phases are
-- done, and no drain finds a queue empty
abbrev pub CompletionActs : Code → Standing → Type 0
CompletionActs code s = EachActs code s (completion_at code s)

-- so it is in every run
abbrev pub CompletionsAct : Type 0
CompletionsAct =
    (code : Code) → IsCode code → (x turns : List ℕ)
    → CompletionActs code (walked code (direct (start code x)) (map Turn turns))

-- and in every run with store buffers
abbrev pub EventCompletionsAct : Type 0
EventCompletionsAct =
    (code : Code) → IsCode code → (x : List ℕ) (events : List Event)
    → CompletionActs code (walked code (queued (buffered_start code x)) events)
