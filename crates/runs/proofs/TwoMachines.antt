-- Runs of a machine without store buffers, and of one with them, as runs by events.
use Rattle.std.proofs.Common.{◌≡◌, ℕ, List, [], ◌∷◌, ◌++◌, Bool, map, refl, ap, ◌∙◌}
use Rattle.data_stream.specs.Line.{line_of}
use Rattle.icode.specs.declared.event.Event.{Event}
use Rattle.icode.specs.declared.event.Event.TheVariants.{Turn}
use Rattle.icode.specs.Buffers.{Buffered, buffered_completion, buffered_finished, buffered_run, buffered_runs}
use Rattle.icode.specs.Buffers.{buffered_start, buffered_step}
use Rattle.icode.specs.Machine.{Code, State, completion, finished, padded, run, runs, start, turn, words_at}
use Rattle.runs.specs.Standing.{Standing, direct, memory_at, queued}
use Rattle.runs.specs.Texts.{asked_lines, buffered_text, run_text, text_at}
use Rattle.runs.specs.Walks.{ended, finished_at, walked}

module _ (code : Code) where
  pub walked_turns : (turns : List ℕ) (s : State) → walked code (direct s) (map Turn turns) ≡ direct (run code s turns)
  walked_turns [] s = refl
  walked_turns (q ∷ turns) s = walked_turns turns (turn code s q)

  pub walked_events : (events : List Event) (b : Buffered) →
      walked code (queued b) events ≡ queued (buffered_run code b events)
  walked_events [] b = refl
  walked_events (e ∷ events) b = walked_events events (buffered_step code b e)

  pub finished_turns : (s : State) → finished_at code (direct s) ≡ direct (finished code s)
  finished_turns s = walked_turns (completion code s) s

  pub finished_events : (b : Buffered) → finished_at code (queued b) ≡ queued (buffered_finished code b)
  finished_events b = walked_events (buffered_completion code b) b

  -- a vector's run
  pub ended_turns : (x turns : List ℕ) → ended code (direct (start code x)) (map Turn turns)
      ≡ direct (runs code x turns)
  ended_turns x turns = ap (finished_at code) (walked_turns turns (start code x)) ∙ finished_turns (run code (start code x) turns)

  pub ended_events : (x : List ℕ) (events : List Event) → ended code (queued (buffered_start code x)) events
      ≡ queued (buffered_runs code x events)
  ended_events x events = ap (finished_at code) (walked_events events (buffered_start code x)) ∙ finished_events (buffered_run code (buffered_start code x) events)

  pub text_of_turns : (asked : Bool) (turns x : List ℕ) → text_at asked code (direct (start code x)) (map Turn turns)
      ≡ run_text asked code turns x
  text_of_turns asked turns x =
      ap (λ (s : Standing). asked_lines asked code (direct (start code x)) (map Turn turns) ++ line_of (words_at code.size (memory_at s) (padded code))) (ended_turns x turns)

  pub text_of_events : (asked : Bool) (events : List Event) (x : List ℕ) →
      text_at asked code (queued (buffered_start code x)) events ≡ buffered_text asked code events x
  text_of_events asked events x =
      ap (λ (s : Standing). asked_lines asked code (queued (buffered_start code x)) events ++ line_of (words_at code.size (memory_at s) (padded code))) (ended_events x events)

-- the state of a machine without store buffers, and that of one with them
abbrev pub state_at : Standing → State
state_at (direct s) = s
state_at (queued b) = b.state

abbrev pub buffered_at : Standing → Buffered
buffered_at (direct s) = record { state = s; queues = [] }
buffered_at (queued b) = b
