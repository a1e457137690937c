-- Runs with store buffers where others have run before.
use Rattle.std.specs.Prelude.{◌≡◌, ℕ, ◌≤◌, ◌++◌, List, [], ◌∷◌, length}
use Rattle.icode.specs.Buffers.{Buffered, buffered_completion, buffered_step, none_waiting}
use Rattle.icode.specs.declared.event.Event.{Event}
use Rattle.icode.specs.Fresh.{HaveFactors, IsFresh}
use Rattle.icode.specs.Leftovers.{AreLeftovers, Leftovers, phases_among, start_among, with_files}
use Rattle.icode.specs.Machine.{Code, IsApart, IsCode, padded, results, words_at}

-- the state after an event, where each phase begins with registers that are left over
abbrev pub buffered_step_among : Code → Leftovers → Buffered → Event → Buffered
buffered_step_among code left b e =
    let next = buffered_step code b e in
    record { state = with_files left b.state.phase next.state; queues = next.queues }

abbrev pub buffered_run_among : Code → Leftovers → Buffered → List Event → Buffered
buffered_run_among code left b [] = b
buffered_run_among code left b (e ∷ events) = buffered_run_among code left (buffered_step_among code left b e) events

-- after the events, from the input and what is left over, where no store waits
abbrev pub buffered_among : Code → Leftovers → List ℕ → List Event → Buffered
buffered_among code left x events =
    buffered_run_among code left (record { state = start_among code left x; queues = none_waiting code }) events

-- the turns and drains have brought the run past all phases
abbrev pub HasEnded : Code → Buffered → Type 0
HasEnded code b = length code.lists ≤ b.state.phase

-- The laws

-- whatever turns and drains came before, the completion of where they lead brings the run past all phases
abbrev pub BuffersAmongEnd : Type 0
BuffersAmongEnd =
    (code : Code) (left : Leftovers) → IsCode code → (x : List ℕ) (events : List Event) →
    let completed = events ++ buffered_completion code (buffered_among code left x events) in
    HasEnded code (buffered_among code left x completed)

-- whatever turns and drains end a run, the memory is what one processor after another leaves
abbrev pub BuffersAmongInOrder : Type 0
BuffersAmongInOrder =
    (code : Code) (left : Leftovers) → IsCode code → ((phase : ℕ) → IsApart code phase) →
    ((phase : ℕ) → length (left.files phase) ≡ code.procs) → (x : List ℕ) (events : List Event) →
    HasEnded code (buffered_among code left x events) →
    (buffered_among code left x events).state.memory ≡ phases_among code left (length code.lists) 0 (x ++ left.words)

-- where a code is fresh and apart, such a run among any leftovers leaves what a run without buffers leaves from the
-- start
abbrev pub FreshBuffersIgnoreLeftovers : Type 0
FreshBuffersIgnoreLeftovers =
    (code : Code) (left : Leftovers) → IsCode code → HaveFactors code → IsFresh code →
    ((phase : ℕ) → IsApart code phase) → AreLeftovers code left → (x turns : List ℕ) (events : List Event) →
    length x ≡ code.size → HasEnded code (buffered_among code left x events) →
    words_at code.size (buffered_among code left x events).state.memory (padded code) ≡ results code x turns
