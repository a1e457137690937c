-- The machine with store buffers: what a processor stores waits in a queue of its own, and is written to memory later.
use Rattle.std.specs.Prelude.{◌≡◌, ℕ, zero, suc, ◌+◌, ◌<◌, ◌≤◌, List, [], ◌∷◌, ◌++◌, Bool, true, false, length, drop, replicate, flat_map, if◌then◌else◌, Option, Some, None, slice_index, slice_index_or, slice_set}
use Rattle.std.specs.List.{range_with_len, list_any}
use Rattle.icode.specs.declared.action.Action.{Action}
use Rattle.icode.specs.declared.action.Action.TheVariants.{Store}
use Rattle.icode.specs.declared.event.Event.{Event}
use Rattle.icode.specs.declared.event.Event.TheVariants.{Turn, Drain}
use Rattle.icode.specs.declared.event.Drained.{Drained}
use Rattle.icode.specs.declared.event.Drained.TheVariants.{Wrote, Empty}
use Rattle.icode.specs.Machine.{Code, State, Local, acts, effect, register_of, with_words, words_at, next_action, is_open, moved_on, none_done, phases_after, start, padded}

-- a store that waits: these words belong from the address on
pub record Waiting : Type 0 where
  pub address : ℕ
  pub words : List ℕ

-- a machine's state, and the stores of each processor that wait, the oldest first
pub record Buffered : Type 0 where
  pub state : State
  pub queues : List (List Waiting)

abbrev pub queue_of : List (List Waiting) → ℕ → List Waiting
queue_of queues q = slice_index_or queues q []

-- the memory once these stores are written to it, one after another
abbrev pub overlaid : List ℕ → List Waiting → List ℕ
overlaid memory [] = memory
overlaid memory (w ∷ queue) = overlaid (with_words memory w.address w.words) queue

-- what processor q sees: memory overlaid by its own waiting stores, and its registers
abbrev pub seen_by : Buffered → ℕ → Local
seen_by b q =
    record {
      memory = overlaid b.state.memory (queue_of b.queues q);
      registers = slice_index_or b.state.registers q [];
    }

-- the store that the action makes, if it makes one
abbrev pub stored : ℕ → Action → List ℕ → List Waiting
stored lanes (Store address r) registers = record { address = address; words = register_of lanes registers r } ∷ []
stored lanes _ registers = []

abbrev pub is_waiting : List Waiting → Bool
is_waiting [] = false
is_waiting (w ∷ queue) = true

abbrev pub some_wait : List (List Waiting) → Bool
some_wait queues = list_any is_waiting queues

-- the phase moves on where no store waits and no action is left in it
abbrev pub buffered_moved_on : Code → Buffered → Buffered
buffered_moved_on code b =
    record {
      state = if some_wait b.queues then b.state else moved_on code b.state;
      queues = b.queues;
    }

-- processor q does the action: on what it sees, and its store goes to the end of its queue
abbrev pub buffered_acted : Code → ℕ → Action → Buffered → Buffered
buffered_acted code q action b =
    let here : Local = seen_by b q in
    record {
      state = record {
        memory = b.state.memory;
        registers = slice_set b.state.registers q (effect code.modulus code.lanes action here).registers;
        phase = b.state.phase;
        done = slice_set b.state.done q (suc (slice_index b.state.done q));
      };
      queues = slice_set b.queues q (queue_of b.queues q ++ stored code.lanes action here.registers);
    }

abbrev pub buffered_turn_with : Code → ℕ → Buffered → Option Action → Buffered
buffered_turn_with code q b None = b
buffered_turn_with code q b (Some action) = buffered_moved_on code (buffered_acted code q action b)

-- the state after a turn of processor q: it does the action that it has left, if there is one
abbrev pub buffered_turn : Code → Buffered → ℕ → Buffered
buffered_turn code b q = buffered_turn_with code q b (next_action code b.state q)

-- the store is written to memory, and these still wait
abbrev pub written : ℕ → Waiting → List Waiting → Buffered → Buffered
written q w queue b =
    record {
      state = record {
        memory = with_words b.state.memory w.address w.words;
        registers = b.state.registers;
        phase = b.state.phase;
        done = b.state.done;
      };
      queues = slice_set b.queues q queue;
    }

abbrev pub drain_with : Code → ℕ → Buffered → List Waiting → Buffered
drain_with code q b [] = b
drain_with code q b (w ∷ queue) = buffered_moved_on code (written q w queue b)

-- the state after a drain of processor q: its oldest store is written to memory, if one waits
abbrev pub drain : Code → Buffered → ℕ → Buffered
drain code b q = drain_with code q b (queue_of b.queues q)

abbrev pub drain_answer_of : List Waiting → Drained
drain_answer_of [] = Empty
drain_answer_of (w ∷ queue) = Wrote w.address

abbrev pub drain_answer : Buffered → ℕ → Drained
drain_answer b q = drain_answer_of (queue_of b.queues q)

abbrev pub proc_of : Event → ℕ
proc_of (Turn q) = q
proc_of (Drain q) = q

abbrev pub buffered_step : Code → Buffered → Event → Buffered
buffered_step code b (Turn q) = buffered_turn code b q
buffered_step code b (Drain q) = drain code b q

-- the state after the events, one after another
abbrev pub buffered_run : Code → Buffered → List Event → Buffered
buffered_run code b [] = b
buffered_run code b (e ∷ events) = buffered_run code (buffered_step code b e) events

-- Whole runs

abbrev pub none_waiting : Code → List (List Waiting)
none_waiting code = replicate code.procs []

-- the input stands in the first words, all else is 0, and no store waits
abbrev pub buffered_start : Code → List ℕ → Buffered
buffered_start code x = record { state = start code x; queues = none_waiting code }

abbrev pub stores_among : List Action → ℕ
stores_among [] = 0
stores_among (Store address r ∷ actions) = suc (stores_among actions)
stores_among (_ ∷ actions) = stores_among actions

-- a processor that has these actions left and a number of stores waiting takes those actions and then drains its
-- queue to the end
abbrev pub rest_of_processor : List Action → ℕ → ℕ → List Event
rest_of_processor left waiting q = replicate (length left) (Turn q) ++ replicate (waiting + stores_among left) (Drain q)

-- the events that finish a phase: so does each processor in rising order
abbrev pub buffered_rest : Code → ℕ → List ℕ → List (List Waiting) → List Event
buffered_rest code phase done queues =
    flat_map
    (λ q. rest_of_processor (drop (slice_index done q) (acts code phase q)) (length (queue_of queues q)) q)
    (range_with_len 0 code.procs)

-- the events of n whole phases
abbrev pub buffered_phases : Code → ℕ → ℕ → List Event
buffered_phases code zero phase = []
buffered_phases code (suc n) phase = buffered_rest code phase (none_done code) (none_waiting code) ++ buffered_phases code n (phase + 1)

-- the events that finish all phases
abbrev pub buffered_completion : Code → Buffered → List Event
buffered_completion code b =
    buffered_rest code b.state.phase b.state.done b.queues
    ++ buffered_phases code (phases_after code b.state.phase) (b.state.phase + 1)

abbrev pub buffered_finished : Code → Buffered → Buffered
buffered_finished code b = buffered_run code b (buffered_completion code b)

-- the state after the events and their completion
abbrev pub buffered_runs : Code → List ℕ → List Event → Buffered
buffered_runs code x events = buffered_finished code (buffered_run code (buffered_start code x) events)

-- what a run leaves in the second array
abbrev pub buffered_results : Code → List ℕ → List Event → List ℕ
buffered_results code x events = words_at code.size (buffered_runs code x events).state.memory (padded code)

-- each turn, and a drain of its processor after it
abbrev pub at_once : List ℕ → List Event
at_once [] = []
at_once (q ∷ turns) = Turn q ∷ Drain q ∷ at_once turns

-- processor q has no action left in the phase, and none of its stores waits
abbrev pub IsIdle : Code → Buffered → ℕ → Type 0
IsIdle code b q = (length (acts code b.state.phase q) ≤ slice_index b.state.done q) × (queue_of b.queues q ≡ [])

-- what turns and drains keep: a phase that is not past has an action left or a store that waits, and past all phases
-- no store waits
pub record IsBusy (code : Code) (b : Buffered) : Type 0 where
  pub dones : length b.state.done ≡ code.procs
  pub lines : length b.queues ≡ code.procs
  pub within : b.state.phase ≤ length code.lists
  pub opens : b.state.phase < length code.lists → some_wait b.queues ≡ false → is_open code b.state.phase b.state.done ≡ true
  pub past : length code.lists ≤ b.state.phase → some_wait b.queues ≡ false
