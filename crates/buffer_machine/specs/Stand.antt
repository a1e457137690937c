-- Where a machine with store buffers stands.
use Rattle.std.specs.Prelude.{◌≡◌, ℕ, zero, suc, ◌+◌, ◌-◌, ◌*◌, ◌<◌, ◌≤◌, List, [], ◌∷◌, ◌++◌, Bool, ◌||◌, map, length, drop, replicate, nat_lt, if◌then◌else◌, slice_index, slice_index_or, slice_set}
use Rattle.std.specs.List.{list_any}
use Rattle.icode.specs.declared.action.Action.{Action}
use Rattle.icode.specs.Buffers.{Waiting, Buffered, overlaid, stored, stores_among, some_wait}
use Rattle.icode.specs.Machine.{Code, acts, effect, padded}
use Rattle.buffer_machine.specs.Backlog.{Backlog}

-- memory, each processor's registers and queue, the phase, and how many of its actions each processor has done
pub record Stand : Type 0 where
  pub memory : List ℕ
  pub registers : List (List ℕ)
  pub queues : List Backlog
  pub phase : ℕ
  pub done : List ℕ

abbrev pub backlog_at : List Backlog → ℕ → Backlog
backlog_at queues q = slice_index_or queues q (record { lanes = 0; waiting = []; room = 0; most = 0; span = 0 })

abbrev pub waits_of : List Backlog → List (List Waiting)
waits_of queues = map (λ (l : Backlog). l.waiting) queues

-- the state that it stands for
abbrev pub buffered_of : Stand → Buffered
buffered_of t =
    record {
      state = record { memory = t.memory; registers = t.registers; phase = t.phase; done = t.done };
      queues = waits_of t.queues;
    }

-- a queue after an action
abbrev pub after_action : ℕ → Action → List ℕ → Backlog → Backlog
after_action lanes action registers l =
    record {
      lanes = l.lanes;
      waiting = l.waiting ++ stored lanes action registers;
      room = l.room - stores_among (action ∷ []);
      most = l.most;
      span = l.span;
    }

-- processor q has done the action, and the phase has not moved on yet
abbrev pub acted_stand : ℕ → ℕ → ℕ → Action → Stand → Stand
acted_stand m lanes q action t =
    let l : Backlog = backlog_at t.queues q in
    let registers : List ℕ = slice_index_or t.registers q [] in
    record {
      memory = t.memory;
      registers = slice_set t.registers q (effect m lanes action (record { memory = overlaid t.memory l.waiting; registers = registers })).registers;
      queues = slice_set t.queues q (after_action lanes action registers l);
      phase = t.phase;
      done = slice_set t.done q (suc (slice_index t.done q));
    }

abbrev pub cleared : Backlog → Backlog
cleared l = record { lanes = l.lanes; waiting = []; room = l.most; most = l.most; span = l.span }

-- whether a store waits, or a processor has done fewer actions than a number
abbrev pub is_held : ℕ → List ℕ → List Backlog → Bool
is_held len done queues = some_wait (waits_of queues) || list_any (λ d. nat_lt d len) done

-- the first of n phases from this one on that has actions, or what comes after them, given how many the phases have
abbrev pub first_busy : List ℕ → ℕ → ℕ → ℕ
first_busy lens zero phase = phase
first_busy lens (suc n) phase = if nat_lt 0 (slice_index lens phase) then phase else first_busy lens n (phase + 1)

-- the phase has moved on, where nothing holds it
abbrev pub settled_stand : List ℕ → Stand → Stand
settled_stand lens t =
    if is_held (slice_index lens t.phase) t.done t.queues then t
    else record {
      memory = t.memory;
      registers = t.registers;
      queues = map cleared t.queues;
      phase = first_busy lens (length lens - (t.phase + 1)) (t.phase + 1);
      done = replicate (length t.done) 0;
    }

-- the input stands in the first words, all else is 0, and nothing is done
abbrev pub first_stand : List ℕ → List ℕ → Stand → Stand
first_stand lens input t =
    record {
      memory = input ++ replicate (length t.memory - length input) 0;
      registers = map (λ (file : List ℕ). replicate (length file) 0) t.registers;
      queues = map cleared t.queues;
      phase = first_busy lens (length lens) 0;
      done = replicate (length t.done) 0;
    }

-- each list of the code has as many actions as its phase
pub record HasLens (code : Code) (lens : List ℕ) : Type 0 where
  pub count : length code.lists ≡ length lens
  pub each : (phase q : ℕ) → q < code.procs → length (acts code phase q) ≡ slice_index lens phase

-- stores of a number of words that are within a memory, and are residues
abbrev pub AreSound : ℕ → ℕ → ℕ → List Waiting → Type 0
AreSound m lanes span [] = Unit {0}
AreSound m lanes span (w ∷ queue) = (w.address + lanes ≤ span) × (length w.words ≡ lanes) × ((k : ℕ) → slice_index w.words k < m) × AreSound m lanes span queue

-- what every turn and drain keeps; each queue has room for the stores that its processor has left in the phase
pub record IsStanding (code : Code) (t : Stand) : Type 0 where
  pub memory : length t.memory ≡ 4 * padded code
  pub memory_below : (k : ℕ) → slice_index t.memory k < code.modulus
  pub files : length t.registers ≡ code.procs
  pub file : (q : ℕ) → q < code.procs → length (slice_index_or t.registers q []) ≡ code.regs * code.lanes
  pub files_below : (q k : ℕ) → slice_index (slice_index_or t.registers q []) k < code.modulus
  pub dones : length t.done ≡ code.procs
  pub lines : length t.queues ≡ code.procs
  pub lanes : (q : ℕ) → q < code.procs → (backlog_at t.queues q).lanes ≡ code.lanes
  pub spans : (q : ℕ) → q < code.procs → (backlog_at t.queues q).span ≡ 4 * padded code
  pub rooms : (q : ℕ) → q < code.procs → stores_among (drop (slice_index t.done q) (acts code t.phase q)) ≤ (backlog_at t.queues q).room
  pub mosts : (phase q : ℕ) → q < code.procs → stores_among (acts code phase q) ≤ (backlog_at t.queues q).most
  pub waiting : (q : ℕ) → AreSound code.modulus code.lanes (4 * padded code) (backlog_at t.queues q).waiting
