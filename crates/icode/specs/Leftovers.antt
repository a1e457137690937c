-- Runs where others have run before: beside the input memory holds any words, and each phase begins with any registers.
use Rattle.std.specs.Prelude.{◌≡◌, ℕ, zero, suc, ◌+◌, ◌-◌, ◌*◌, ◌==◌, List, [], ◌∷◌, ◌++◌, length, All, if◌then◌else◌}
use Rattle.icode.specs.Machine.{Code, State, IsApart, IsCode, Whole, completion, first_open, none_done, padded, processors_alone, turn, words_at}

-- what is left over: the words of memory after the input, and for each phase the registers of the processors where it begins
pub record Leftovers : Type 0 where
  pub words : List ℕ
  pub files : ℕ → List (List ℕ)

-- as many words as there are, whatever they are
pub record AreLeftovers (code : Code) (left : Leftovers) : Type 0 where
  pub words : length left.words ≡ 4 * padded code - code.size
  pub procs : (phase : ℕ) → length (left.files phase) ≡ code.procs
  pub files : (phase : ℕ) → All (λ file. length file ≡ code.regs * code.lanes) (left.files phase)

-- the input stands in the first words, and all else is left over
abbrev pub start_among : Code → Leftovers → List ℕ → State
start_among code left x =
    let phase = first_open code (length code.lists) 0 in
    record { memory = x ++ left.words; registers = left.files phase; phase = phase; done = none_done code }

-- where the state is past the phase, a new one begins
abbrev pub with_files : Leftovers → ℕ → State → State
with_files left phase s =
    if phase == s.phase then s
    else record { memory = s.memory; registers = left.files s.phase; phase = s.phase; done = s.done }

-- the state after a turn of processor q
abbrev pub turn_among : Code → Leftovers → State → ℕ → State
turn_among code left s q = with_files left s.phase (turn code s q)

-- the state after the turns, one after another
abbrev pub run_among : Code → Leftovers → State → List ℕ → State
run_among code left s [] = s
run_among code left s (q ∷ turns) = run_among code left (turn_among code left s q) turns

-- the state after the turns and their completion
abbrev pub runs_among : Code → Leftovers → List ℕ → List ℕ → State
runs_among code left x turns =
    let s = run_among code left (start_among code left x) turns in run_among code left s (completion code s)

-- what a run leaves in the second array
abbrev pub results_among : Code → Leftovers → List ℕ → List ℕ → List ℕ
results_among code left x turns = words_at code.size (runs_among code left x turns).memory (padded code)

-- One processor after another

-- n phases from this one on are run so
abbrev pub phases_among : Code → Leftovers → ℕ → ℕ → List ℕ → List ℕ
phases_among code left zero phase memory = memory
phases_among code left (suc n) phase memory =
    let begun : Whole = record { memory = memory; registers = left.files phase } in
    phases_among code left n (phase + 1) (processors_alone code phase code.procs 0 begun).memory

-- The law

-- whatever the turns, the memory is what one processor after another leaves
abbrev pub RunsAmongInOrder : Type 0
RunsAmongInOrder =
    (code : Code) (left : Leftovers) → IsCode code → ((phase : ℕ) → IsApart code phase) →
    ((phase : ℕ) → length (left.files phase) ≡ code.procs) → (x turns : List ℕ) →
    (runs_among code left x turns).memory ≡ phases_among code left (length code.lists) 0 (x ++ left.words)
