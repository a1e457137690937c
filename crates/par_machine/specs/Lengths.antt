-- The lengths of a phase's lists.
use Rattle.std.specs.Prelude.{◌≡◌, ℕ, ◌+◌, ◌-◌, ◌<◌, ◌≤◌, List, length, map, replicate, if◌then◌else◌, slice_index}
use Rattle.icode.specs.Machine.{Code, acts, is_open, first_open}
use Rattle.par_machine.specs.declared.phase.Routine.{Routine}

-- all processors have lists of the length that the phase's routine has
pub record HasLengths (code : Code) (phases : List Routine) : Type 0 where
  pub count : length code.lists ≡ length phases
  pub each : (phase q : ℕ) → q < code.procs → length (acts code phase q) ≡ slice_index (map (λ (r : Routine). r.len) phases) phase

-- the first processor that has done fewer than `len`
pub record IsFirstLeft (done : List ℕ) (len : ℕ) (proc : ℕ) : Type 0 where
  pub inside : proc < length done
  pub left : slice_index done proc < len
  pub none_before : (q : ℕ) → q < proc → len ≤ slice_index done q

-- so it is for a code of such lists, given how many each processor has done
abbrev pub OfCode : List Routine → List ℕ → (Code → Type 0) → Type 0
OfCode phases done Holds =
    (code : Code) → HasLengths code phases → 0 < code.procs → code.procs ≡ length done → Holds code

-- the phase after an action of this one, given how many phases there are and what is done of it: it moves on where no
-- action is left
abbrev pub settled_phase : Code → ℕ → ℕ → List ℕ → ℕ
settled_phase code count phase done =
    if is_open code phase done then phase else first_open code (count - (phase + 1)) (phase + 1)

abbrev pub settled_done : Code → ℕ → List ℕ → List ℕ
settled_done code phase done = if is_open code phase done then done else replicate (length done) 0
