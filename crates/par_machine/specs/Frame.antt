-- What a machine runs, and where it stands.
use Rattle.std.specs.Prelude.{◌≡◌, ℕ, ◌+◌, ◌*◌, ◌<◌, ◌≤◌, ◌^◌, List, [], ◌∷◌, length, map, true, Some, All, slice_get, slice_index, slice_index_or}
use Rattle.std.specs.List.{range_with_len}
use Rattle.icode.specs.declared.action.Counts.{Counts}
use Rattle.icode.specs.Limits.{IsHeaderWithin}
use Rattle.icode.specs.Machine.{Code, State, whole_lines, is_open, counts_so_far}
use Rattle.icode.specs.Plain.{PlainProgram}
use Rattle.par_machine.specs.declared.phase.Routine.{Routine}
use Rattle.par_machine.specs.Instruction.{IsClosed, IsWithin}
use Rattle.par_machine.specs.Position.{Position, positions, first_position}
use Rattle.par_machine.specs.Hand.{step_at, action_of_step, Runs}

-- what stays the same: a program, whose statements don't matter, and what each processor does in a phase
pub record Frame : Type 0 where
  pub header : PlainProgram
  pub phases : List Routine

-- the places of a phase's actions, one after another
abbrev pub places_of : Routine → List Position
places_of r = positions r.code.items r.len first_position

abbrev pub lens_of : List Routine → List ℕ
lens_of phases = map (λ (r : Routine). r.len) phases

abbrev pub total : List ℕ → ℕ
total [] = 0
total (n ∷ lens) = n + total lens

abbrev pub code_of_frame : Frame → Code
code_of_frame f =
    record {
      size = f.header.size;
      modulus = f.header.modulus;
      procs = f.header.procs;
      line = f.header.line;
      lanes = f.header.lanes;
      regs = f.header.regs;
      lists = map (λ (r : Routine). map (λ q. map (λ p. action_of_step (step_at f.header r.code.items q p)) (places_of r)) (range_with_len 0 f.header.procs)) f.phases;
    }

-- the words of an array
abbrev pub room_of : Frame → ℕ
room_of f = whole_lines f.header.size f.header.line

-- all that a processor meets in the phase may be done
pub record IsRoutine (f : Frame) (r : Routine) : Type 0 where
  pub closed : All IsClosed r.code.items
  pub within : All (IsWithin f.header.modulus) r.code.items
  pub runs : (q : ℕ) → q < f.header.procs → All (λ p. Runs f.header (step_at f.header r.code.items q p)) (places_of r)

pub record IsReady (f : Frame) : Type 0 where
  pub limits : IsHeaderWithin f.header.size f.header.modulus f.header.procs f.header.line f.header.lanes f.header.regs
  pub few : total (lens_of f.phases) < 2 ^ 59
  pub routines : All (IsRoutine f) f.phases

-- the state of the run, each processor's place, and what it has executed
pub record Stand : Type 0 where
  pub state : State
  pub places : List Position
  pub counts : List Counts

-- the places of the phase
abbrev pub places_in : Frame → ℕ → List Position
places_in f phase = slice_index_or (map places_of f.phases) phase []

pub record IsRunning (f : Frame) (t : Stand) : Type 0 where
  pub memory : length t.state.memory ≡ 4 * room_of f
  pub memory_below : (k : ℕ) → slice_index t.state.memory k < f.header.modulus
  pub files : length t.state.registers ≡ f.header.procs
  pub file : (q : ℕ) → q < f.header.procs → length (slice_index_or t.state.registers q []) ≡ f.header.regs * f.header.lanes
  pub files_below : (q k : ℕ) → slice_index (slice_index_or t.state.registers q []) k < f.header.modulus
  pub phase : t.state.phase ≤ length f.phases
  pub dones : length t.state.done ≡ f.header.procs
  pub within : (q : ℕ) → slice_index t.state.done q ≤ length (places_in f t.state.phase)
  pub settled : t.state.phase < length f.phases → is_open (code_of_frame f) t.state.phase t.state.done ≡ true
  pub cursors : length t.places ≡ f.header.procs
  pub cursor : (q : ℕ) → q < f.header.procs → slice_index t.state.done q < length (places_in f t.state.phase) → slice_get (places_in f t.state.phase) (slice_index t.state.done q) ≡ slice_get t.places q
  pub counters : length t.counts ≡ f.header.procs
  pub counted : (q : ℕ) → q < f.header.procs → slice_get t.counts q ≡ Some (counts_so_far (code_of_frame f) t.state q)
