-- A machine that begins on an input.
use Rattle.std.proofs.Common.{◌≡◌, ℕ, suc, ◌-◌, ◌*◌, ◌<◌, ◌≤◌, List, [], ◌∷◌, ◌++◌, length, map, replicate, refl, ap}
use Rattle.std.proofs.Common.{ap₂, ◌∙◌, subst, sym, arith}
use Rattle.std.specs.Prelude.{slice_index_or}
use Rattle.std.proofs.lemmas.List.{length-map}
use Rattle.icode.specs.Machine.{Code, State, first_open, start}
use Rattle.icode.proofs.Residues.{AreBelow}
use Rattle.par_machine.specs.declared.machine.Machine.TheInside.{Inside}
use Rattle.par_machine.specs.declared.phase.Routine.{Routine}
use Rattle.par_machine.specs.Context.{Context}
use Rattle.par_machine.specs.Frame.{Frame, code_of_frame, IsRunning}
use Rattle.par_machine.specs.Lengths.{HasLengths}
use Rattle.par_machine.specs.Processors.{fresh, as_new, registers_of, cursors_of, counts_of_all}
use Rattle.par_machine.specs.Views.{frame_of, stand_with, running_of, IsWhole}
use Rattle.par_machine.proofs.Each.{map_replicate}
use Rattle.par_machine.proofs.Frames.{has_lengths}
use Rattle.par_machine.proofs.Starts.{IsFirst, first_state, first_runs}

all_new : (ps : List Context) (words : ℕ) → ((q : ℕ) → q < length ps →
    length (slice_index_or (registers_of ps) q []) ≡ words) → map as_new ps ≡ replicate (length ps) (fresh words)
all_new [] words each = refl
all_new (p ∷ ps) words each =
    ap₂ (λ (x : Context) (xs : List Context). x ∷ xs) (ap fresh (each 0 (omega arith))) (all_new ps words (λ q lt. each (suc q) (omega (arith, lt))))

-- what has been written
pub record IsPut (a : Inside) (input : List ℕ) (u : State) (processors : List Context) : Type 0 where
  pub size : length input ≡ a.header.shape.size
  pub residues : AreBelow a.header.shape.modulus input
  pub memory : u.memory ≡ input ++ replicate (length a.memory.items - length input) 0
  pub as_new_ones : processors ≡ map as_new a.processors.items
  pub registers : u.registers ≡ registers_of processors
  pub done : u.done ≡ replicate (length a.done.items) 0
  pub phases : List Routine
  pub phases_are : phases ≡ a.phases.items
  pub phase : (code : Code) → HasLengths code phases → 0 < code.procs → u.phase ≡ first_open code (length phases - 0) 0
  pub within : u.phase ≤ length phases

put_first : (a : Inside) (input : List ℕ) (u : State) (processors : List Context) → IsWhole a →
    IsPut a input u processors → IsFirst (frame_of a) input (stand_with u processors)
put_first a input u processors w h =
    let f : Frame = frame_of a in
    let procs : ℕ = a.header.shape.procs in
    let words : ℕ = a.header.shape.regs * a.header.shape.lanes in
    let count : length a.processors.items ≡ procs = sym (length-map a.processors.items (λ (p : Context). p.place)) ∙ w.running.cursors in
    let all : processors ≡ replicate procs (fresh words) =
    h.as_new_ones ∙ (all_new a.processors.items words (λ q lt. w.running.file q (omega (arith, lt, count))) ∙ ap (λ k. replicate k (fresh words)) count) in
    let none : length a.phases.items - 0 ≡ length a.phases.items = omega arith in
    record {
      memory = h.memory ∙ ap₂ (λ n k. input ++ replicate (n - k) 0) w.running.memory h.size;
      registers = h.registers ∙ (ap registers_of all ∙ map_replicate (λ (p : Context). p.registers) procs (fresh words));
      phase = h.phase (code_of_frame f) (subst (HasLengths (code_of_frame f)) (sym h.phases_are) (has_lengths f)) (omega (arith, w.ready.limits.of_procs.0))
          ∙ (ap (λ n. first_open (code_of_frame f) (n - 0) 0) (ap length h.phases_are) ∙ ap (λ n. first_open (code_of_frame f) n 0) none);
      done = h.done ∙ ap (λ n. replicate n 0) w.running.dones;
      places = ap cursors_of all ∙ map_replicate (λ (p : Context). p.place) procs (fresh words);
      counts = ap counts_of_all all ∙ map_replicate (λ (p : Context). p.counts) procs (fresh words);
      within = omega (arith, h.within, ap length h.phases_are);
    }

pub put_state : (a : Inside) (input : List ℕ) (u : State) (processors : List Context) → IsWhole a →
    IsPut a input u processors → u ≡ start (running_of a).code input
put_state a input u processors w h = first_state (frame_of a) input (stand_with u processors) (put_first a input u processors w h)

pub put_runs : (a : Inside) (input : List ℕ) (u : State) (processors : List Context) → IsWhole a →
    IsPut a input u processors → IsRunning (frame_of a) (stand_with u processors)
put_runs a input u processors w h =
    first_runs (frame_of a) input (stand_with u processors) w.ready h.size h.residues (put_first a input u processors w h)
