-- A new machine.
use Rattle.std.proofs.Common.{◌≡◌, ℕ, zero, suc, ◌+◌, ◌-◌, ◌*◌, ◌<◌, ◌≤◌, ◌∷◌, ◌++◌, length, replicate, sym, ap, ap₂}
use Rattle.std.proofs.Common.{◌∙◌, subst, arith, zero-add, suc-add}
use Rattle.std.specs.Prelude.{slice_index_or}
use Rattle.icode.specs.declared.program.Program.{Program}
use Rattle.icode.specs.Headers.{without_statements}
use Rattle.icode.specs.Plain.{PlainProgram}
use Rattle.icode.specs.Program.{plain_program, code_of, Fits}
use Rattle.icode.specs.Machine.{Code, first_open, start}
use Rattle.par_machine.specs.declared.phase.Routine.{Routine}
use Rattle.par_machine.specs.Context.{Context}
use Rattle.par_machine.specs.declared.machine.Machine.TheInside.{Inside}
use Rattle.par_machine.specs.Header.{header_of}
use Rattle.par_machine.specs.Lengths.{HasLengths}
use Rattle.par_machine.specs.Processors.{fresh, registers_of, cursors_of, counts_of_all}
use Rattle.par_machine.specs.Frame.{Frame, code_of_frame, room_of, IsRoutine, IsReady}
use Rattle.par_machine.specs.Translated.{AreTranslated}
use Rattle.par_machine.specs.Views.{frame_of, stand_of, running_of, IsWhole}
use Rattle.par_machine.proofs.Each.{map_replicate}
use Rattle.par_machine.proofs.Frames.{has_lengths}
use Rattle.icode.proofs.Residues.{below-zeros}
use Rattle.par_machine.proofs.Starts.{IsFirst, first_runs, first_state, room_for}
use Rattle.par_machine.proofs.Translations.{same_code, routines_run, few_actions}
use Rattle.std.proofs.lemmas.List.{length-replicate}

-- the parts of a new machine
pub record IsNew (p : Program) (a : Inside) : Type 0 where
  pub header : header_of a.header ≡ without_statements (plain_program p)
  pub phases : AreTranslated (plain_program p) a.phases.items (plain_program p).phases
  pub memory : a.memory.items ≡ replicate (4 * a.header.shape.room) 0
  pub processors : a.processors.items ≡ replicate a.header.shape.procs
      (fresh (a.header.shape.regs * a.header.shape.lanes))
  pub done : a.done.items ≡ replicate a.header.shape.procs 0
  pub phase : (code : Code) → HasLengths code a.phases.items → 0 < code.procs →
      a.phase ≡ first_open code (length a.phases.items - 0) 0
  pub within : a.phase ≤ length a.phases.items

pub new_code : (p : Program) (a : Inside) → IsNew p a → (running_of a).code ≡ code_of p
new_code p a h =
    ap (λ header. code_of_frame (record { header = header; phases = a.phases.items })) h.header
    ∙ same_code (plain_program p) a.phases.items h.phases

new_ready : (p : Program) (a : Inside) → Fits p → IsNew p a → IsReady (frame_of a)
new_ready p a fits h =
    record {
      limits = a.header.shape.limits;
      few = few_actions (plain_program p) a.phases.items (omega (arith, p.header.of_procs.0)) h.phases fits;
      routines = subst (λ header. (k : ℕ) (d : Routine) → k < length a.phases.items → IsRoutine (record { header = header; phases = a.phases.items }) (slice_index_or a.phases.items k d)) (sym h.header) (routines_run (plain_program p) a.phases.items h.phases fits);
    }

zeros_append : (n k : ℕ) → replicate {A = ℕ} (n + k) 0 ≡ replicate n 0 ++ replicate k 0
zeros_append zero k = ap (λ i. replicate {A = ℕ} i 0) (zero-add k)
zeros_append (suc n) k = ap (λ i. replicate {A = ℕ} i 0) (suc-add n k) ∙ ap (λ zs. 0 ∷ zs) (zeros_append n k)

new_first : (p : Program) (a : Inside) → IsNew p a → IsFirst (frame_of a) (replicate a.header.shape.size 0) (stand_of a)
new_first p a h =
    let f : Frame = frame_of a in
    let room : a.header.shape.size ≤ room_of f = room_for a.header.shape.size a.header.shape.line (omega (arith, a.header.shape.limits.of_line.0)) in
    let split : 4 * a.header.shape.room ≡ a.header.shape.size + (4 * room_of f - a.header.shape.size) = omega (arith, room, a.header.shape.lines) in
    let procs : ℕ = a.header.shape.procs in
    let words : ℕ = a.header.shape.regs * a.header.shape.lanes in
    let all : length a.phases.items - 0 ≡ length a.phases.items = omega arith in
    record {
      memory = h.memory ∙ (ap (λ n. replicate {A = ℕ} n 0) split ∙ zeros_append a.header.shape.size (4 * room_of f - a.header.shape.size));
      registers = ap registers_of h.processors ∙ map_replicate (λ (p : Context). p.registers) procs (fresh words);
      phase = h.phase (code_of_frame f) (has_lengths f) (omega (arith, a.header.shape.limits.of_procs.0)) ∙ ap (λ n. first_open (code_of_frame f) n 0) all;
      done = h.done;
      places = ap cursors_of h.processors ∙ map_replicate (λ (p : Context). p.place) procs (fresh words);
      counts = ap counts_of_all h.processors ∙ map_replicate (λ (p : Context). p.counts) procs (fresh words);
      within = h.within;
    }

pub new_whole : (p : Program) (a : Inside) → Fits p → IsNew p a → IsWhole a
new_whole p a fits h =
    let ready = new_ready p a fits h in
    record {
      ready = ready;
      running = first_runs (frame_of a) (replicate a.header.shape.size 0) (stand_of a) ready (length-replicate {A = ℕ} a.header.shape.size 0)
          (below-zeros a.header.shape.modulus a.header.shape.size (omega (arith, a.header.shape.limits.of_modulus.0))) (new_first p a h);
    }

pub new_state : (p : Program) (a : Inside) → IsNew p a → (running_of a).state ≡ start (code_of p) (replicate p.size 0)
new_state p a h =
    first_state (frame_of a) (replicate a.header.shape.size 0) (stand_of a) (new_first p a h)
    ∙ ap₂ (λ code n. start code (replicate n 0)) (new_code p a h) (ap (λ (g : PlainProgram). g.size) h.header)
