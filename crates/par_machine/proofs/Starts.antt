-- Where a machine stands before its first turn.
use Rattle.std.proofs.Common.{◌≡◌, ℕ, zero, suc, ◌+◌, ◌-◌, ◌*◌, ◌<◌, ◌≤◌, List, [], ◌++◌, length, replicate, Some, sym}
use Rattle.std.proofs.Common.{ap, ap₂, ◌∙◌, subst, arith, length-append, div-add-mod', mod-lt}
use Rattle.std.specs.Prelude.{slice_get, slice_index, slice_index_or}
use Rattle.std.proofs.lemmas.List.{length-replicate, get_or-replicate}
use Rattle.icode.specs.declared.action.Counts.{Counts}
use Rattle.icode.specs.Machine.{Code, is_open, first_open, start, counts_of, counts_so_far, no_counts, whole_lines}
use Rattle.icode.proofs.Completion.{first_opens}
use Rattle.icode.proofs.End.{none_done-zero}
use Rattle.par_machine.specs.Position.{first_position}
use Rattle.par_machine.specs.Frame.{Frame, Stand, code_of_frame, places_in, room_of, IsReady, IsRunning}
use Rattle.icode.proofs.Residues.{AreBelow, below-zeros}
use Rattle.icode.proofs.Below.{below-padded}
use Rattle.par_machine.proofs.Executed.{executed_first}
use Rattle.par_machine.proofs.Frames.{places_first, is_code, count_lists}
use Rattle.par_machine.proofs.Steps.{state_same, get_replicate}

pub record IsFirst (f : Frame) (x : List ℕ) (u : Stand) : Type 0 where
  pub memory : u.state.memory ≡ x ++ replicate (4 * room_of f - f.header.size) 0
  pub registers : u.state.registers ≡ replicate f.header.procs (replicate (f.header.regs * f.header.lanes) 0)
  pub phase : u.state.phase ≡ first_open (code_of_frame f) (length f.phases) 0
  pub done : u.state.done ≡ replicate f.header.procs 0
  pub places : u.places ≡ replicate f.header.procs first_position
  pub counts : u.counts ≡ replicate f.header.procs no_counts
  pub within : u.state.phase ≤ length f.phases

pub room_for : (size line : ℕ) → 0 < line → size ≤ whole_lines size line
room_for size line pos =
    let whole = div-add-mod' (size + (line - 1)) line in
    let small = mod-lt (size + (line - 1)) pos in
    omega (arith, whole, small)

pub first_state : (f : Frame) (x : List ℕ) (u : Stand) → IsFirst f x u → u.state ≡ start (code_of_frame f) x
first_state f x u h =
    state_same u.state.memory _ u.state.registers _ u.state.phase _ u.state.done _ h.memory h.registers (h.phase ∙ ap (λ n. first_open (code_of_frame f) n 0) (sym (count_lists f))) h.done

file_of_zeros : (m n k q : ℕ) → 0 < m → AreBelow m (slice_index_or (replicate n (replicate k 0)) q [])
file_of_zeros m zero k q pos = λ j. pos
file_of_zeros m (suc n) k zero pos = below-zeros m k pos
file_of_zeros m (suc n) k (suc q) pos = file_of_zeros m n k q pos

pub first_runs : (f : Frame) (x : List ℕ) (u : Stand) → IsReady f → length x ≡ f.header.size →
    AreBelow f.header.modulus x → IsFirst f x u → IsRunning f u
first_runs f x u ready size below h =
    let code : Code = code_of_frame f in
    let procs : ℕ = f.header.procs in
    let words : ℕ = f.header.regs * f.header.lanes in
    let pos : 0 < f.header.modulus = omega (arith, ready.limits.of_modulus.0) in
    let room : f.header.size ≤ room_of f = room_for f.header.size f.header.line (omega (arith, ready.limits.of_line.0)) in
    let done_is : (q : ℕ) → slice_index u.state.done q ≡ 0 = λ q. ap (λ d. slice_index d q) h.done ∙ none_done-zero code q in
    record {
      memory = ap length h.memory ∙ (length-append x (replicate (4 * room_of f - f.header.size) 0) ∙ omega (arith, size, room, length-replicate {A = ℕ} (4 * room_of f - f.header.size) 0));
      memory_below = subst (AreBelow f.header.modulus) (sym h.memory) (below-padded f.header.modulus (4 * room_of f - f.header.size) x pos below);
      files = ap length h.registers ∙ length-replicate procs (replicate words 0);
      file = λ q lt. ap (λ (fs : List (List ℕ)). length (slice_index_or fs q [])) h.registers ∙ (ap length (get_or-replicate procs q (replicate words 0) [] lt) ∙ length-replicate {A = ℕ} words 0);
      files_below = λ q. subst (λ (fs : List (List ℕ)). AreBelow f.header.modulus (slice_index_or fs q [])) (sym h.registers) (file_of_zeros f.header.modulus procs words q pos);
      phase = h.within;
      dones = ap length h.done ∙ length-replicate {A = ℕ} procs 0;
      within = λ q. omega (arith, done_is q);
      settled = λ lt. ap₂ (is_open code) h.phase h.done ∙ first_opens code (is_code f) (length f.phases) 0 (omega (arith, h.phase));
      cursors = ap length h.places ∙ length-replicate procs first_position;
      cursor = λ q lt left. ap (slice_get (places_in f u.state.phase)) (done_is q)
          ∙ (places_first f.phases u.state.phase (omega (arith, left, done_is q))
          ∙ (sym (get_replicate procs q first_position lt) ∙ ap (λ ps. slice_get ps q) (sym h.places)));
      counters = ap length h.counts ∙ length-replicate procs no_counts;
      counted = λ q lt. ap (λ cs. slice_get cs q) h.counts
          ∙ (get_replicate procs q no_counts lt
          ∙ ap (λ (c : Counts). Some c)
          (ap (counts_of f.header.lanes) (sym (executed_first code (is_code f) q (length f.phases) u.state.memory u.state.registers))
          ∙ ap₂ (λ p d. counts_so_far code (record { memory = u.state.memory; registers = u.state.registers; phase = p; done = d }) q) (sym h.phase) (sym h.done)));
    }
