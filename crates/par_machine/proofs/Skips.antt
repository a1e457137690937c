-- A turn whose action is passed over.
use Rattle.std.proofs.Common.{◌≡◌, ℕ, suc, [], ◌+◌, ◌-◌, ◌*◌, ◌<◌, ◌≤◌, List, Bool, cond, length, map, replicate}
use Rattle.std.proofs.Common.{get_or, Option, None, Some, refl, sym, ap, ap₂, ◌∙◌, subst, arith, add-one, length-set}
use Rattle.std.specs.Prelude.{slice_get, slice_index, slice_index_or, slice_set}
use Rattle.std.proofs.Math.Seq.{map-set_same}
use Rattle.std.proofs.lemmas.List.{length-map}
use Rattle.std.proofs.lemmas.Option.{slice_get_read, slice_get_within}
use Rattle.icode.specs.declared.action.Action.{Action}
use Rattle.icode.specs.declared.action.Counts.{Counts}
use Rattle.icode.specs.declared.program.Op.{Op}
use Rattle.icode.specs.Machine.{Code, State, Local, effect, turn, first_open, is_open}
use Rattle.icode.specs.Plain.{plain_op}
use Rattle.par_machine.specs.declared.cursor.Instruction.{Instruction}
use Rattle.par_machine.specs.declared.cursor.Instruction.TheVariants.{Act, Again}
use Rattle.par_machine.specs.declared.machine.Machine.TheInside.{Inside}
use Rattle.par_machine.specs.declared.phase.Routine.{Routine}
use Rattle.par_machine.specs.Context.{Context}
use Rattle.par_machine.specs.Frame.{Frame, Stand, code_of_frame, IsRunning}
use Rattle.par_machine.specs.Hand.{step_with, step_at, action_of_step, Runs}
use Rattle.par_machine.specs.Lengths.{HasLengths, OfCode, settled_phase, settled_done}
use Rattle.par_machine.specs.OnRegisters.{counted_op}
use Rattle.par_machine.specs.Performed.{HasRoom}
use Rattle.par_machine.specs.Position.{Position, first_position, next_position}
use Rattle.par_machine.specs.Processors.{IsAct, counted_at, passed_over, rewound, registers_of, cursors_of}
use Rattle.par_machine.specs.Processors.{counts_of_all}
use Rattle.par_machine.specs.Skipped.{skipped}
use Rattle.par_machine.specs.Views.{frame_of, stand_of, stand_with}
use Rattle.par_machine.proofs.Each.{map_set}
use Rattle.par_machine.proofs.Frames.{has_lengths, hand_action}
use Rattle.par_machine.proofs.Playings.{counted_op_is}
use Rattle.par_machine.proofs.Starting.{IsLeft, set_is, can_begin, kept, cursors_kept}
use Rattle.par_machine.proofs.Steps.{IsHand, IsStepped, state_same, stepped_state, stepped_runs}

-- The action that a processor stands at

act_inside : (code : List Instruction) (at : ℕ) → IsAct (slice_get code at) → at < length code
act_inside code at h = inside (slice_get code at) refl h
  where
    inside : (o : Option Instruction) → slice_get code at ≡ o → IsAct o → at < length code
    inside None e h = absurd h
    inside (Some i) e h = slice_get_within code at i e

pub counted_there : (lanes : ℕ) (code : List Instruction) (at : ℕ) (i : Instruction) (op : Op) (depth : ℕ)
    (c : Counts) → IsAct (slice_get code at) → i ≡ get_or code at i → i ≡ Act op depth →
    counted_op lanes (plain_op op) c ≡ counted_at lanes (slice_get code at) c
counted_there lanes code at i op depth c h e is =
    sym (ap (λ o. counted_at lanes o c) (slice_get_read code (length code) at i refl (act_inside code at h) e ∙ ap (λ (x : Instruction). Some x) is))

pub context_same : (p p' : Position) (r : List ℕ) (c c' : Counts) → p ≡ p' → c ≡ c' →
    ◌≡◌ {A = Context} (record { place = p; registers = r; counts = c })
    (record { place = p'; registers = r; counts = c' })
context_same p p' r c c' ep ec = cc

-- what may run is an action, and is counted as one
acts_if_runs : (f : Frame) (vs : List ℕ) (q : ℕ) (o : Option Instruction) → Runs f.header (step_with f.header vs q o) →
    IsAct o
acts_if_runs f vs q None h = absurd h
acts_if_runs f vs q (Some (Act op depth)) h = tt
acts_if_runs f vs q (Some (Again start last depth)) h = absurd h

counted_as : (f : Frame) (vs : List ℕ) (q : ℕ) (o : Option Instruction) (c : Counts) →
    Runs f.header (step_with f.header vs q o) → counted_at f.header.lanes o c
    ≡ Rattle.icode.specs.Machine.counted f.header.lanes (action_of_step (step_with f.header vs q o)) c
counted_as f vs q None c h = absurd h
counted_as f vs q (Some (Act op depth)) c h = counted_op_is f.header (plain_op op) _ q c
counted_as f vs q (Some (Again start last depth)) c h = absurd h

-- What skip needs

runs_here : (a : Inside) (q : ℕ) (r : Routine) (p : Context) → IsLeft a q 1 r p →
    Runs (frame_of a).header (step_at (frame_of a).header r.code.items q p.place)
runs_here a q r p h = (can_begin a q 1 r p h).runs 0 p.place (omega arith)

pub skip_acts : (a : Inside) (q : ℕ) (r : Routine) (p : Context) (code : List Instruction) → IsLeft a q 1 r p →
    code ≡ r.code.items → IsAct (slice_get code p.place.at)
skip_acts a q r p code h e =
    subst (λ (xs : List Instruction). IsAct (slice_get xs p.place.at)) (sym e) (acts_if_runs (frame_of a) p.place.values q _ (runs_here a q r p h))

pub skip_room : (a : Inside) (q : ℕ) (r : Routine) (p : Context) → IsLeft a q 1 r p →
    HasRoom a.header.shape.lanes p.counts
skip_room a q r p h =
    let e : 1 * a.header.shape.lanes ≡ a.header.shape.lanes = omega arith in
    subst (λ n. HasRoom n p.counts) e (can_begin a q 1 r p h).counters

-- Where the machine stands after it

pub record IsSkipped (a : Inside) (q : ℕ) (r : Routine) (p : Context) (u : State) (processors : List Context) : Type 0 where
  pub code : List Instruction
  pub code_is : code ≡ r.code.items
  pub after : Context
  pub passed : after ≡ passed_over a.header.shape.lanes code p
  pub phases : List Routine
  pub phases_are : phases ≡ a.phases.items
  pub done : List ℕ
  pub done_is : done ≡ slice_set a.done.items q (slice_index a.done.items q + 1)
  pub moved : List Context
  pub moved_is : moved ≡ slice_set a.processors.items q after
  pub memory : u.memory ≡ a.memory.items
  pub registers : u.registers ≡ registers_of processors
  pub phase_after : OfCode phases done (λ code. u.phase ≡ settled_phase code (length phases) a.phase done)
  pub done_after : OfCode phases done (λ code. u.done ≡ settled_done code a.phase done)
  pub processors_after : OfCode phases done (λ code. processors
      ≡ cond (is_open code a.phase done) moved (map rewound moved))
  pub within : u.phase ≤ length phases

module _ (a : Inside) (q : ℕ) (r : Routine) (p : Context) (u : State) (processors : List Context) (h : IsLeft a q 1 r p)
    (m : IsSkipped a q r p u processors) where
  abbrev frame : Frame
  frame = frame_of a

  abbrev code_here : Code
  code_here = code_of_frame frame

  abbrev before : Stand
  before = stand_of a

  abbrev action : Action
  action = action_of_step (step_at frame.header r.code.items q p.place)

  abbrev played : Local
  played = effect frame.header.modulus frame.header.lanes action (record { memory = before.state.memory; registers = slice_index_or before.state.registers q [] })

  -- as after the turn itself, where memory and registers are other ones
  abbrev turned : Stand
  turned = record {
    state = record { memory = played.memory; registers = slice_set before.state.registers q played.registers; phase = u.phase; done = u.done };
    places = cursors_of processors;
    counts = counts_of_all processors;
  }

  abbrev next_done : List ℕ
  next_done = slice_set a.done.items q (suc (slice_index a.done.items q))

  lens : HasLengths code_here m.phases
  lens = subst (HasLengths code_here) (sym m.phases_are) (has_lengths frame)

  some_procs : 0 < a.header.shape.procs
  some_procs = omega (arith, h.proc)

  count : length m.done ≡ a.header.shape.procs
  count = ap length m.done_is ∙ (length-set a.done.items q _ ∙ h.whole.running.dones)

  done_next : m.done ≡ next_done
  done_next = m.done_is ∙ ap (slice_set a.done.items q) (add-one (slice_index a.done.items q))

  abbrev busy : Bool
  busy = is_open code_here a.phase m.done

  same_busy : busy ≡ is_open code_here a.phase next_done
  same_busy = ap (is_open code_here a.phase) done_next

  after : processors ≡ cond busy m.moved (map rewound m.moved)
  after = m.processors_after code_here lens some_procs (sym count)

  all : length m.moved ≡ a.header.shape.procs
  all = ap length m.moved_is ∙ (length-set a.processors.items q m.after ∙ (sym (length-map a.processors.items (λ (p : Context). p.place)) ∙ h.whole.running.cursors))

  place_is : m.after.place ≡ next_position r.code.items p.place
  place_is = ap (λ (c : Context). c.place) m.passed ∙ ap (λ (xs : List Instruction). next_position xs p.place) m.code_is

  counts_is : m.after.counts ≡ Rattle.icode.specs.Machine.counted frame.header.lanes action p.counts
  counts_is =
      ap (λ (c : Context). c.counts) m.passed
      ∙ (ap (λ (xs : List Instruction). counted_at frame.header.lanes (slice_get xs p.place.at) p.counts) m.code_is
      ∙ counted_as frame p.place.values q (slice_get r.code.items p.place.at) p.counts (runs_here a q r p h))

  is_hand : IsHand frame before q action r p.place p.counts
  is_hand =
      let set = set_is a q 1 r p h in
      record { here = set.here; count_is = set.count_is; hand = hand_action frame before q r p.place h.whole.running set.here }

  is_stepped : IsStepped frame before q action r p.place p.counts turned
  is_stepped =
      let phases : ℕ → ℕ = λ k. first_open code_here (k - (a.phase + 1)) (a.phase + 1) in
      record {
        memory = refl;
        registers = refl;
        phase = m.phase_after code_here lens some_procs (sym count)
            ∙ ap₂ (λ (b : Bool) (k : ℕ). cond b a.phase (phases k)) same_busy (ap length m.phases_are);
        done = m.done_after code_here lens some_procs (sym count)
            ∙ ap₂ (λ (xs : List ℕ) (k : ℕ). cond (is_open code_here a.phase xs) xs (replicate k 0)) done_next count;
        places = ap cursors_of after
            ∙ (cursors_kept busy m.moved
            ∙ (ap₂ (λ (b : Bool) (k : ℕ). cond b (cursors_of m.moved) (replicate k first_position)) same_busy all
            ∙ ap (λ (cs : List Position). cond (is_open code_here a.phase next_done) cs (replicate a.header.shape.procs first_position))
            (ap cursors_of m.moved_is
            ∙ (map_set (λ (p : Context). p.place) a.processors.items q m.after
            ∙ ap (slice_set (cursors_of a.processors.items) q) place_is))));
        counts = ap counts_of_all after
            ∙ (kept (λ (p : Context). p.counts) busy m.moved (λ p. refl)
            ∙ (ap counts_of_all m.moved_is
            ∙ (map_set (λ (p : Context). p.counts) a.processors.items q m.after
            ∙ ap (slice_set (counts_of_all a.processors.items) q) counts_is)));
        within = omega (arith, m.within, ap length m.phases_are);
      }

  registers_stay : u.registers ≡ registers_of a.processors.items
  registers_stay =
      m.registers
      ∙ (ap registers_of after
      ∙ (kept (λ (p : Context). p.registers) busy m.moved (λ p. refl)
      ∙ (ap registers_of m.moved_is
      ∙ map-set_same (λ (p : Context). p.registers) a.processors.items q m.after p
      (ap (λ (c : Context). c.registers) m.passed ∙ ap (λ (c : Context). c.registers) h.processor))))

  pub skipped_state : u ≡ skipped code_here before.state q
  skipped_state =
      let e : turned.state ≡ turn code_here before.state q = stepped_state frame before q action r p.place p.counts turned is_hand is_stepped in
      state_same _ _ _ _ _ _ _ _ m.memory registers_stay (ap (λ (s : State). s.phase) e) (ap (λ (s : State). s.done) e)

  pub skipped_runs : IsRunning frame (stand_with u processors)
  skipped_runs =
      let w = h.whole.running in
      let v = stepped_runs frame before q action r p.place p.counts turned h.whole.ready w is_hand is_stepped in
      record {
        memory = ap length m.memory ∙ w.memory;
        memory_below = subst (λ (xs : List ℕ). (k : ℕ) → slice_index xs k < frame.header.modulus) (sym m.memory) w.memory_below;
        files = ap length registers_stay ∙ w.files;
        file = λ k lt. ap (λ (rs : List (List ℕ)). length (slice_index_or rs k [])) registers_stay ∙ w.file k lt;
        files_below = subst (λ (rs : List (List ℕ)). (k j : ℕ) → slice_index (slice_index_or rs k []) j < frame.header.modulus) (sym registers_stay) w.files_below;
        phase = v.phase;
        dones = v.dones;
        within = v.within;
        settled = v.settled;
        cursors = v.cursors;
        cursor = v.cursor;
        counters = v.counters;
        counted = v.counted;
      }
