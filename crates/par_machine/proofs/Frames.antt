-- What a machine's code has at a phase and a processor.
use Rattle.std.proofs.Common.{◌≡◌, ℕ, zero, suc, ◌<◌, ◌≤◌, List, [], ◌∷◌, length, map, get_or, Option, Some, None, refl}
use Rattle.std.proofs.Common.{sym, ap, ◌∙◌, subst, arith}
use Rattle.std.specs.Prelude.{slice_get, slice_index, slice_index_or, option_map}
use Rattle.std.specs.List.{range_with_len}
use Rattle.std.proofs.lemmas.List.{get_or-map, length-map}
use Rattle.std.proofs.lemmas.List.FromFn.{get_or-map-range_with_len, length-map-range_with_len}
use Rattle.std.proofs.lemmas.Option.{slice_get-map, slice_get_within, slice_get_read}
use Rattle.icode.specs.declared.action.Action.{Action}
use Rattle.icode.specs.Plain.{PlainProgram}
use Rattle.icode.specs.Machine.{IsCode, acts, next_action}
use Rattle.par_machine.specs.declared.cursor.Instruction.{Instruction}
use Rattle.par_machine.specs.declared.phase.Routine.{Routine}
use Rattle.par_machine.specs.Position.{Position, next_position, positions, first_position}
use Rattle.par_machine.specs.Hand.{step_with, step_at, action_of_step, Runs}
use Rattle.par_machine.specs.Lengths.{HasLengths}
use Rattle.par_machine.specs.Frame.{Frame, Stand, code_of_frame, places_of, places_in, lens_of, IsReady, IsRoutine}
use Rattle.par_machine.specs.Frame.{IsRunning}

-- Places

pub length-positions : (code : List Instruction) (n : ℕ) (p : Position) → length (positions code n p) ≡ n
length-positions code zero p = refl
length-positions code (suc n) p = ap suc (length-positions code n (next_position code p))

pub some_same : {X : Type 0} (x y : X) → Some x ≡ Some y → x ≡ y
some_same x y e = cc

place_next : (code : List Instruction) (n i : ℕ) (p r : Position) → slice_get (positions code n p) i ≡ Some r →
    suc i < n → slice_get (positions code n p) (suc i) ≡ Some (next_position code r)
place_next code zero i p r e lt = absurd (omega arith)
place_next code (suc zero) zero p r e lt = absurd (omega arith)
place_next code (suc (suc n)) zero p r e lt = ap (λ (o : Option Position). option_map (next_position code) o) e
place_next code (suc n) (suc i) p r e lt = place_next code n i (next_position code p) r e (omega arith)

pub place_after : (r : Routine) (i : ℕ) (p : Position) → slice_get (places_of r) i ≡ Some p → suc i < r.len →
    slice_get (places_of r) (suc i) ≡ Some (next_position r.code.items p)
place_after r i p e lt = place_next r.code.items r.len i first_position p e lt

pub places_first : (phases : List Routine) (phase : ℕ) → 0 < length (slice_index_or (map places_of phases) phase []) →
    slice_get (slice_index_or (map places_of phases) phase []) 0 ≡ Some first_position
places_first [] phase lt = absurd (omega arith)
places_first (r ∷ phases) zero lt = first r.code.items r.len lt
  where
    first : (code : List Instruction) (n : ℕ) → 0 < length (positions code n first_position) →
        slice_get (positions code n first_position) 0 ≡ Some first_position
    first code zero lt = absurd (omega arith)
    first code (suc n) lt = refl
places_first (r ∷ phases) (suc phase) lt = places_first phases phase lt

pub places_at : (f : Frame) (phase : ℕ) (r : Routine) → phase < length f.phases → r ≡ get_or f.phases phase r →
    places_in f phase ≡ places_of r
places_at f phase r lt e = get_or-map places_of f.phases phase r [] lt ∙ ap places_of (sym e)

pub places_lens : (phases : List Routine) (phase : ℕ) → length (slice_index_or (map places_of phases) phase [])
    ≡ slice_index (lens_of phases) phase
places_lens [] phase = refl
places_lens (r ∷ phases) zero = length-positions r.code.items r.len first_position
places_lens (r ∷ phases) (suc phase) = places_lens phases phase

-- Lists of actions

abbrev pub actions_at : Frame → Routine → ℕ → List Action
actions_at f r q = map (λ p. action_of_step (step_at f.header r.code.items q p)) (places_of r)

pub acts_at : (f : Frame) (phase q : ℕ) (r : Routine) → phase < length f.phases → q < f.header.procs →
    r ≡ get_or f.phases phase r → acts (code_of_frame f) phase q ≡ actions_at f r q
acts_at f phase q r lt small e =
    let lists : Routine → List (List Action) = λ r. map (λ q. actions_at f r q) (range_with_len 0 f.header.procs) in
    ap (λ ls. slice_index_or ls q []) (get_or-map lists f.phases phase r [] lt ∙ ap lists (sym e))
    ∙ get_or-map-range_with_len (λ q. actions_at f r q) 0 f.header.procs q q [] small (omega arith)

module _ (f : Frame) where
  abbrev lists_at : Routine → List (List Action)
  lists_at r = map (λ q. actions_at f r q) (range_with_len 0 f.header.procs)

  length_in : (phases : List Routine) (phase q : ℕ) → q < f.header.procs →
      length (slice_index_or (slice_index_or (map lists_at phases) phase []) q [])
      ≡ length (slice_index_or (map places_of phases) phase [])
  length_in [] phase q lt = refl
  length_in (r ∷ phases) zero q lt =
      ap length (get_or-map-range_with_len (λ q. actions_at f r q) 0 f.header.procs q q [] lt (omega arith))
      ∙ length-map (places_of r) (λ p. action_of_step (step_at f.header r.code.items q p))
  length_in (r ∷ phases) (suc phase) q lt = length_in phases phase q lt

  each_in : (phases : List Routine) (phase : ℕ) → phase < length (map lists_at phases) →
      length (slice_index_or (map lists_at phases) phase []) ≡ f.header.procs
  each_in [] phase lt = absurd (omega arith)
  each_in (r ∷ phases) zero lt = length-map-range_with_len (λ q. actions_at f r q) 0 f.header.procs
  each_in (r ∷ phases) (suc phase) lt = each_in phases phase (omega arith)

  pub is_code : IsCode (code_of_frame f)
  is_code = record { each = each_in f.phases }

  pub count_lists : length (code_of_frame f).lists ≡ length f.phases
  count_lists = length-map f.phases lists_at

  pub acts_places : (phase q : ℕ) → q < f.header.procs → length (acts (code_of_frame f) phase q)
      ≡ length (places_in f phase)
  acts_places phase q lt = length_in f.phases phase q lt

  pub has_lengths : HasLengths (code_of_frame f) f.phases
  has_lengths = record { count = count_lists; each = λ phase q lt. acts_places phase q lt ∙ places_lens f.phases phase }

  -- past the last phase there is nothing
  places_none : (phases : List Routine) (phase : ℕ) → length phases ≤ phase →
      length (slice_index_or (map places_of phases) phase []) ≡ 0
  places_none [] phase le = refl
  places_none (r ∷ phases) zero le = absurd (omega arith)
  places_none (r ∷ phases) (suc phase) le = places_none phases phase (omega arith)

  pub places_past : (phase : ℕ) → length f.phases ≤ phase → length (places_in f phase) ≡ 0
  places_past phase le = places_none f.phases phase le

-- What may be done

pub place_inside : (g : PlainProgram) (code : List Instruction) (q : ℕ) (p : Position) → Runs g (step_at g code q p) →
    p.at < length code
place_inside g code q p h = inside (slice_get code p.at) refl h
  where
    inside : (o : Option Instruction) → slice_get code p.at ≡ o → Runs g (step_with g p.values q o) → p.at < length code
    inside None e h = absurd h
    inside (Some i) e h = slice_get_within code p.at i e

-- The action at hand

pub routine_is : (f : Frame) (phase : ℕ) (r : Routine) → IsReady f → phase < length f.phases →
    r ≡ get_or f.phases phase r → IsRoutine f r
routine_is f phase r ready lt e = subst (IsRoutine f) (sym e) (ready.routines phase r lt)

pub record IsHere (f : Frame) (t : Stand) (q : ℕ) (r : Routine) (cursor : Position) : Type 0 where
  pub proc : q < f.header.procs
  pub phase : t.state.phase < length f.phases
  pub routine : r ≡ get_or f.phases t.state.phase r
  pub cursor_is : cursor ≡ get_or t.places q cursor
  pub left : slice_index t.state.done q < r.len

pub hand_place : (f : Frame) (t : Stand) (q : ℕ) (r : Routine) (cursor : Position) → IsRunning f t →
    IsHere f t q r cursor → slice_get (places_of r) (slice_index t.state.done q) ≡ Some cursor
hand_place f t q r cursor run h =
    let same = places_at f t.state.phase r h.phase h.routine in
    let within : slice_index t.state.done q < length (places_in f t.state.phase) = omega (arith, h.left, ap length same, length-positions r.code.items r.len first_position) in
    ap (λ ps. slice_get ps (slice_index t.state.done q)) (sym same)
    ∙ (run.cursor q h.proc within
    ∙ slice_get_read t.places (length t.places) q cursor refl (omega (arith, run.cursors, h.proc)) h.cursor_is)

pub hand_action : (f : Frame) (t : Stand) (q : ℕ) (r : Routine) (cursor : Position) → IsRunning f t →
    IsHere f t q r cursor → next_action (code_of_frame f) t.state q
    ≡ Some (action_of_step (step_at f.header r.code.items q cursor))
hand_action f t q r cursor run h =
    ap (λ xs. slice_get xs (slice_index t.state.done q)) (acts_at f t.state.phase q r h.phase h.proc h.routine)
    ∙ (slice_get-map (λ p. action_of_step (step_at f.header r.code.items q p)) (places_of r) (slice_index t.state.done q)
    ∙ ap (option_map (λ p. action_of_step (step_at f.header r.code.items q p))) (hand_place f t q r cursor run h))
