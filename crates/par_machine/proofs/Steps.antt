-- What a step leaves.
use Rattle.std.proofs.Common.{◌++◌, take, flat_map, append_assoc, ◌≡◌, ◌≢◌, ℕ, zero, suc, ◌+◌, ◌-◌, ◌*◌, ◌<◌, ◌≤◌, List}
use Rattle.std.proofs.Common.{[], ◌∷◌, Bool, true, false, cond, if◌then◌else◌, length, replicate, get_or, Some, refl}
use Rattle.std.proofs.Common.{sym, ap, ap₂, ◌∙◌, subst, arith, ⊎_elim, length-set, get_or-set_same, get_or-set_other}
use Rattle.std.specs.Prelude.{slice_get, slice_index, slice_index_or, slice_set}
use Rattle.std.specs.List.{range_with_len}
use Rattle.std.proofs.lemmas.Bool.{cases_eq}
use Rattle.std.proofs.lemmas.List.{length-replicate}
use Rattle.std.proofs.lemmas.Option.{slice_get_within, slice_get-get_or, get_or_from_slice_get}
use Rattle.icode.specs.declared.action.Action.{Action}
use Rattle.icode.specs.declared.action.Action.TheVariants.{Store}
use Rattle.icode.specs.declared.action.Counts.{Counts}
use Rattle.icode.specs.Machine.{Code, State, Local, acts, next_action, acted, moved_on, turn, turn_with, is_open}
use Rattle.icode.specs.Machine.{first_open, phases_after, none_done, memory_after, register_of, effect}
use Rattle.icode.specs.Machine.{value_put, register_put, counted, counts_of, counts_so_far, executed}
use Rattle.icode.proofs.Completion.{first_opens}
use Rattle.icode.proofs.End.{none_done-zero}
use Rattle.icode.proofs.Words.{slice_get-set_other, take-next}
use Rattle.par_machine.specs.declared.phase.Routine.{Routine}
use Rattle.par_machine.specs.Position.{Position, next_position, first_position}
use Rattle.par_machine.specs.Frame.{Frame, Stand, code_of_frame, places_in, IsReady, IsRunning}
use Rattle.icode.proofs.Residues.{AreBelow}
use Rattle.icode.proofs.Below.{effect_memory_below, effect_registers_below}
use Rattle.icode.proofs.SequenceLemmas.Placing.{length-with_words}
use Rattle.par_machine.proofs.Executed.{counts_more, executed_moved}
use Rattle.par_machine.proofs.Frames.{length-positions, places_at, places_first, place_after, is_code, count_lists}
use Rattle.par_machine.proofs.Frames.{acts_places, IsHere, hand_place}

pub state_same : (m m' : List ℕ) (r r' : List (List ℕ)) (p p' : ℕ) (d d' : List ℕ) → m ≡ m' → r ≡ r' → p ≡ p' →
    d ≡ d' → ◌≡◌ {A = State} (record { memory = m; registers = r; phase = p; done = d })
    (record { memory = m'; registers = r'; phase = p'; done = d' })
state_same m m' r r' p p' d d' em er ep ed = cc

moved_on_is : (code : Code) (s : State) → moved_on code s ≡ record { memory = s.memory; registers = s.registers; phase = (if is_open code s.phase s.done then s.phase else first_open code (phases_after code s.phase) (s.phase + 1)); done = (if is_open code s.phase s.done then s.done else none_done code) }
moved_on_is code s = at (is_open code s.phase s.done)
  where
    at : (b : Bool) → cond b s (record { memory = s.memory; registers = s.registers; phase = first_open code (phases_after code s.phase) (s.phase + 1); done = none_done code }) ≡ record { memory = s.memory; registers = s.registers; phase = cond b s.phase (first_open code (phases_after code s.phase) (s.phase + 1)); done = cond b s.done (none_done code) }
    at true = refl
    at false = refl

pub length-memory_after : (lanes : ℕ) (action : Action) (s : Local) →
    length (memory_after lanes action s) ≡ length s.memory
length-memory_after lanes (Store address r) s = length-with_words (register_of lanes s.registers r) s.memory address
length-memory_after lanes _ s = refl

get_same : {X : Type 0} (xs : List X) (i : ℕ) (v : X) → i < length xs → slice_get (slice_set xs i v) i ≡ Some v
get_same xs i v lt = slice_get-get_or (slice_set xs i v) i v (omega (arith, length-set xs i v)) ∙ ap (λ (x : _). Some x) (get_or-set_same xs i v v lt)

pub get_replicate : {X : Type 0} (n i : ℕ) (x : X) → i < n → slice_get (replicate n x) i ≡ Some x
get_replicate zero i x lt = absurd (omega arith)
get_replicate (suc n) zero x lt = refl
get_replicate (suc n) (suc i) x lt = get_replicate n i x (omega arith)

-- The parts of a step: a processor does an action, which its cursor stands at, and the phase moves on where it is over
module _ (f : Frame) (t : Stand) (q : ℕ) (action : Action) (r : Routine) (cursor : Position) (count : Counts) where
  abbrev code : Code
  code = code_of_frame f

  abbrev before : Local
  before = record { memory = t.state.memory; registers = slice_index_or t.state.registers q [] }

  abbrev after : Local
  after = effect f.header.modulus f.header.lanes action before

  abbrev done_after : List ℕ
  done_after = slice_set t.state.done q (suc (slice_index t.state.done q))

  abbrev stays : Bool
  stays = is_open code t.state.phase done_after

  abbrev next_phase : ℕ
  next_phase = first_open code (length f.phases - (t.state.phase + 1)) (t.state.phase + 1)

  pub record IsHand : Type 0 where
    pub here : IsHere f t q r cursor
    pub count_is : count ≡ get_or t.counts q count
    pub hand : next_action code t.state q ≡ Some action

  pub record IsStepped (u : Stand) : Type 0 where
    pub memory : u.state.memory ≡ after.memory
    pub registers : u.state.registers ≡ slice_set t.state.registers q after.registers
    pub phase : u.state.phase ≡ cond stays t.state.phase next_phase
    pub done : u.state.done ≡ cond stays done_after (replicate f.header.procs 0)
    pub places : u.places ≡ cond stays (slice_set t.places q (next_position r.code.items cursor))
        (replicate f.header.procs first_position)
    pub counts : u.counts ≡ slice_set t.counts q (counted f.header.lanes action count)
    pub within : u.state.phase ≤ length f.phases

  -- the state is that after the turn
  pub stepped_state : (u : Stand) → IsHand → IsStepped u → u.state ≡ turn code t.state q
  stepped_state u h e =
      let s1 : State = acted code q action t.state in
      let len : length f.phases - (t.state.phase + 1) ≡ phases_after code t.state.phase = ap (λ n. n - (t.state.phase + 1)) (sym (count_lists f)) in
      state_same u.state.memory s1.memory u.state.registers s1.registers u.state.phase _ u.state.done _ e.memory e.registers
      (e.phase ∙ ap (λ n. cond stays t.state.phase (first_open code n (t.state.phase + 1))) len)
      e.done
      ∙ (sym (moved_on_is code s1) ∙ sym (ap (turn_with code q t.state) h.hand))

  -- the counts that there are
  pub counted_here : IsRunning f t → IsHand → count ≡ counts_so_far code t.state q
  counted_here run h =
      h.count_is ∙ get_or_from_slice_get t.counts q (counts_so_far code t.state q) count (run.counted q h.here.proc)

  -- what each processor has executed
  executed_acted : IsRunning f t → IsHand → executed code (acted code q action t.state) q ≡ executed code t.state q
      ++ action ∷ []
  executed_acted run h =
      let d : ℕ = slice_index t.state.done q in
      let set : slice_index done_after q ≡ suc d = get_or-set_same t.state.done q (suc d) 0 (omega (arith, run.dones, h.here.proc)) in
      let front : List Action = flat_map (λ phase. acts code phase q) (range_with_len 0 t.state.phase) in
      ap (λ n. front ++ take n (acts code t.state.phase q)) set
      ∙ (ap (λ xs. front ++ xs) (take-next (acts code t.state.phase q) d action h.hand)
      ∙ sym (append_assoc front (take d (acts code t.state.phase q)) (action ∷ [])))

  executed_other : (other : ℕ) → other ≢ q → executed code (acted code q action t.state) other
      ≡ executed code t.state other
  executed_other other ne =
      ap (λ n. flat_map (λ phase. acts code phase other) (range_with_len 0 t.state.phase) ++ take n (acts code t.state.phase other))
      (get_or-set_other t.state.done q other (suc (slice_index t.state.done q)) 0 ne)

  counted_after : (u : Stand) → IsRunning f t → IsHand → IsStepped u → (other : ℕ) → other < f.header.procs →
      slice_get u.counts other ≡ Some (counts_so_far code u.state other)
  counted_after u run h e other lt =
      let s1 : State = acted code q action t.state in
      let moved : executed code u.state other ≡ executed code s1 other =
      ap (λ (s : State). executed code s other) (stepped_state u h e ∙ ap (turn_with code q t.state) h.hand) ∙ executed_moved code (is_code f) s1 other in
      ⊎_elim
      (λ (same : other ≡ q).
      let value : counted f.header.lanes action count ≡ counts_so_far code u.state other =
      ap (counted f.header.lanes action) (counted_here run h)
      ∙ (sym (counts_more f.header.lanes (executed code t.state q) action)
      ∙ (ap (counts_of f.header.lanes) (sym (executed_acted run h))
      ∙ (ap (λ o. counts_of f.header.lanes (executed code s1 o)) (sym same)
      ∙ ap (counts_of f.header.lanes) (sym moved)))) in
      ap (λ cs. slice_get cs other) e.counts
      ∙ (ap (slice_get (slice_set t.counts q (counted f.header.lanes action count))) same
      ∙ (get_same t.counts q (counted f.header.lanes action count) (omega (arith, run.counters, h.here.proc))
      ∙ ap (λ (c : Counts). Some c) value)))
      (λ (ne : other ≡ q → ⊥).
      ap (λ cs. slice_get cs other) e.counts
      ∙ (slice_get-set_other t.counts q other (counted f.header.lanes action count) ne
      ∙ (run.counted other lt
      ∙ ap (λ xs. Some (counts_of f.header.lanes xs)) (sym (executed_other other ne) ∙ sym moved))))
      (cases_eq other q)

  -- how much is done
  done_more : IsRunning f t → IsHand → (other : ℕ) → slice_index done_after other ≤ length (places_in f t.state.phase)
  done_more run h other =
      ⊎_elim
      (λ (same : other ≡ q). subst (λ k. slice_index done_after k ≤ length (places_in f t.state.phase)) (sym same)
      (omega (
        arith,
        get_or-set_same t.state.done q (suc (slice_index t.state.done q)) 0 (omega (arith, run.dones, h.here.proc)),
        slice_get_within (acts code t.state.phase q) (slice_index t.state.done q) action h.hand,
        acts_places f t.state.phase q h.here.proc,
      )))
      (λ (ne : other ≡ q → ⊥). omega (arith, get_or-set_other t.state.done q other (suc (slice_index t.state.done q)) 0 ne, run.within other))
      (cases_eq other q)

  within_after : (u : Stand) (b : Bool) → IsRunning f t → IsHand → u.state.phase ≡ cond b t.state.phase next_phase →
      u.state.done ≡ cond b done_after (replicate f.header.procs 0) → (other : ℕ) →
      slice_index u.state.done other ≤ length (places_in f u.state.phase)
  within_after u true run h ep ed other =
      subst (λ p. slice_index u.state.done other ≤ length (places_in f p)) (sym ep)
      (subst (λ d. slice_index d other ≤ length (places_in f t.state.phase)) (sym ed) (done_more run h other))
  within_after u false run h ep ed other = omega (arith, ap (λ d. slice_index d other) ed, none_done-zero code other)

  settled_after : (u : Stand) (b : Bool) → stays ≡ b → u.state.phase ≡ cond b t.state.phase next_phase →
      u.state.done ≡ cond b done_after (replicate f.header.procs 0) → u.state.phase < length f.phases →
      t.state.phase < length f.phases → is_open code u.state.phase u.state.done ≡ true
  settled_after u true o ep ed lt here = ap₂ (is_open code) ep ed ∙ o
  settled_after u false o ep ed lt here =
      ap₂ (is_open code) ep ed
      ∙ first_opens code (is_code f) (length f.phases - (t.state.phase + 1)) (t.state.phase + 1) (omega (arith, ep))

  cursor_after : (u : Stand) (b : Bool) → IsRunning f t → IsHand → u.state.phase ≡ cond b t.state.phase next_phase →
      u.state.done ≡ cond b done_after (replicate f.header.procs 0) →
      u.places ≡ cond b (slice_set t.places q (next_position r.code.items cursor))
      (replicate f.header.procs first_position) → (other : ℕ) → other < f.header.procs →
      slice_index u.state.done other < length (places_in f u.state.phase) →
      slice_get (places_in f u.state.phase) (slice_index u.state.done other) ≡ slice_get u.places other
  cursor_after u true run h ep ed ec other lt left =
      let n : ℕ = slice_index t.state.done q in
      let done_is : slice_index u.state.done other ≡ slice_index done_after other = ap (λ d. slice_index d other) ed in
      let goal_is : slice_get (places_in f u.state.phase) (slice_index u.state.done other) ≡ slice_get (places_in f t.state.phase) (slice_index done_after other) =
      ap₂ (λ p k. slice_get (places_in f p) k) ep done_is in
      let small : slice_index done_after other < length (places_in f t.state.phase) = omega (arith, left, done_is, ap (λ p. length (places_in f p)) ep) in
      ⊎_elim
      (λ (same : other ≡ q).
      let at = places_at f t.state.phase r h.here.phase h.here.routine in
      let set : slice_index done_after other ≡ suc n = ap (slice_index done_after) same ∙ get_or-set_same t.state.done q (suc n) 0 (omega (arith, run.dones, h.here.proc)) in
      goal_is
      ∙ (ap₂ (λ ps k. slice_get ps k) at set
      ∙ (place_after r n cursor (hand_place f t q r cursor run h.here) (omega (arith, small, set, ap length at, length-positions r.code.items r.len first_position))
      ∙ (sym (get_same t.places q (next_position r.code.items cursor) (omega (arith, run.cursors, h.here.proc)))
      ∙ ap₂ (λ ps k. slice_get ps k) (sym ec) (sym same)))))
      (λ (ne : other ≡ q → ⊥).
      let kept : slice_index done_after other ≡ slice_index t.state.done other = get_or-set_other t.state.done q other (suc n) 0 ne in
      goal_is
      ∙ (ap (slice_get (places_in f t.state.phase)) kept
      ∙ (run.cursor other lt (omega (arith, small, kept))
      ∙ (sym (slice_get-set_other t.places q other (next_position r.code.items cursor) ne)
      ∙ ap (λ ps. slice_get ps other) (sym ec)))))
      (cases_eq other q)
  cursor_after u false run h ep ed ec other lt left =
      let zero_is : slice_index u.state.done other ≡ 0 = ap (λ d. slice_index d other) ed ∙ none_done-zero code other in
      ap (slice_get (places_in f u.state.phase)) zero_is
      ∙ (places_first f.phases u.state.phase (omega (arith, left))
      ∙ (sym (get_replicate f.header.procs other first_position lt) ∙ ap (λ ps. slice_get ps other) (sym ec)))

  file_after : (u : Stand) → IsRunning f t → IsHand → IsStepped u → (other : ℕ) → other < f.header.procs →
      length (slice_index_or u.state.registers other []) ≡ f.header.regs * f.header.lanes
  file_after u run h e other lt =
      let fs = t.state.registers in
      ap (λ (rs : List (List ℕ)). length (slice_index_or rs other [])) e.registers
      ∙ ⊎_elim
      (λ (same : other ≡ q). ap (λ k. length (slice_index_or (slice_set fs q after.registers) k [])) same
      ∙ (ap length (get_or-set_same fs q after.registers [] (omega (arith, run.files, h.here.proc)))
      ∙ (length-with_words (value_put f.header.modulus f.header.lanes action before) (slice_index_or fs q []) (register_put action * f.header.lanes) ∙ run.file q h.here.proc)))
      (λ (ne : other ≡ q → ⊥). ap length (get_or-set_other fs q other after.registers [] ne) ∙ run.file other lt)
      (cases_eq other q)

  files_below_after : (u : Stand) → 0 < f.header.modulus → IsRunning f t → IsHand → IsStepped u → (other : ℕ) →
      AreBelow f.header.modulus (slice_index_or u.state.registers other [])
  files_below_after u pos run h e other =
      let fs = t.state.registers in
      subst (λ (rs : List (List ℕ)). AreBelow f.header.modulus (slice_index_or rs other [])) (sym e.registers)
      (⊎_elim
      (λ (same : other ≡ q). subst (λ k. AreBelow f.header.modulus (slice_index_or (slice_set fs q after.registers) k [])) (sym same)
      (subst (AreBelow f.header.modulus) (sym (get_or-set_same fs q after.registers [] (omega (arith, run.files, h.here.proc))))
      (effect_registers_below f.header.modulus f.header.lanes pos before run.memory_below (run.files_below q) action)))
      (λ (ne : other ≡ q → ⊥). subst (AreBelow f.header.modulus) (sym (get_or-set_other fs q other after.registers [] ne)) (run.files_below other))
      (cases_eq other q))

  length_if : {X : Type 0} (b : Bool) (xs ys zs : List X) (n : ℕ) → xs ≡ cond b ys zs → length ys ≡ n → length zs ≡ n →
      length xs ≡ n
  length_if true xs ys zs n e y z = ap length e ∙ y
  length_if false xs ys zs n e y z = ap length e ∙ z

  pub stepped_runs : (u : Stand) → IsReady f → IsRunning f t → IsHand → IsStepped u → IsRunning f u
  stepped_runs u ready run h e =
      let pos : 0 < f.header.modulus = omega (arith, ready.limits.of_modulus.0) in
      record {
        memory = ap length e.memory ∙ (length-memory_after f.header.lanes action before ∙ run.memory);
        memory_below = subst (AreBelow f.header.modulus) (sym e.memory) (effect_memory_below f.header.modulus f.header.lanes pos before run.memory_below (run.files_below q) action);
        files = ap length e.registers ∙ (length-set t.state.registers q after.registers ∙ run.files);
        file = file_after u run h e;
        files_below = files_below_after u pos run h e;
        phase = e.within;
        dones = length_if stays u.state.done done_after (replicate f.header.procs 0) f.header.procs e.done (length-set t.state.done q _ ∙ run.dones) (length-replicate {A = ℕ} f.header.procs 0);
        within = within_after u stays run h e.phase e.done;
        settled = λ lt. settled_after u stays refl e.phase e.done lt h.here.phase;
        cursors = length_if stays u.places (slice_set t.places q (next_position r.code.items cursor)) (replicate f.header.procs first_position) f.header.procs e.places (length-set t.places q _ ∙ run.cursors) (length-replicate f.header.procs first_position);
        cursor = cursor_after u stays run h e.phase e.done e.places;
        counters = ap length e.counts ∙ (length-set t.counts q _ ∙ run.counters);
        counted = counted_after u run h e;
      }
