-- No step of a run with store buffers makes more events of those that finish it, and at first they are few.
use Rattle.std.proofs.Common.{◌≡◌, ◌≢◌, ℕ, zero, suc, ◌+◌, ◌<◌, ◌≤◌, ◌^◌, List, [], ◌∷◌, ◌++◌, Bool, true, false, cond}
use Rattle.std.proofs.Common.{length, drop, flat_map, replicate, Option, Some, None, refl, sym, ap, ap₂, ◌∙◌, subst}
use Rattle.std.proofs.Common.{arith, ⊎_elim, get_or-set_same, get_or-set_other, length-append, le_refl}
use Rattle.std.specs.Prelude.{slice_index, slice_index_or}
use Rattle.std.specs.List.{range_with_len}
use Rattle.std.proofs.lemmas.Bool.{cases_Bool, cases_eq}
use Rattle.std.proofs.lemmas.List.{get_or-replicate, length-map, length-replicate}
use Rattle.operators.specs.Sum.{sum_below}
use Rattle.operators.proofs.Sums.{sum_below-add, sum_below-zeros}
use Rattle.icode.specs.declared.action.Action.{Action}
use Rattle.icode.specs.declared.action.Action.TheVariants.{Store}
use Rattle.icode.specs.declared.event.Event.{Event}
use Rattle.icode.specs.declared.event.Event.TheVariants.{Turn, Drain}
use Rattle.icode.specs.Actions.{PlainFits, Step, plain_code, steps_of_phase}
use Rattle.icode.specs.Buffers.{Waiting, Buffered, queue_of, some_wait, stored, stores_among, rest_of_processor}
use Rattle.icode.specs.Buffers.{buffered_moved_on, buffered_acted, buffered_turn_with, written, drain_with}
use Rattle.icode.specs.Buffers.{buffered_step, none_waiting, buffered_start, buffered_rest, buffered_phases}
use Rattle.icode.specs.Buffers.{buffered_completion, IsBusy}
use Rattle.icode.specs.Machine.{Code, IsCode, acts, is_open, none_done, next_action, first_open, phases_after}
use Rattle.icode.specs.Plain.{PlainProgram}
use Rattle.icode.proofs.BufferedCompletion.{drop_at, drop_over, none_waiting-none, waits_within}
use Rattle.icode.proofs.End.{none_done-zero}
use Rattle.icode.proofs.Runs.{first_open-open, first_open-closed, has_action, past_over}
use Rattle.icode.proofs.StoreCounts.{stores_first}
use Rattle.icode.proofs.Waiting.{none_waits, queue_inside}
use Rattle.buffer_machine.proofs.Fitting.{acts_steps}

-- ---- lengths

one_store : (a : Action) → stores_among (a ∷ []) ≤ 1
one_store (Store address r) = omega arith
one_store a = omega arith

stores_le : (xs : List Action) → stores_among xs ≤ length xs
stores_le [] = omega arith
stores_le (a ∷ xs) = omega (arith, stores_first a xs, one_store a, stores_le xs)

rest_length : (left : List Action) (waiting q : ℕ) → length (rest_of_processor left waiting q) ≡ length left
    + (waiting + stores_among left)
rest_length left waiting q =
    omega (arith, length-append (replicate (length left) (Turn q)) (replicate (waiting + stores_among left) (Drain q)), length-replicate (length left) (Turn q), length-replicate (waiting + stores_among left) (Drain q))

flat_le : (g h : ℕ → List Event) (n first : ℕ) → ((q : ℕ) → length (g q) ≤ length (h q)) →
    length (flat_map g (range_with_len first n)) ≤ length (flat_map h (range_with_len first n))
flat_le g h zero first le = omega arith
flat_le g h (suc n) first le =
    omega (arith, le first, flat_le g h n (first + 1) le, length-append (g first) (flat_map g (range_with_len (first + 1) n)), length-append (h first) (flat_map h (range_with_len (first + 1) n)))

sum_first : (n : ℕ) (f : ℕ → ℕ) → sum_below (suc n) f ≡ f 0 + sum_below n (λ i. f (suc i))
sum_first zero f = omega arith
sum_first (suc n) f = omega (arith, sum_first n f)

flat_sum : (g : ℕ → List Event) (f : ℕ → ℕ) (n first : ℕ) → ((q i : ℕ) → q ≡ first + i → i < n → length (g q) ≤ f i) →
    length (flat_map g (range_with_len first n)) ≤ sum_below n f
flat_sum g f zero first le = omega arith
flat_sum g f (suc n) first le =
    omega (
      arith,
      length-append (g first) (flat_map g (range_with_len (first + 1) n)),
      le first 0 (omega arith) (omega arith),
      flat_sum g (λ i. f (suc i)) n (first + 1) (λ q i e lt. le q (suc i) (omega (arith, e)) (omega arith)),
      sum_first n f,
    )

stored_length : (lanes : ℕ) (a : Action) (registers : List ℕ) →
    length (stored lanes a registers) ≡ stores_among (a ∷ [])
stored_length lanes (Store address r) registers = refl
stored_length lanes a registers = refl

-- what is left to do of a processor's phase
abbrev left_of : Code → Buffered → ℕ → List Event
left_of code b q = rest_of_processor (drop (slice_index b.state.done q) (acts code b.state.phase q)) (length (queue_of b.queues q)) q

-- of a phase of which nothing is done
abbrev whole_of : Code → ℕ → ℕ → List Event
whole_of code phase q = rest_of_processor (drop (slice_index (none_done code) q) (acts code phase q)) (length (queue_of (none_waiting code) q)) q

module _ (code : Code) where
  left_length : (b : Buffered) (q : ℕ) (left : List Action) (waiting : ℕ) →
      drop (slice_index b.state.done q) (acts code b.state.phase q) ≡ left → length (queue_of b.queues q) ≡ waiting →
      length (left_of code b q) ≡ length left + (waiting + stores_among left)
  left_length b q left waiting e w = ap length (ap₂ (λ (l : List Action) (n : ℕ). rest_of_processor l n q) e w) ∙ rest_length left waiting q

  -- ---- one step

  -- where one processor has no more to do in the phase, and the others as much as before, no more events are left
  fewer : (b t : Buffered) (q : ℕ) → t.state.phase ≡ b.state.phase →
      length (left_of code t q) ≤ length (left_of code b q) → ((k : ℕ) → k ≢ q → left_of code t k ≡ left_of code b k) →
      length (buffered_completion code t) ≤ length (buffered_completion code b)
  fewer b t q same own others =
      let each : (k : ℕ) → length (left_of code t k) ≤ length (left_of code b k) =
      λ k. ⊎_elim
      (λ (e : k ≡ q). subst (λ (j : ℕ). length (left_of code t j) ≤ length (left_of code b j)) (sym e) own)
      (λ (ne : k ≡ q → ⊥). omega (arith, ap length (others k ne)))
      (cases_eq k q) in
      omega (
        arith,
        ap (λ (k : ℕ). length (buffered_phases code (phases_after code k) (k + 1))) same,
        flat_le (left_of code t) (left_of code b) code.procs 0 each,
        length-append (buffered_rest code t.state.phase t.state.done t.queues) (buffered_phases code (phases_after code t.state.phase) (t.state.phase + 1)),
        length-append (buffered_rest code b.state.phase b.state.done b.queues) (buffered_phases code (phases_after code b.state.phase) (b.state.phase + 1)),
      )

  module _ (is : IsCode code) where
    few_acted : (b : Buffered) (q : ℕ) (a : Action) → IsBusy code b → next_action code b.state q ≡ Some a →
        length (buffered_completion code (buffered_acted code q a b)) ≤ length (buffered_completion code b)
    few_acted b q a g e =
        let has = has_action code is b.state.phase q (slice_index b.state.done q) a e in
        let t : Buffered = buffered_acted code q a b in
        let registers : List ℕ = slice_index_or b.state.registers q [] in
        let queue : List Waiting = queue_of b.queues q in
        let more : List Waiting = queue ++ stored code.lanes a registers in
        let xs : List Action = acts code b.state.phase q in
        let rest : List Action = drop (suc (slice_index b.state.done q)) xs in
        let done : slice_index t.state.done q ≡ suc (slice_index b.state.done q) = get_or-set_same b.state.done q (suc (slice_index b.state.done q)) 0 (omega (arith, has.0, g.dones)) in
        let waits : queue_of t.queues q ≡ more = get_or-set_same b.queues q more [] (omega (arith, has.0, g.lines)) in
        let before = left_length b q (a ∷ rest) (length queue) (drop_at xs (slice_index b.state.done q) a e) refl in
        let after = left_length t q rest (length more) (ap (λ (d : ℕ). drop d xs) done) (ap length waits) in
        let own : length (left_of code t q) ≤ length (left_of code b q) = omega (arith, before, after, length-append queue (stored code.lanes a registers), stored_length code.lanes a registers, stores_first a rest) in
        fewer b t q refl own (λ k ne. ap₂ (λ (d : ℕ) (ws : List Waiting). rest_of_processor (drop d (acts code b.state.phase k)) (length ws) k)
        (get_or-set_other b.state.done q k (suc (slice_index b.state.done q)) 0 ne)
        (get_or-set_other b.queues q k more [] ne))

    few_written : (b : Buffered) (q : ℕ) (w : Waiting) (queue : List Waiting) → IsBusy code b →
        queue_of b.queues q ≡ w ∷ queue → length (buffered_completion code (written q w queue b))
        ≤ length (buffered_completion code b)
    few_written b q w queue g e =
        let t : Buffered = written q w queue b in
        let left : List Action = drop (slice_index b.state.done q) (acts code b.state.phase q) in
        let before = left_length b q left (suc (length queue)) refl (ap length e) in
        let inside : q < length b.queues = queue_inside b.queues q w queue e in
        let after = left_length t q left (length queue) refl (ap length (get_or-set_same b.queues q queue [] inside)) in
        fewer b t q refl (omega (arith, before, after)) (λ k ne. ap (λ (ws : List Waiting). rest_of_processor (drop (slice_index b.state.done k) (acts code b.state.phase k)) (length ws) k)
        (get_or-set_other b.queues q k queue [] ne))

    -- ---- the phase moves on

    no_rest : (phase : ℕ) → length code.lists ≤ phase → length
        (buffered_rest code phase (none_done code) (none_waiting code)) ≤ 0
    no_rest phase past =
        omega (
          arith,
          flat_sum (whole_of code phase) (λ _. 0) code.procs 0
              (λ q i e lt. omega (arith, nothing q)),
          sum_below-zeros code.procs,
        )
      where
        nothing : (q : ℕ) → length (whole_of code phase q) ≡ 0
        nothing q =
            ap length (ap₂ (λ (l : List Action) (ws : List Waiting). rest_of_processor l (length ws) q)
            (drop_over (acts code phase q) (slice_index (none_done code) q) ((past_over code phase (none_done code) past).each q))
            (none_waits (none_waiting code) (none_waiting-none code is) q))

    -- a phase and those after it are among the phases from an earlier one on
    later : (n phase : ℕ) → n + phase ≡ length code.lists → length
        (buffered_rest code (first_open code n phase) (none_done code) (none_waiting code))
        + length (buffered_phases code (phases_after code (first_open code n phase)) (first_open code n phase + 1))
        ≤ length (buffered_phases code n phase)
    later zero phase e =
        let past : phases_after code phase ≡ 0 = omega arith in
        omega (arith, no_rest phase (omega arith), ap (λ k. length (buffered_phases code k (phase + 1))) past)
    later (suc n) phase e =
        let rest : List Event = buffered_rest code phase (none_done code) (none_waiting code) in
        let whole = length-append rest (buffered_phases code n (phase + 1)) in
        ⊎_elim
        (λ (o : is_open code phase (none_done code) ≡ true).
        let after : phases_after code phase ≡ n = omega arith in
        subst (λ f. length (buffered_rest code f (none_done code) (none_waiting code)) + length (buffered_phases code (phases_after code f) (f + 1)) ≤ length (buffered_phases code (suc n) phase)) (sym (first_open-open code n phase o))
        (omega (arith, whole, ap (λ k. length (buffered_phases code k (phase + 1))) after)))
        (λ (o : is_open code phase (none_done code) ≡ false).
        subst (λ f. length (buffered_rest code f (none_done code) (none_waiting code)) + length (buffered_phases code (phases_after code f) (f + 1)) ≤ length (buffered_phases code (suc n) phase)) (sym (first_open-closed code n phase o))
        (omega (arith, whole, later n (phase + 1) (omega arith))))
        (cases_Bool (is_open code phase (none_done code)))

    few_moved : (b : Buffered) → b.state.phase < length code.lists →
        length (buffered_completion code (buffered_moved_on code b)) ≤ length (buffered_completion code b)
    few_moved b lt = at (some_wait b.queues) refl (is_open code b.state.phase b.state.done) refl
      where
        at : (w : Bool) → some_wait b.queues ≡ w → (o : Bool) → is_open code b.state.phase b.state.done ≡ o
            → length (buffered_completion code (record { state = cond w b.state (cond o b.state (record { memory = b.state.memory; registers = b.state.registers; phase = first_open code (phases_after code b.state.phase) (b.state.phase + 1); done = none_done code })); queues = b.queues })) ≤ length (buffered_completion code b)
        at true ew o eo = le_refl (length (buffered_completion code b))
        at false ew true eo = le_refl (length (buffered_completion code b))
        at false ew false eo =
            let k : ℕ = first_open code (phases_after code b.state.phase) (b.state.phase + 1) in
            let rests = flat_le (λ q. rest_of_processor (drop (slice_index (none_done code) q) (acts code k q)) (length (queue_of b.queues q)) q) (whole_of code k) code.procs 0
            (λ q. omega (arith, ap length (ap (λ (ws : List Waiting). rest_of_processor (drop (slice_index (none_done code) q) (acts code k q)) (length ws) q) (none_waits b.queues ew q ∙ sym (none_waits (none_waiting code) (none_waiting-none code is) q))))) in
            omega (
              arith,
              rests,
              later (phases_after code b.state.phase) (b.state.phase + 1) (omega arith),
              length-append (buffered_rest code k (none_done code) b.queues) (buffered_phases code (phases_after code k) (k + 1)),
              length-append (buffered_rest code b.state.phase b.state.done b.queues) (buffered_phases code (phases_after code b.state.phase) (b.state.phase + 1)),
            )

    pub few_step : (b : Buffered) (e : Event) → IsBusy code b →
        length (buffered_completion code (buffered_step code b e)) ≤ length (buffered_completion code b)
    few_step b (Turn q) g = with_action (next_action code b.state q) refl
      where
        with_action : (o : Option Action) → next_action code b.state q ≡ o →
            length (buffered_completion code (buffered_turn_with code q b o)) ≤ length (buffered_completion code b)
        with_action None e = le_refl (length (buffered_completion code b))
        with_action (Some a) e = omega (arith, few_moved (buffered_acted code q a b) (has_action code is b.state.phase q (slice_index b.state.done q) a e).1, few_acted b q a g e)
    few_step b (Drain q) g = with_queue (queue_of b.queues q) refl
      where
        with_queue : (o : List Waiting) → queue_of b.queues q ≡ o →
            length (buffered_completion code (drain_with code q b o)) ≤ length (buffered_completion code b)
        with_queue [] e = le_refl (length (buffered_completion code b))
        with_queue (w ∷ queue) e = omega (arith, few_moved (written q w queue b) (waits_within code is b q w queue g e), few_written b q w queue g e)

    pub few_start : (x : List ℕ) → length (buffered_completion code (buffered_start code x))
        ≤ length (buffered_phases code (length code.lists) 0)
    few_start x =
        let f : ℕ = first_open code (length code.lists) 0 in
        omega (arith, later (length code.lists) 0 (omega arith), length-append (buffered_rest code f (none_done code) (none_waiting code)) (buffered_phases code (phases_after code f) (f + 1)))

-- ---- of a program

phases_sum : (code : Code) (f : ℕ → ℕ) (n phase : ℕ) → ((k i : ℕ) → k ≡ phase + i → i < n →
    length (buffered_rest code k (none_done code) (none_waiting code)) ≤ f i) →
    length (buffered_phases code n phase) ≤ sum_below n f
phases_sum code f zero phase le = omega arith
phases_sum code f (suc n) phase le =
    omega (
      arith,
      length-append (buffered_rest code phase (none_done code) (none_waiting code)) (buffered_phases code n (phase + 1)),
      le phase 0 (omega arith) (omega arith),
      phases_sum code (λ i. f (suc i)) n (phase + 1) (λ k i e lt. le k (suc i) (omega (arith, e)) (omega arith)),
      sum_first n f,
    )

-- the actions of a phase
abbrev actions_in : PlainProgram → ℕ → ℕ
actions_in p phase = sum_below p.procs (λ q. length (steps_of_phase p phase q))

one_processor : (p : PlainProgram) (phase q : ℕ) → q < p.procs →
    length (whole_of (plain_code p) phase q) ≤ length (steps_of_phase p phase q) + length (steps_of_phase p phase q)
one_processor p phase q lt =
    let xs : List Action = acts (plain_code p) phase q in
    let same : whole_of (plain_code p) phase q ≡ rest_of_processor xs 0 q = ap₂ (λ (d : ℕ) (ws : List Waiting). rest_of_processor (drop d xs) (length ws) q) (none_done-zero (plain_code p) q) (get_or-replicate p.procs q [] [] lt) in
    omega (arith, ap length same, rest_length xs 0 q, stores_le xs, ap length (acts_steps p phase q lt), length-map (steps_of_phase p phase q) (λ (s : Step). s.action))

one_phase : (p : PlainProgram) (phase : ℕ) → length (buffered_rest (plain_code p) phase (none_done (plain_code p))
    (none_waiting (plain_code p))) ≤ actions_in p phase + actions_in p phase
one_phase p phase =
    omega (
      arith,
      flat_sum (whole_of (plain_code p) phase) (λ q. length (steps_of_phase p phase q) + length (steps_of_phase p phase q)) p.procs 0
          (λ q i e lt. let same : q ≡ i = omega (arith, e) in subst (λ (k : ℕ). length (whole_of (plain_code p) phase q) ≤ length (steps_of_phase p phase k) + length (steps_of_phase p phase k)) same (one_processor p phase q (omega (arith, e)))),
      sum_below-add p.procs (λ q. length (steps_of_phase p phase q)) (λ q. length (steps_of_phase p phase q)),
    )

pub few_events : (p : PlainProgram) → PlainFits p → length (buffered_phases (plain_code p)
    (length (plain_code p).lists) 0) < 2 ^ 60
few_events p fits =
    let count : length (plain_code p).lists ≡ length p.phases = length-map p.phases _ in
    omega (
      arith,
      ap (λ (n : ℕ). length (buffered_phases (plain_code p) n 0)) count,
      phases_sum (plain_code p) (λ phase. actions_in p phase + actions_in p phase) (length p.phases) 0
          (λ k i e lt. let same : k ≡ i = omega (arith, e) in subst (λ (j : ℕ). length (buffered_rest (plain_code p) k (none_done (plain_code p)) (none_waiting (plain_code p))) ≤ actions_in p j + actions_in p j) same (one_phase p k)),
      sum_below-add (length p.phases) (actions_in p) (actions_in p),
      fits.few,
    )
