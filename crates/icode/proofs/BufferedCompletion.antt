-- The events that finish a run with store buffers, one by one.
use Rattle.std.proofs.Common.{◌≡◌, ℕ, zero, suc, ◌+◌, ◌<◌, ◌≤◌, ◌≢◌, ◌⊎◌, List, [], ◌∷◌, ◌++◌, Bool, true, false, cond}
use Rattle.std.proofs.Common.{length, drop, flat_map, replicate, Option, Some, None, refl, sym, ap, ap₂, ◌∙◌, subst}
use Rattle.std.proofs.Common.{arith, inl, inr, ⊎_elim, get_or-set_same, get_or-set_other, length-set, length-append}
use Rattle.std.proofs.Common.{le_refl}
use Rattle.std.specs.Prelude.{slice_get, slice_index, slice_index_or}
use Rattle.std.specs.List.{range_with_len}
use Rattle.std.proofs.lemmas.Bool.{cases_eq, cases_lt, cases_Bool, false≢true, le-ltb}
use Rattle.std.proofs.lemmas.List.{ext_get_or, get_or-replicate, length-replicate}
use Rattle.icode.specs.declared.action.Action.{Action}
use Rattle.icode.specs.declared.action.Action.TheVariants.{Store}
use Rattle.icode.specs.declared.event.Event.{Event}
use Rattle.icode.specs.declared.event.Event.TheVariants.{Turn, Drain}
use Rattle.icode.specs.Machine.{Code, IsCode, State, acts, is_open, none_done, next_action, first_open, phases_after}
use Rattle.icode.specs.Buffers.{Waiting, Buffered, queue_of, some_wait, stored, stores_among, rest_of_processor}
use Rattle.icode.specs.Buffers.{buffered_moved_on, buffered_acted, buffered_turn_with, buffered_turn, written}
use Rattle.icode.specs.Buffers.{drain_with, drain, buffered_step, buffered_run, none_waiting, buffered_start}
use Rattle.icode.specs.Buffers.{buffered_rest, buffered_phases, buffered_completion, buffered_finished, IsIdle, IsBusy}
use Rattle.icode.proofs.Completion.{first_opens}
use Rattle.icode.proofs.End.{IsOver}
use Rattle.icode.proofs.Open.{closed_over, past_over, not_open, first_open-open, first_open-closed, first_is}
use Rattle.icode.proofs.Open.{has_action, none_left}
use Rattle.icode.proofs.Waiting.{none_waits, one_waits, all_empty}

-- Lists, processor by processor

none_by : (g : ℕ → List Event) (n first : ℕ) → ((q : ℕ) → first ≤ q → q < first + n → g q ≡ []) →
    flat_map g (range_with_len first n) ≡ []
none_by g zero first h = refl
none_by g (suc n) first h =
    ap₂ (λ (xs ys : List Event). xs ++ ys) (h first (le_refl first) (omega arith)) (none_by g n (first + 1) (λ q low high. h q (omega arith) (omega arith)))

same_by : (g h : ℕ → List Event) (n first : ℕ) → ((q : ℕ) → first ≤ q → g q ≡ h q) →
    flat_map g (range_with_len first n) ≡ flat_map h (range_with_len first n)
same_by g h zero first e = refl
same_by g h (suc n) first e =
    ap₂ (λ (xs ys : List Event). xs ++ ys) (e first (le_refl first)) (same_by g h n (first + 1) (λ q low. e q (omega arith)))

-- the first event, where `who` is the first that has one, and h says what is left then
first_by : (g h : ℕ → List Event) (x : Event) (who n first : ℕ) → first ≤ who → who < first + n →
    ((q : ℕ) → q < who → g q ≡ []) → g who ≡ x ∷ h who → ((q : ℕ) → q ≢ who → g q ≡ h q) →
    flat_map g (range_with_len first n) ≡ x ∷ flat_map h (range_with_len first n)
first_by g h x who zero first low high none one others = absurd (omega arith)
first_by g h x who (suc n) first low high none one others =
    ⊎_elim
    (λ (e : first ≡ who). subst (λ w. g w ≡ x ∷ h w → ((q : ℕ) → q ≢ w → g q ≡ h q) → flat_map g (range_with_len first (suc n)) ≡ x ∷ flat_map h (range_with_len first (suc n))) e
    (λ one others. ap₂ (λ (xs ys : List Event). xs ++ ys) one (same_by g h n (first + 1) (λ q low. others q (omega arith)))) one others)
    (λ (ne : first ≡ who → ⊥).
    let gz : g first ≡ [] = none first (omega arith) in
    let hz : h first ≡ [] = sym (others first ne) ∙ gz in
    ap₂ (λ (xs ys : List Event). xs ++ ys) gz (first_by g h x who n (first + 1) (omega arith) (omega arith) none one others)
    ∙ ap (λ (xs : List Event). x ∷ (xs ++ flat_map h (range_with_len (first + 1) n))) (sym hz))
    (cases_eq first who)

pub drop_over : {X : Type 0} (xs : List X) (n : ℕ) → length xs ≤ n → drop n xs ≡ []
drop_over [] zero h = refl
drop_over [] (suc n) h = refl
drop_over (x ∷ xs) zero h = absurd (omega arith)
drop_over (x ∷ xs) (suc n) h = drop_over xs n (omega arith)

pub drop_at : {X : Type 0} (xs : List X) (n : ℕ) (x : X) → slice_get xs n ≡ Some x → drop n xs ≡ x ∷ drop (suc n) xs
drop_at [] n x e = cc
drop_at (y ∷ xs) zero x e = cc
drop_at (y ∷ xs) (suc n) x e = drop_at xs n x e

-- a store that waits is one that was among the actions left
waiting_or_left : (lanes : ℕ) (a : Action) (registers : List ℕ) (left : List Action) (queue : List Waiting) →
    length (queue ++ stored lanes a registers) + stores_among left ≡ length queue + stores_among (a ∷ left)
waiting_or_left lanes (Store address r) registers left queue = omega (arith, length-append queue (stored lanes (Store address r) registers))
waiting_or_left lanes a registers left queue = omega (arith, length-append queue (stored lanes a registers))

module _ (code : Code) (is : IsCode code) where
  -- What turns and drains keep

  pub first_within : (n phase : ℕ) → first_open code n phase ≤ n + phase
  first_within n phase = (first_is code n phase).high

  next_of : State → State
  next_of s = record { memory = s.memory; registers = s.registers; phase = first_open code (phases_after code s.phase) (s.phase + 1); done = none_done code }

  busy_moved : (b : Buffered) → b.state.phase < length code.lists → length b.state.done ≡ code.procs →
      length b.queues ≡ code.procs → IsBusy code (buffered_moved_on code b)
  unfolding next_of
  busy_moved b lt dones lines = at (some_wait b.queues) refl (is_open code b.state.phase b.state.done) refl
    where
      at : (w : Bool) → some_wait b.queues ≡ w → (o : Bool) → is_open code b.state.phase b.state.done ≡ o → IsBusy code (record { state = cond w b.state (cond o b.state (next_of b.state)); queues = b.queues })
      at true ew o eo = record { dones = dones; lines = lines; within = omega arith; opens = λ h none. absurd (false≢true (sym none ∙ ew)); past = λ ge. absurd (omega arith) }
      at false ew true eo = record { dones = dones; lines = lines; within = omega arith; opens = λ h none. eo; past = λ ge. absurd (omega arith) }
      at false ew false eo = record {
        dones = length-replicate code.procs 0;
        lines = lines;
        within = omega (arith, first_within (phases_after code b.state.phase) (b.state.phase + 1));
        opens = λ h none. first_opens code is (phases_after code b.state.phase) (b.state.phase + 1) (omega arith);
        past = λ ge. ew;
      }

  busy_turn : (b : Buffered) (q : ℕ) → IsBusy code b → IsBusy code (buffered_turn code b q)
  busy_turn b q g = with_action (next_action code b.state q) refl
    where
      with_action : (o : Option Action) → next_action code b.state q ≡ o → IsBusy code (buffered_turn_with code q b o)
      with_action None e = g
      with_action (Some a) e =
          busy_moved (buffered_acted code q a b) (has_action code is b.state.phase q (slice_index b.state.done q) a e).1
          (length-set b.state.done q _ ∙ g.dones) (length-set b.queues q _ ∙ g.lines)

  -- a store waits in a phase of the code alone
  pub waits_within : (b : Buffered) (q : ℕ) (w : Waiting) (queue : List Waiting) → IsBusy code b →
      queue_of b.queues q ≡ w ∷ queue → b.state.phase < length code.lists
  waits_within b q w queue g e =
      ⊎_elim
      (λ (lt : b.state.phase < length code.lists). lt)
      (λ (ge : length code.lists ≤ b.state.phase). absurd (false≢true (sym (g.past ge) ∙ one_waits b.queues q w queue e)))
      (cases_lt b.state.phase (length code.lists))

  busy_drain : (b : Buffered) (q : ℕ) → IsBusy code b → IsBusy code (drain code b q)
  busy_drain b q g = with_queue (queue_of b.queues q) refl
    where
      with_queue : (o : List Waiting) → queue_of b.queues q ≡ o → IsBusy code (drain_with code q b o)
      with_queue [] e = g
      with_queue (w ∷ queue) e = busy_moved (written q w queue b) (waits_within b q w queue g e) g.dones (length-set b.queues q _ ∙ g.lines)

  pub busy_step : (b : Buffered) (e : Event) → IsBusy code b → IsBusy code (buffered_step code b e)
  busy_step b (Turn q) g = busy_turn b q g
  busy_step b (Drain q) g = busy_drain b q g

  pub busy_run : (events : List Event) (b : Buffered) → IsBusy code b → IsBusy code (buffered_run code b events)
  busy_run [] b g = g
  busy_run (e ∷ events) b g = busy_run events (buffered_step code b e) (busy_step b e g)

  pub none_waiting-none : some_wait (none_waiting code) ≡ false
  none_waiting-none = all_empty (none_waiting code) (λ q lt. get_or-replicate code.procs q [] [] (omega (arith, length-replicate {A = List Waiting} code.procs [])))

  pub starts_busy : (x : List ℕ) → IsBusy code (buffered_start code x)
  starts_busy x = record {
    dones = length-replicate code.procs 0;
    lines = length-replicate code.procs [];
    within = omega (arith, first_within (length code.lists) 0);
    opens = λ h none. first_opens code is (length code.lists) 0 (omega arith);
    past = λ ge. none_waiting-none;
  }

  -- The first event of a completion

  abbrev events_of : ℕ → List ℕ → List (List Waiting) → ℕ → List Event
  events_of phase done queues q = rest_of_processor (drop (slice_index done q) (acts code phase q)) (length (queue_of queues q)) q

  idle_none : (phase : ℕ) (done : List ℕ) (queues : List (List Waiting)) (q : ℕ) →
      length (acts code phase q) ≤ slice_index done q → queue_of queues q ≡ [] → events_of phase done queues q ≡ []
  idle_none phase done queues q le none = ap₂ (λ (left : List Action) (queue : List Waiting). rest_of_processor left (length queue) q) (drop_over (acts code phase q) (slice_index done q) le) none

  rest_over : (phase : ℕ) (done : List ℕ) (queues : List (List Waiting)) → IsOver code phase done →
      some_wait queues ≡ false → buffered_rest code phase done queues ≡ []
  rest_over phase done queues over none = none_by (events_of phase done queues) code.procs 0 (λ q low high. idle_none phase done queues q (over.each q) (none_waits queues none q))

  -- phases with no action add no event
  skipped : (n phase : ℕ) → n + phase ≡ length code.lists → buffered_phases code n phase
      ≡ buffered_rest code (first_open code n phase) (none_done code) (none_waiting code)
      ++ buffered_phases code (phases_after code (first_open code n phase)) (first_open code n phase + 1)
  skipped zero phase e =
      let past : phases_after code phase ≡ 0 = omega arith in
      sym (ap₂ (λ (r : List Event) k. r ++ buffered_phases code k (phase + 1)) (rest_over phase (none_done code) (none_waiting code) (past_over code phase (none_done code) (omega arith)) none_waiting-none) past)
  skipped (suc n) phase e =
      ⊎_elim
      (λ (o : is_open code phase (none_done code) ≡ true).
      let after : phases_after code phase ≡ n = omega arith in
      subst (λ f. buffered_phases code (suc n) phase ≡ buffered_rest code f (none_done code) (none_waiting code) ++ buffered_phases code (phases_after code f) (f + 1)) (sym (first_open-open code n phase o))
      (ap (λ k. buffered_rest code phase (none_done code) (none_waiting code) ++ buffered_phases code k (phase + 1)) (sym after)))
      (λ (o : is_open code phase (none_done code) ≡ false).
      subst (λ f. buffered_phases code (suc n) phase ≡ buffered_rest code f (none_done code) (none_waiting code) ++ buffered_phases code (phases_after code f) (f + 1)) (sym (first_open-closed code n phase o))
      (ap (λ (r : List Event). r ++ buffered_phases code n (phase + 1)) (rest_over phase (none_done code) (none_waiting code) (closed_over code is phase (none_done code) o) none_waiting-none) ∙ skipped n (phase + 1) (omega arith)))
      (cases_Bool (is_open code phase (none_done code)))

  none_waiting_is : (queues : List (List Waiting)) → length queues ≡ code.procs → some_wait queues ≡ false →
      queues ≡ none_waiting code
  none_waiting_is queues lines none =
      ext_get_or [] queues (none_waiting code) (lines ∙ sym (length-replicate code.procs [])) (λ q lt. none_waits queues none q ∙ sym (get_or-replicate code.procs q [] [] (omega (arith, lines))))

  -- what is left to do, before the phase moves on and after it
  after_move : (b : Buffered) → b.state.phase < length code.lists → length b.queues ≡ code.procs →
      buffered_completion code b ≡ buffered_completion code (buffered_moved_on code b)
  unfolding next_of
  after_move b lt lines = at (some_wait b.queues) refl (is_open code b.state.phase b.state.done) refl
    where
      n : ℕ
      n = phases_after code b.state.phase

      at : (w : Bool) → some_wait b.queues ≡ w → (o : Bool) → is_open code b.state.phase b.state.done ≡ o → buffered_completion code b ≡ buffered_completion code (record { state = cond w b.state (cond o b.state (next_of b.state)); queues = b.queues })
      at true ew o eo = refl
      at false ew true eo = refl
      at false ew false eo =
          ap (λ (r : List Event). r ++ buffered_phases code (phases_after code b.state.phase) (b.state.phase + 1)) (rest_over b.state.phase b.state.done b.queues (closed_over code is b.state.phase b.state.done eo) ew)
          ∙ (skipped (phases_after code b.state.phase) (b.state.phase + 1) (omega arith)
          ∙ ap (λ queues. buffered_completion code (record { state = next_of b.state; queues = queues })) (sym (none_waiting_is b.queues lines ew)))

  -- a turn is the first event where its processor is the first that is not idle, and has an action left
  pub completion_turn : (b : Buffered) (who : ℕ) (action : Action) → IsBusy code b →
      next_action code b.state who ≡ Some action → ((q : ℕ) → q < who → IsIdle code b q) →
      buffered_completion code b ≡ Turn who ∷ buffered_completion code (buffered_turn code b who)
  completion_turn b who action g e idle =
      let has = has_action code is b.state.phase who (slice_index b.state.done who) action e in
      let s1 : Buffered = buffered_acted code who action b in
      let phase : ℕ = b.state.phase in
      let queue : List Waiting = queue_of b.queues who in
      let registers : List ℕ = slice_index_or b.state.registers who [] in
      let done_is : slice_index s1.state.done who ≡ suc (slice_index b.state.done who) = get_or-set_same b.state.done who (suc (slice_index b.state.done who)) 0 (omega (arith, has.0, g.dones)) in
      let queue_is : queue_of s1.queues who ≡ queue ++ stored code.lanes action registers = get_or-set_same b.queues who (queue ++ stored code.lanes action registers) [] (omega (arith, has.0, g.lines)) in
      let left : List Action = drop (suc (slice_index b.state.done who)) (acts code phase who) in
      let before : events_of phase b.state.done b.queues who ≡ rest_of_processor (action ∷ left) (length queue) who = ap (λ (l : List Action). rest_of_processor l (length queue) who) (drop_at (acts code phase who) (slice_index b.state.done who) action e) in
      let after : events_of phase s1.state.done s1.queues who ≡ rest_of_processor left (length (queue ++ stored code.lanes action registers)) who =
      ap₂ (λ (d : ℕ) (ws : List Waiting). rest_of_processor (drop d (acts code phase who)) (length ws) who) done_is queue_is in
      let one : events_of phase b.state.done b.queues who ≡ Turn who ∷ events_of phase s1.state.done s1.queues who =
      before
      ∙ (ap (λ k. Turn who ∷ (replicate (length left) (Turn who) ++ replicate k (Drain who))) (sym (waiting_or_left code.lanes action registers left queue))
      ∙ ap (λ (xs : List Event). Turn who ∷ xs) (sym after)) in
      let first : buffered_rest code phase b.state.done b.queues ≡ Turn who ∷ buffered_rest code phase s1.state.done s1.queues =
      first_by (events_of phase b.state.done b.queues) (events_of phase s1.state.done s1.queues) (Turn who) who code.procs 0 (omega arith) (omega (arith, has.0))
      (λ q h. idle_none phase b.state.done b.queues q (idle q h).0 (idle q h).1)
      one
      (λ q ne. ap₂ (λ (d : ℕ) (ws : List Waiting). rest_of_processor (drop d (acts code phase q)) (length ws) q) (sym (get_or-set_other b.state.done who q (suc (slice_index b.state.done who)) 0 ne)) (sym (get_or-set_other b.queues who q (queue ++ stored code.lanes action registers) [] ne))) in
      ap (λ (r : List Event). r ++ buffered_phases code (phases_after code phase) (phase + 1)) first
      ∙ ap (λ (xs : List Event). Turn who ∷ xs) (after_move s1 has.1 (length-set b.queues who _ ∙ g.lines) ∙ ap (λ (o : Option Action). buffered_completion code (buffered_turn_with code who b o)) (sym e))

  -- a drain is the first event where its processor is the first that is not idle, and has no action left
  pub completion_drain : (b : Buffered) (who : ℕ) (w : Waiting) (queue : List Waiting) → IsBusy code b →
      who < code.procs → length (acts code b.state.phase who) ≤ slice_index b.state.done who →
      queue_of b.queues who ≡ w ∷ queue → ((q : ℕ) → q < who → IsIdle code b q) →
      buffered_completion code b ≡ Drain who ∷ buffered_completion code (drain code b who)
  completion_drain b who w queue g lt over e idle =
      let s1 : Buffered = written who w queue b in
      let phase : ℕ = b.state.phase in
      let none : drop (slice_index b.state.done who) (acts code phase who) ≡ [] = drop_over (acts code phase who) (slice_index b.state.done who) over in
      let before : events_of phase b.state.done b.queues who ≡ rest_of_processor [] (length (w ∷ queue)) who = ap₂ (λ (l : List Action) (ws : List Waiting). rest_of_processor l (length ws) who) none e in
      let after : events_of phase s1.state.done s1.queues who ≡ rest_of_processor [] (length queue) who = ap₂ (λ (l : List Action) (ws : List Waiting). rest_of_processor l (length ws) who) none (get_or-set_same b.queues who queue [] (omega (arith, g.lines))) in
      let first : buffered_rest code phase b.state.done b.queues ≡ Drain who ∷ buffered_rest code phase s1.state.done s1.queues =
      first_by (events_of phase b.state.done b.queues) (events_of phase s1.state.done s1.queues) (Drain who) who code.procs 0 (omega arith) (omega arith)
      (λ q h. idle_none phase b.state.done b.queues q (idle q h).0 (idle q h).1)
      (before ∙ (one_more (length queue) ∙ ap (λ (xs : List Event). Drain who ∷ xs) (sym after)))
      (λ q ne. ap (λ (ws : List Waiting). rest_of_processor (drop (slice_index b.state.done q) (acts code phase q)) (length ws) q) (sym (get_or-set_other b.queues who q queue [] ne))) in
      ap (λ (r : List Event). r ++ buffered_phases code (phases_after code phase) (phase + 1)) first
      ∙ ap (λ (xs : List Event). Drain who ∷ xs) (after_move s1 (waits_within b who w queue g e) (length-set b.queues who _ ∙ g.lines) ∙ ap (λ (o : List Waiting). buffered_completion code (drain_with code who b o)) (sym e))
    where
      one_more : (n : ℕ) → rest_of_processor [] (suc n) who ≡ Drain who ∷ rest_of_processor [] n who
      one_more n = let same : suc n + 0 ≡ suc (n + 0) = omega arith in ap (λ k. replicate k (Drain who)) same

  -- past all phases there is no event to complete
  pub completion_past : (b : Buffered) → IsBusy code b → length code.lists ≤ b.state.phase →
      buffered_completion code b ≡ []
  completion_past b g ge =
      let past : phases_after code b.state.phase ≡ 0 = omega arith in
      ap₂ (λ (r : List Event) k. r ++ buffered_phases code k (b.state.phase + 1)) (rest_over b.state.phase b.state.done b.queues (past_over code b.state.phase b.state.done ge) (g.past ge)) past

  -- The completion ends

  -- a processor's next event, if it has one
  HasNext : Buffered → ℕ → Type 0
  HasNext b q =
      ((a : Action) × (next_action code b.state q ≡ Some a))
      ⊎ ((length (acts code b.state.phase q) ≤ slice_index b.state.done q) × ((w : Waiting) × (queue : List Waiting) × (queue_of b.queues q ≡ w ∷ queue)))

  next_or_idle : (b : Buffered) (q : ℕ) → HasNext b q ⊎ IsIdle code b q
  unfolding HasNext
  next_or_idle b q = with_action (next_action code b.state q) refl
    where
      with_queue : length (acts code b.state.phase q) ≤ slice_index b.state.done q → (o : List Waiting) →
          queue_of b.queues q ≡ o → HasNext b q ⊎ IsIdle code b q
      with_queue le [] e = inr (le, e)
      with_queue le (w ∷ queue) e = inl (inr (le, (w, queue, e)))

      with_action : (o : Option Action) → next_action code b.state q ≡ o → HasNext b q ⊎ IsIdle code b q
      with_action (Some a) e = inl (inl (a, e))
      with_action None e = with_queue (none_left (acts code b.state.phase q) (slice_index b.state.done q) e) (queue_of b.queues q) refl

  first_or_idle : (b : Buffered) (n : ℕ) → ((who : ℕ) × (who < n) × HasNext b who
      × ((q : ℕ) → q < who → IsIdle code b q)) ⊎ ((q : ℕ) → q < n → IsIdle code b q)
  first_or_idle b zero = inr (λ q lt. absurd (omega arith))
  first_or_idle b (suc n) =
      ⊎_elim
      (λ (found : (who : ℕ) × (who < n) × HasNext b who × ((q : ℕ) → q < who → IsIdle code b q)). inl (found.0, omega (arith, found.1), found.2, found.3))
      (λ (idle : (q : ℕ) → q < n → IsIdle code b q). ⊎_elim
      (λ (next : HasNext b n). inl (n, omega arith, next, idle))
      (λ (none : IsIdle code b n). inr (λ q lt. ⊎_elim
      (λ (e : q ≡ n). subst (IsIdle code b) (sym e) none)
      (λ (ne : q ≡ n → ⊥). idle q (omega arith))
      (cases_eq q n)))
      (next_or_idle b n))
      (first_or_idle b n)

  -- where all are idle, all phases are past
  pub idle_past : (b : Buffered) → IsBusy code b → ((q : ℕ) → q < code.procs → IsIdle code b q) →
      length code.lists ≤ b.state.phase
  idle_past b g idle =
      ⊎_elim
      (λ (lt : b.state.phase < length code.lists).
      let none : some_wait b.queues ≡ false = all_empty b.queues (λ q h. (idle q (omega (arith, g.lines))).1) in
      let closed : is_open code b.state.phase b.state.done ≡ false = not_open code b.state.phase b.state.done (λ q h. le-ltb _ _ (idle q h).0) in
      absurd (false≢true (sym closed ∙ g.opens lt none)))
      (λ (ge : length code.lists ≤ b.state.phase). ge)
      (cases_lt b.state.phase (length code.lists))

  pub past_idle : (b : Buffered) → IsBusy code b → length code.lists ≤ b.state.phase → (q : ℕ) → IsIdle code b q
  past_idle b g ge q = ((past_over code b.state.phase b.state.done ge).each q, none_waits b.queues (g.past ge) q)

  -- where a phase is not past, some event is next
  pub next_event : (b : Buffered) → IsBusy code b → b.state.phase < length code.lists →
      (e : Event) × (buffered_completion code b ≡ e ∷ buffered_completion code (buffered_step code b e))
  unfolding HasNext
  next_event b g lt =
      ⊎_elim
      (λ (found : (who : ℕ) × (who < code.procs) × HasNext b who × ((q : ℕ) → q < who → IsIdle code b q)). ⊎_elim
      (λ (turn : (a : Action) × (next_action code b.state found.0 ≡ Some a)). (Turn found.0, completion_turn b found.0 turn.0 g turn.1 found.3))
      (λ (wait : (length (acts code b.state.phase found.0) ≤ slice_index b.state.done found.0) × ((w : Waiting) × (queue : List Waiting) × (queue_of b.queues found.0 ≡ w ∷ queue))).
      (Drain found.0, completion_drain b found.0 wait.1.0 wait.1.1 g found.1 wait.0 wait.1.2 found.3))
      found.2)
      (λ (idle : (q : ℕ) → q < code.procs → IsIdle code b q). absurd (omega (arith, idle_past b g idle)))
      (first_or_idle b code.procs)

  -- so the completion leaves every phase
  ends_at_once : (b : Buffered) → IsBusy code b → length code.lists ≤ b.state.phase →
      length code.lists ≤ (buffered_finished code b).state.phase
  ends_at_once b g ge = subst (λ (events : List Event). length code.lists ≤ (buffered_run code b events).state.phase) (sym (completion_past b g ge)) ge

  ends_after : (n : ℕ) (b : Buffered) → length (buffered_completion code b) ≡ n → IsBusy code b →
      length code.lists ≤ (buffered_finished code b).state.phase
  ends_after zero b size g =
      ⊎_elim
      (λ (lt : b.state.phase < length code.lists). let next = next_event b g lt in absurd (omega (arith, size, ap length next.1)))
      (ends_at_once b g)
      (cases_lt b.state.phase (length code.lists))
  ends_after (suc n) b size g =
      ⊎_elim
      (λ (lt : b.state.phase < length code.lists).
      let next = next_event b g lt in
      subst (λ (events : List Event). length code.lists ≤ (buffered_run code b events).state.phase) (sym next.1)
      (ends_after n (buffered_step code b next.0) (omega (arith, size, ap length next.1)) (busy_step b next.0 g)))
      (ends_at_once b g)
      (cases_lt b.state.phase (length code.lists))

  pub finished_ends : (b : Buffered) → IsBusy code b → length code.lists ≤ (buffered_finished code b).state.phase
  finished_ends b g = ends_after (length (buffered_completion code b)) b refl g
