-- Where no store waits, the events that finish the run leave what the turns alone leave.
use Rattle.std.proofs.Common.{◌≡◌, ◌≢◌, ℕ, zero, suc, ◌+◌, ◌<◌, ◌≤◌, ◌⊎◌, List, [], ◌∷◌, ◌++◌, Bool, true, false, cond}
use Rattle.std.proofs.Common.{length, Option, Some, None, refl, sym, ap, ◌∙◌, subst, arith, inl, inr, ⊎_elim}
use Rattle.std.proofs.Common.{get_or-set_same, get_or-set_other}
use Rattle.std.specs.Prelude.{slice_get, slice_index, slice_index_or, slice_set}
use Rattle.std.proofs.lemmas.Bool.{cases_eq, cases_lt, cases_Bool}
use Rattle.std.proofs.lemmas.Option.{slice_get_within}
use Rattle.icode.specs.declared.action.Action.{Action}
use Rattle.icode.specs.declared.event.Event.{Event}
use Rattle.icode.specs.declared.event.Event.TheVariants.{Turn, Drain}
use Rattle.icode.specs.Machine.{Code, IsCode, State, acts, is_open, next_action, first_open, phases_after, none_done}
use Rattle.icode.specs.Machine.{moved_on, acted, turn_with, turn, run, finished}
use Rattle.icode.specs.Buffers.{Waiting, Buffered, queue_of, some_wait, overlaid, stored, buffered_moved_on}
use Rattle.icode.specs.Buffers.{buffered_acted, buffered_turn_with, buffered_turn, written, drain_with, drain}
use Rattle.icode.specs.Buffers.{buffered_step, buffered_run, buffered_completion, buffered_finished, IsBusy, IsIdle}
use Rattle.icode.proofs.BufferedCompletion.{busy_step, completion_turn, completion_drain, completion_past, idle_past}
use Rattle.icode.proofs.BufferedCompletion.{next_event}
use Rattle.icode.proofs.Completion.{completion_step, completion_past as turns_past}
use Rattle.icode.proofs.Runs.{open_at, has_action}
use Rattle.icode.proofs.Waiting.{none_waits, one_waits, all_empty, overlaid-after, queue_inside}

pub some_action : (xs : List Action) (i : ℕ) → i < length xs → (a : Action) × (slice_get xs i ≡ Some a)
some_action [] i lt = absurd (omega arith)
some_action (x ∷ xs) zero lt = (x, refl)
some_action (x ∷ xs) (suc i) lt = some_action xs i (omega arith)

some_store : (queue : List Waiting) → (queue ≡ []) ⊎ ((w : Waiting) × (rest : List Waiting) × (queue ≡ w ∷ rest))
some_store [] = inl refl
some_store (w ∷ rest) = inr (w, rest, refl)

-- the state without queues once processor q's stores are written
abbrev seen_state : Buffered → ℕ → State
seen_state b q =
    record {
      memory = overlaid b.state.memory (queue_of b.queues q);
      registers = b.state.registers;
      phase = b.state.phase;
      done = b.state.done;
    }

-- no other processor's store waits, and none before has anything left to do in the phase
record IsAlone (code : Code) (b : Buffered) (q : ℕ) : Type 0 where
  before : (k : ℕ) → k < q → IsIdle code b k
  others : (k : ℕ) → k ≢ q → queue_of b.queues k ≡ []

module _ (code : Code) (is : IsCode code) where
  -- the state that it comes to by turns alone
  abbrev worth : Buffered → ℕ → State
  worth b q = cond (some_wait b.queues) (moved_on code (seen_state b q)) b.state

  abbrev HasTurn : Buffered → ℕ → Type 0
  HasTurn b q = (a : Action) × (next_action code b.state q ≡ Some a)

  abbrev HasDrain : Buffered → ℕ → Type 0
  HasDrain b q = (length (acts code b.state.phase q) ≤ slice_index b.state.done q) × ((w : Waiting) × (rest : List Waiting) × (queue_of b.queues q ≡ w ∷ rest))

  next_or_idle : (b : Buffered) (q : ℕ) → IsIdle code b q ⊎ (HasTurn b q ⊎ HasDrain b q)
  next_or_idle b q =
      ⊎_elim
      (λ (lt : slice_index b.state.done q < length (acts code b.state.phase q)).
      let found = some_action (acts code b.state.phase q) (slice_index b.state.done q) lt in
      inr (inl (found.0, found.1)))
      (λ (over : length (acts code b.state.phase q) ≤ slice_index b.state.done q). ⊎_elim
      (λ (none : queue_of b.queues q ≡ []). inl (over, none))
      (λ (wait : (w : Waiting) × (rest : List Waiting) × (queue_of b.queues q ≡ w ∷ rest)). inr (inr (over, wait)))
      (some_store (queue_of b.queues q)))
      (cases_lt (slice_index b.state.done q) (length (acts code b.state.phase q)))

  -- the first processor that has something left to do
  record IsFirst (b : Buffered) (q : ℕ) : Type 0 where
    inside : q < code.procs
    before : (k : ℕ) → k < q → IsIdle code b k
    has : HasTurn b q ⊎ HasDrain b q

  first_or_idle : (b : Buffered) (n : ℕ) → n ≤ code.procs → ((q : ℕ) × IsFirst b q)
      ⊎ ((k : ℕ) → k < n → IsIdle code b k)
  first_or_idle b zero le = inr (λ k lt. absurd (omega arith))
  first_or_idle b (suc n) le =
      ⊎_elim
      (λ (found : (q : ℕ) × IsFirst b q). inl found)
      (λ (idle : (k : ℕ) → k < n → IsIdle code b k). ⊎_elim
      (λ (this : IsIdle code b n). inr (λ k lt. ⊎_elim
      (λ (e : k ≡ n). subst (IsIdle code b) (sym e) this)
      (λ (ne : k ≡ n → ⊥). idle k (omega arith))
      (cases_eq k n)))
      (λ (has : HasTurn b n ⊎ HasDrain b n). inl (n, record { inside = omega arith; before = idle; has = has }))
      (next_or_idle b n))
      (first_or_idle b n (omega arith))

  not_idle : (b : Buffered) (q : ℕ) → HasTurn b q ⊎ HasDrain b q → IsIdle code b q → ⊥
  not_idle b q has idle =
      ⊎_elim
      (λ (t : HasTurn b q). omega (arith, idle.0, slice_get_within (acts code b.state.phase q) (slice_index b.state.done q) t.0 t.1))
      (λ (d : HasDrain b q). let e : [] ≡ d.1.0 ∷ d.1.1 = sym idle.1 ∙ d.1.2 in cc)
      has

  -- it is the one whose stores wait, if any do
  record IsShifted (b : Buffered) (q p : ℕ) : Type 0 where
    alone : IsAlone code b p
    same : worth b q ≡ worth b p

  shifted : (b : Buffered) (q p : ℕ) → IsAlone code b q → IsFirst b p → IsShifted b q p
  shifted b q p h f =
      ⊎_elim
      (λ (e : p ≡ q). subst (IsShifted b q) (sym e) (record { alone = h; same = refl }))
      (λ (ne : p ≡ q → ⊥).
      let later : q < p = ⊎_elim
      (λ (lt : q < p). lt)
      (λ (le : p ≤ q). absurd (not_idle b p f.has (h.before p (omega arith))))
      (cases_lt q p) in
      let empty : (k : ℕ) → queue_of b.queues k ≡ [] = λ k. ⊎_elim
      (λ (e : k ≡ q). ap (queue_of b.queues) e ∙ (f.before q later).1)
      (λ (ne : k ≡ q → ⊥). h.others k ne)
      (cases_eq k q) in
      let none : some_wait b.queues ≡ false = all_empty b.queues (λ k lt. empty k) in
      record {
        alone = record { before = f.before; others = λ k ne. empty k };
        same = ap (λ c. cond c (moved_on code (seen_state b q)) b.state) none ∙ sym (ap (λ c. cond c (moved_on code (seen_state b p)) b.state) none);
      })
      (cases_eq p q)

  seen_where_none : (b : Buffered) (q : ℕ) → queue_of b.queues q ≡ [] → seen_state b q ≡ b.state
  seen_where_none b q e = ap (λ (ws : List Waiting). record { memory = overlaid b.state.memory ws; registers = b.state.registers; phase = b.state.phase; done = b.state.done }) e

  -- the phase moves on, or waits for stores
  record IsWorth (t : Buffered) (s : State) : Type 0 where
    one : ℕ
    alone : IsAlone code t one
    same : worth t one ≡ s

  moved_worth : (b : Buffered) (q : ℕ) → IsAlone code b q → IsWorth (buffered_moved_on code b)
      (moved_on code (seen_state b q))
  moved_worth b q h = at (some_wait b.queues) refl
    where
      at : (c : Bool) → some_wait b.queues ≡ c → IsWorth (record { state = cond c b.state (moved_on code b.state); queues = b.queues }) (moved_on code (seen_state b q))
      at true e = record {
        one = q;
        alone = record { before = h.before; others = h.others };
        same = ap (λ c. cond c (moved_on code (seen_state b q)) b.state) e;
      }
      at false e = record {
        one = 0;
        alone = record { before = λ k lt. absurd (omega arith); others = λ k ne. none_waits b.queues e k };
        same = ap (λ c. cond c (moved_on code (record { memory = overlaid (moved_on code b.state).memory (queue_of b.queues 0); registers = (moved_on code b.state).registers; phase = (moved_on code b.state).phase; done = (moved_on code b.state).done })) (moved_on code b.state)) e
            ∙ ap (moved_on code) (sym (seen_where_none b q (none_waits b.queues e q)));
      }

  -- a turn of the first processor
  acted_seen : (b : Buffered) (q : ℕ) (a : Action) → q < length b.queues →
      seen_state (buffered_acted code q a b) q ≡ acted code q a (seen_state b q)
  acted_seen b q a lt =
      let queue : List Waiting = queue_of b.queues q in
      let file : List ℕ = slice_index_or b.state.registers q [] in
      let after : List (List ℕ) = (acted code q a (seen_state b q)).registers in
      let done : List ℕ = slice_set b.state.done q (suc (slice_index b.state.done q)) in
      ap (λ (m : List ℕ). record { memory = m; registers = after; phase = b.state.phase; done = done })
      (ap (overlaid b.state.memory) (get_or-set_same b.queues q (queue ++ stored code.lanes a file) [] lt) ∙ overlaid-after code.lanes a queue b.state.memory file)

  acted_alone : (b : Buffered) (q : ℕ) (a : Action) → IsAlone code b q → IsAlone code (buffered_acted code q a b) q
  acted_alone b q a h =
      let more : List Waiting = queue_of b.queues q ++ stored code.lanes a (slice_index_or b.state.registers q []) in
      record {
        before = λ k lt. let ne : k ≢ q = λ e. omega (arith, e) in
            (omega (arith, (h.before k lt).0, get_or-set_other b.state.done q k (suc (slice_index b.state.done q)) 0 ne), get_or-set_other b.queues q k more [] ne ∙ (h.before k lt).1);
        others = λ k ne. get_or-set_other b.queues q k more [] ne ∙ h.others k ne;
      }

  open_worth : (b : Buffered) (q : ℕ) (a : Action) → q < code.procs → next_action code b.state q ≡ Some a →
      worth b q ≡ seen_state b q
  open_worth b q a lt e =
      let opened : is_open code b.state.phase b.state.done ≡ true = open_at code b.state.phase b.state.done q lt (slice_get_within (acts code b.state.phase q) (slice_index b.state.done q) a e) in
      let s : State = seen_state b q in
      let stays : moved_on code s ≡ s = ap (λ c. cond c s (record { memory = s.memory; registers = s.registers; phase = first_open code (phases_after code s.phase) (s.phase + 1); done = none_done code })) opened in
      ⊎_elim
      (λ (w : some_wait b.queues ≡ true). ap (λ c. cond c (moved_on code s) b.state) w ∙ stays)
      (λ (w : some_wait b.queues ≡ false). ap (λ c. cond c (moved_on code s) b.state) w ∙ sym (seen_where_none b q (none_waits b.queues w q)))
      (cases_Bool (some_wait b.queues))

  turn_worth : (b : Buffered) (q : ℕ) (a : Action) → IsBusy code b → q < code.procs →
      next_action code b.state q ≡ Some a → IsAlone code b q →
      IsWorth (buffered_turn code b q) (turn code (seen_state b q) q)
  turn_worth b q a busy lt e h =
      let b1 : Buffered = buffered_acted code q a b in
      let goes : buffered_turn code b q ≡ buffered_moved_on code b1 = ap (buffered_turn_with code q b) e in
      let does : turn code (seen_state b q) q ≡ moved_on code (acted code q a (seen_state b q)) = ap (turn_with code q (seen_state b q)) e in
      let same : moved_on code (seen_state b1 q) ≡ turn code (seen_state b q) q = ap (moved_on code) (acted_seen b q a (omega (arith, busy.lines))) ∙ sym does in
      subst (λ (t : Buffered). IsWorth t (turn code (seen_state b q) q)) (sym goes)
      (subst (IsWorth (buffered_moved_on code b1)) same (moved_worth b1 q (acted_alone b q a h)))

  -- its drain
  drain_worth : (b : Buffered) (q : ℕ) (w : Waiting) (rest : List Waiting) → queue_of b.queues q ≡ w ∷ rest →
      IsAlone code b q → IsWorth (drain code b q) (worth b q)
  drain_worth b q w rest e h =
      let b1 : Buffered = written q w rest b in
      let goes : drain code b q ≡ buffered_moved_on code b1 = ap (drain_with code q b) e in
      let empty : queue_of b1.queues q ≡ rest = get_or-set_same b.queues q rest [] (queue_inside b.queues q w rest e) in
      let seen : seen_state b1 q ≡ seen_state b q =
      ap (λ (m : List ℕ). record { memory = m; registers = b.state.registers; phase = b.state.phase; done = b.state.done })
      (ap (overlaid b1.state.memory) empty ∙ sym (ap (overlaid b.state.memory) e)) in
      let is_worth : worth b q ≡ moved_on code (seen_state b q) = ap (λ c. cond c (moved_on code (seen_state b q)) b.state) (one_waits b.queues q w rest e) in
      let alone : IsAlone code b1 q = record {
        before = λ k lt. let ne : k ≢ q = λ e. omega (arith, e) in ((h.before k lt).0, get_or-set_other b.queues q k rest [] ne ∙ (h.before k lt).1);
        others = λ k ne. get_or-set_other b.queues q k rest [] ne ∙ h.others k ne;
      } in
      subst (λ (t : Buffered). IsWorth t (worth b q)) (sym goes)
      (subst (IsWorth (buffered_moved_on code b1)) (ap (moved_on code) seen ∙ sym is_worth) (moved_worth b1 q alone))

  -- whole runs
  past_same : (b : Buffered) (q : ℕ) → IsBusy code b → length code.lists ≤ b.state.phase →
      (buffered_finished code b).state ≡ finished code (worth b q)
  past_same b q busy ge =
      ap (λ (es : List Event). (buffered_run code b es).state) (completion_past code is b busy ge)
      ∙ (sym (ap (run code b.state) (turns_past code is b.state ge))
      ∙ ap (finished code) (sym (ap (λ c. cond c (moved_on code (seen_state b q)) b.state) (busy.past ge))))

  abbrev Finishes : ℕ → Type 0
  Finishes n = (b : Buffered) (q : ℕ) → length (buffered_completion code b) ≤ n → IsBusy code b → IsAlone code b q → (buffered_finished code b).state ≡ finished code (worth b q)

  stepped : (n : ℕ) → Finishes n → (b : Buffered) (e : Event) (s : State) →
      length (buffered_completion code b) ≤ suc n → IsBusy code b →
      buffered_completion code b ≡ e ∷ buffered_completion code (buffered_step code b e) →
      IsWorth (buffered_step code b e) s → (buffered_finished code b).state ≡ finished code s
  stepped n all b e s most busy first w =
      ap (λ (es : List Event). (buffered_run code b es).state) first
      ∙ (all (buffered_step code b e) w.one (omega (arith, most, ap length first)) (busy_step code is b e busy) w.alone
      ∙ ap (finished code) w.same)

  from_first : (n : ℕ) → Finishes n → (b : Buffered) (q p : ℕ) → length (buffered_completion code b) ≤ suc n →
      IsBusy code b → IsFirst b p → IsShifted b q p → (buffered_finished code b).state ≡ finished code (worth b q)
  from_first n all b q p most busy f sh =
      ⊎_elim
      (λ (t : HasTurn b p).
      let here = has_action code is b.state.phase p (slice_index b.state.done p) t.0 t.1 in
      let s : State = seen_state b p in
      stepped n all b (Turn p) (turn code s p) most busy (completion_turn code is b p t.0 busy t.1 f.before) (turn_worth b p t.0 busy f.inside t.1 sh.alone)
      ∙ (sym (ap (run code s) (completion_step code is s p t.0 busy.dones f.inside here.1 t.1 (λ k lt. (f.before k lt).0)))
      ∙ ap (finished code) (sym (sh.same ∙ open_worth b p t.0 f.inside t.1))))
      (λ (d : HasDrain b p).
      stepped n all b (Drain p) (worth b p) most busy (completion_drain code is b p d.1.0 d.1.1 busy f.inside d.0 d.1.2 f.before) (drain_worth b p d.1.0 d.1.1 d.1.2 sh.alone)
      ∙ ap (finished code) (sym sh.same))
      f.has

  worth_finished : (n : ℕ) → Finishes n
  worth_finished zero b q most busy h =
      ⊎_elim
      (λ (here : b.state.phase < length code.lists). let next = next_event code is b busy here in absurd (omega (arith, most, ap length next.1)))
      (λ (ge : length code.lists ≤ b.state.phase). past_same b q busy ge)
      (cases_lt b.state.phase (length code.lists))
  worth_finished (suc n) b q most busy h =
      ⊎_elim
      (λ (here : b.state.phase < length code.lists). ⊎_elim
      (λ (found : (p : ℕ) × IsFirst b p). from_first n (worth_finished n) b q found.0 most busy found.1 (shifted b q found.0 h found.1))
      (λ (idle : (k : ℕ) → k < code.procs → IsIdle code b k). absurd (omega (arith, idle_past code is b busy idle)))
      (first_or_idle b code.procs (omega arith)))
      (λ (ge : length code.lists ≤ b.state.phase). past_same b q busy ge)
      (cases_lt b.state.phase (length code.lists))

  pub finished_directly : (b : Buffered) → IsBusy code b → some_wait b.queues ≡ false →
      (buffered_finished code b).state ≡ finished code b.state
  finished_directly b busy none =
      worth_finished (length (buffered_completion code b)) b 0 (omega arith) busy
      (record { before = λ k lt. absurd (omega arith); others = λ k ne. none_waits b.queues none k })
      ∙ ap (λ c. finished code (cond c (moved_on code (seen_state b 0)) b.state)) none

  -- nothing is done of the phase after the last one
  moved_past : (b : Buffered) → b.state.phase < length code.lists →
      length code.lists ≤ (buffered_moved_on code b).state.phase →
      (buffered_moved_on code b).state.done ≡ none_done code
  moved_past b lt ge = at (some_wait b.queues) (is_open code b.state.phase b.state.done) ge
    where
      next : State
      next = record { memory = b.state.memory; registers = b.state.registers; phase = first_open code (phases_after code b.state.phase) (b.state.phase + 1); done = none_done code }

      at : (w o : Bool) → length code.lists ≤ (cond w b.state (cond o b.state next)).phase →
          (cond w b.state (cond o b.state next)).done ≡ none_done code
      at true o ge = absurd (omega arith)
      at false true ge = absurd (omega arith)
      at false false ge = refl

  step_past : (b : Buffered) (e : Event) → IsBusy code b → b.state.phase < length code.lists →
      length code.lists ≤ (buffered_step code b e).state.phase → (buffered_step code b e).state.done ≡ none_done code
  step_past b (Turn q) busy lt ge = at (next_action code b.state q) ge
    where
      at : (o : Option Action) → length code.lists ≤ (buffered_turn_with code q b o).state.phase →
          (buffered_turn_with code q b o).state.done ≡ none_done code
      at None ge = absurd (omega arith)
      at (Some a) ge = moved_past (buffered_acted code q a b) lt ge
  step_past b (Drain q) busy lt ge = at (queue_of b.queues q) ge
    where
      at : (ws : List Waiting) → length code.lists ≤ (drain_with code q b ws).state.phase →
          (drain_with code q b ws).state.done ≡ none_done code
      at [] ge = absurd (omega arith)
      at (w ∷ rest) ge = moved_past (written q w rest b) lt ge

  none_after : (n : ℕ) (b : Buffered) → length (buffered_completion code b) ≤ n → IsBusy code b →
      b.state.phase < length code.lists → (buffered_finished code b).state.done ≡ none_done code
  none_after zero b most busy lt = let next = next_event code is b busy lt in absurd (omega (arith, ap length next.1))
  none_after (suc n) b most busy lt =
      let next = next_event code is b busy lt in
      let t : Buffered = buffered_step code b next.0 in
      let tb = busy_step code is b next.0 busy in
      ap (λ (es : List Event). (buffered_run code b es).state.done) next.1
      ∙ ⊎_elim
      (λ (here : t.state.phase < length code.lists). none_after n t (omega (arith, ap length next.1)) tb here)
      (λ (ge : length code.lists ≤ t.state.phase).
      ap (λ (es : List Event). (buffered_run code t es).state.done) (completion_past code is t tb ge) ∙ step_past b next.0 busy lt ge)
      (cases_lt t.state.phase (length code.lists))

  pub finished_none_done : (b : Buffered) → IsBusy code b → b.state.phase < length code.lists →
      (buffered_finished code b).state.done ≡ none_done code
  finished_none_done b busy lt = none_after (length (buffered_completion code b)) b (omega arith) busy lt
