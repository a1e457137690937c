-- With store buffers, too, runs among leftovers end as one processor after another does.
use Rattle.std.proofs.Common.{◌≡◌, ℕ, zero, suc, ◌-◌, ◌<◌, ◌≤◌, ◌++◌, List, [], ◌∷◌, Bool, true, false, cond, length}
use Rattle.std.proofs.Common.{Option, Some, None, refl, sym, ap, ◌∙◌, subst, arith, ⊎_elim}
use Rattle.std.specs.Prelude.{slice_index}
use Rattle.std.proofs.lemmas.Bool.{cases_eq, cases_lt}
use Rattle.std.proofs.lemmas.List.{length-replicate}
use Rattle.icode.specs.declared.action.Action.{Action}
use Rattle.icode.specs.declared.event.Event.{Event}
use Rattle.icode.specs.declared.event.Event.TheVariants.{Turn, Drain}
use Rattle.icode.specs.Buffers.{Waiting, Buffered, queue_of, some_wait, none_waiting, buffered_moved_on}
use Rattle.icode.specs.Buffers.{buffered_acted, buffered_completion}
use Rattle.icode.specs.Buffers.{buffered_step, buffered_turn_with, written, drain_with, IsBusy}
use Rattle.icode.specs.BuffersAmong.{buffered_step_among, buffered_run_among, buffered_among, HasEnded}
use Rattle.icode.specs.BuffersAmong.{BuffersAmongEnd, BuffersAmongInOrder, FreshBuffersIgnoreLeftovers}
use Rattle.icode.specs.Leftovers.{Leftovers, phases_among, start_among, with_files}
use Rattle.icode.specs.Machine.{Code, IsCode, IsApart, State, moved_on, next_action, padded, words_at}
use Rattle.icode.proofs.Buffered.{IsBuffered, IsBuffered-acted, IsBuffered-drained, followed_from_buffered}
use Rattle.icode.proofs.Buffered.{buffered_from_followed}
use Rattle.icode.proofs.BufferedCompletion.{busy_step, completion_past, next_event, none_waiting-none, starts_busy}
use Rattle.icode.proofs.BufferedCompletion.{waits_within}
use Rattle.icode.proofs.FreshCodes.{fresh_ignores_leftovers}
use Rattle.icode.proofs.Leftovers.{IsOnTheWay, at_end, filled_past, filled_same, memory_of_runs_among}
use Rattle.icode.proofs.Leftovers.{moved_on_the_way}
use Rattle.icode.proofs.Leftovers.{starts_on_the_way}
use Rattle.icode.proofs.Open.{has_action}
use Rattle.icode.proofs.Waiting.{queue_inside}

abbrev with_queues : State → List (List Waiting) → Buffered
with_queues s queues = record { state = s; queues = queues }

module _ (code : Code) (is : IsCode code) (left : Leftovers) where
  -- registers that are left over change no queue
  busy_among : (phase : ℕ) (b : Buffered) → IsBusy code b → IsBusy code
      (with_queues (with_files left phase b.state) b.queues)
  busy_among phase b busy =
      ⊎_elim
      (λ (same : phase ≡ b.state.phase).
      subst (λ (s : State). IsBusy code (with_queues s b.queues))
      (sym (filled_same code is left phase b.state same)) busy)
      (λ (other : phase ≡ b.state.phase → ⊥).
      subst (λ (s : State). IsBusy code (with_queues s b.queues)) (sym (filled_past code is left phase b.state other))
      (record { dones = busy.dones; lines = busy.lines; within = busy.within; opens = busy.opens; past = busy.past }))
      (cases_eq phase b.state.phase)

  starts_busy_among : (x : List ℕ) → IsBusy code (with_queues (start_among code left x) (none_waiting code))
  starts_busy_among x =
      let begun = starts_busy code is x in
      record {
        dones = begun.dones;
        lines = begun.lines;
        within = begun.within;
        opens = begun.opens;
        past = begun.past;
      }

  step_busy : (b : Buffered) (e : Event) → IsBusy code b → IsBusy code (buffered_step_among code left b e)
  step_busy b e busy = busy_among b.state.phase (buffered_step code b e) (busy_step code is b e busy)

  run_busy : (events : List Event) (b : Buffered) → IsBusy code b → IsBusy code (buffered_run_among code left b events)
  run_busy [] b busy = busy
  run_busy (e ∷ events) b busy = run_busy events (buffered_step_among code left b e) (step_busy b e busy)

  -- ---- the completion

  -- nor do they change the completion
  completion_among : (phase : ℕ) (b : Buffered) →
      buffered_completion code (with_queues (with_files left phase b.state) b.queues) ≡ buffered_completion code b
  completion_among phase b =
      ⊎_elim
      (λ (same : phase ≡ b.state.phase).
      ap (λ (s : State). buffered_completion code (with_queues s b.queues))
      (filled_same code is left phase b.state same))
      (λ (other : phase ≡ b.state.phase → ⊥).
      ap (λ (s : State). buffered_completion code (with_queues s b.queues))
      (filled_past code is left phase b.state other))
      (cases_eq phase b.state.phase)

  past_ends : (b : Buffered) → IsBusy code b → length code.lists ≤ b.state.phase →
      HasEnded code (buffered_run_among code left b (buffered_completion code b))
  past_ends b busy ge =
      subst (λ (events : List Event). HasEnded code (buffered_run_among code left b events))
      (sym (completion_past code is b busy ge)) ge

  ends_among : (n : ℕ) (b : Buffered) → length (buffered_completion code b) ≡ n → IsBusy code b →
      HasEnded code (buffered_run_among code left b (buffered_completion code b))
  ends_among zero b size busy =
      ⊎_elim
      (λ (lt : b.state.phase < length code.lists).
      let next = next_event code is b busy lt in absurd (omega (arith, size, ap length next.1)))
      (past_ends b busy)
      (cases_lt b.state.phase (length code.lists))
  ends_among (suc n) b size busy =
      ⊎_elim
      (λ (lt : b.state.phase < length code.lists).
      let next = next_event code is b busy lt in
      let first : buffered_completion code b
      ≡ next.0 ∷ buffered_completion code (buffered_step_among code left b next.0) =
      next.1
      ∙ ap (λ (events : List Event). next.0 ∷ events)
      (sym (completion_among b.state.phase (buffered_step code b next.0))) in
      subst (λ (events : List Event). HasEnded code (buffered_run_among code left b events)) (sym first)
      (ends_among n (buffered_step_among code left b next.0) (omega (arith, size, ap length first))
      (step_busy b next.0 busy)))
      (past_ends b busy)
      (cases_lt b.state.phase (length code.lists))

run_append : (code : Code) (left : Leftovers) (b : Buffered) (first more : List Event) →
    buffered_run_among code left b (first ++ more)
    ≡ buffered_run_among code left (buffered_run_among code left b first) more
run_append code left b [] more = refl
run_append code left b (e ∷ first) more = run_append code left (buffered_step_among code left b e) first more

pub buffers_among_end : BuffersAmongEnd
buffers_among_end code left is x events =
    let begun : Buffered = with_queues (start_among code left x) (none_waiting code) in
    let b : Buffered = buffered_among code left x events in
    subst (λ (last : Buffered). HasEnded code last)
    (sym (run_append code left begun events (buffered_completion code b)))
    (ends_among code is left (length (buffered_completion code b)) b refl
    (run_busy code is left events begun (starts_busy_among code is left x)))

module _ (code : Code) (is : IsCode code) (apart : (phase : ℕ) → IsApart code phase) (left : Leftovers)
    (files : (phase : ℕ) → length (left.files phase) ≡ code.procs) where
  -- the phase began with `base` in memory, and the phases from this one on lead from there to the result
  record IsComing (result : List ℕ) (b : Buffered) : Type 0 where
    base : List ℕ
    follows : IsBuffered code b.state.phase base (left.files b.state.phase) b.state.memory b.state.registers
        b.state.done b.queues
    within : b.state.phase ≤ length code.lists
    leads : phases_among code left (length code.lists - b.state.phase) b.state.phase base ≡ result

  on_the_way : (result : List ℕ) (b : Buffered) → some_wait b.queues ≡ false → IsComing result b →
      IsOnTheWay code is apart left files result b.state
  on_the_way result b none g =
      record {
        base = g.base;
        follows = followed_from_buffered code b.state.phase g.base (left.files b.state.phase) b.state.memory
            b.state.registers b.state.done b.queues none g.follows;
        within = g.within;
        leads = g.leads;
      }

  coming : (result : List ℕ) (b : Buffered) → some_wait b.queues ≡ false → length b.queues ≡ code.procs →
      IsOnTheWay code is apart left files result b.state → IsComing result b
  coming result b none lines g =
      record {
        base = g.base;
        follows = buffered_from_followed code b.state.phase g.base (left.files b.state.phase) b.state.memory
            b.state.registers b.state.done b.queues none lines g.follows;
        within = g.within;
        leads = g.leads;
      }

  coming_moved : (result : List ℕ) (b : Buffered) → b.state.phase < length code.lists → IsComing result b →
      (let next = buffered_moved_on code b in
      IsComing result (with_queues (with_files left b.state.phase next.state) next.queues))
  coming_moved result b lt g = at (some_wait b.queues) refl
    where
      at : (w : Bool) → some_wait b.queues ≡ w →
          IsComing result (with_queues (with_files left b.state.phase (cond w b.state (moved_on code b.state)))
          b.queues)
      at true e =
          subst (λ (s : State). IsComing result (with_queues s b.queues))
          (sym (filled_same code is left b.state.phase b.state refl)) g
      at false e =
          coming result (with_queues (with_files left b.state.phase (moved_on code b.state)) b.queues) e
          g.follows.lines
          (moved_on_the_way code is apart left files result b.state lt (on_the_way result b e g))

  coming_turn : (result : List ℕ) (b : Buffered) (q : ℕ) → IsComing result b →
      IsComing result (buffered_step_among code left b (Turn q))
  coming_turn result b q g = with_action (next_action code b.state q) refl
    where
      with_action : (o : Option Action) → next_action code b.state q ≡ o →
          (let next = buffered_turn_with code q b o in
          IsComing result (with_queues (with_files left b.state.phase next.state) next.queues))
      with_action None e =
          subst (λ (s : State). IsComing result (with_queues s b.queues))
          (sym (filled_same code is left b.state.phase b.state refl)) g
      with_action (Some a) e =
          let has = has_action code is b.state.phase q (slice_index b.state.done q) a e in
          coming_moved result (buffered_acted code q a b) has.1
          (record {
            base = g.base;
            within = g.within;
            leads = g.leads;
            follows = IsBuffered-acted code b.state.phase g.base (left.files b.state.phase) b.state.memory
                b.state.registers b.state.done b.queues q a has.0 e g.follows;
          })

  coming_drain : (result : List ℕ) (b : Buffered) (q : ℕ) → IsBusy code b → IsComing result b →
      IsComing result (buffered_step_among code left b (Drain q))
  coming_drain result b q busy g = with_queue (queue_of b.queues q) refl
    where
      with_queue : (o : List Waiting) → queue_of b.queues q ≡ o →
          (let next = drain_with code q b o in
          IsComing result (with_queues (with_files left b.state.phase next.state) next.queues))
      with_queue [] e =
          subst (λ (s : State). IsComing result (with_queues s b.queues))
          (sym (filled_same code is left b.state.phase b.state refl)) g
      with_queue (w ∷ queue) e =
          coming_moved result (written q w queue b) (waits_within code is b q w queue busy e)
          (record {
            base = g.base;
            within = g.within;
            leads = g.leads;
            follows = IsBuffered-drained code b.state.phase g.base (left.files b.state.phase) b.state.memory
                b.state.registers b.state.done b.queues q w queue (apart b.state.phase)
                (omega (arith, queue_inside b.queues q w queue e, g.follows.lines)) e g.follows;
          })

  record IsGoingOn (result : List ℕ) (b : Buffered) : Type 0 where
    busy : IsBusy code b
    coming : IsComing result b

  step_goes_on : (result : List ℕ) (b : Buffered) (e : Event) → IsGoingOn result b →
      IsGoingOn result (buffered_step_among code left b e)
  step_goes_on result b e g =
      record {
        busy = step_busy code is left b e g.busy;
        coming = by e;
      }
    where
      by : (e : Event) → IsComing result (buffered_step_among code left b e)
      by (Turn q) = coming_turn result b q g.coming
      by (Drain q) = coming_drain result b q g.busy g.coming

  run_goes_on : (result : List ℕ) (events : List Event) (b : Buffered) → IsGoingOn result b →
      IsGoingOn result (buffered_run_among code left b events)
  run_goes_on result [] b g = g
  run_goes_on result (e ∷ events) b g =
      run_goes_on result events (buffered_step_among code left b e) (step_goes_on result b e g)

  starts_going : (x : List ℕ) →
      IsGoingOn (phases_among code left (length code.lists) 0 (x ++ left.words))
      (with_queues (start_among code left x) (none_waiting code))
  starts_going x =
      record {
        busy = starts_busy_among code is left x;
        coming = coming (phases_among code left (length code.lists) 0 (x ++ left.words))
            (with_queues (start_among code left x) (none_waiting code))
            (none_waiting-none code is) (length-replicate code.procs [])
            (starts_on_the_way code is apart left files x);
      }

  buffers_in_order : (x : List ℕ) (events : List Event) → HasEnded code (buffered_among code left x events) →
      (buffered_among code left x events).state.memory ≡ phases_among code left (length code.lists) 0 (x ++ left.words)
  buffers_in_order x events ended =
      let result : List ℕ = phases_among code left (length code.lists) 0 (x ++ left.words) in
      let b : Buffered = buffered_among code left x events in
      let g = run_goes_on result events (with_queues (start_among code left x) (none_waiting code)) (starts_going x) in
      at_end code is apart left files result b.state ended (on_the_way result b (g.busy.past ended) g.coming)

pub memory_of_buffers_among : BuffersAmongInOrder
memory_of_buffers_among code left is apart files x events ended = buffers_in_order code is apart left files x events
    ended

pub fresh_buffers_ignore_leftovers : FreshBuffersIgnoreLeftovers
fresh_buffers_ignore_leftovers code left is factors fresh apart are x turns events size ended =
    ap (λ memory. words_at code.size memory (padded code))
    (memory_of_buffers_among code left is apart are.procs x events ended
    ∙ sym (memory_of_runs_among code left is apart are.procs x turns))
    ∙ fresh_ignores_leftovers code left is factors fresh are x turns size
