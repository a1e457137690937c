-- Whole runs with store buffers: every list of turns and drains, completed, ends as one processor after another does.
use Rattle.std.proofs.Common.{◌≡◌, ℕ, ◌-◌, ◌<◌, ◌≤◌, List, [], ◌∷◌, Bool, true, false, cond, length, Option}
use Rattle.std.proofs.Common.{Some, None, refl, arith}
use Rattle.std.specs.Prelude.{slice_index}
use Rattle.std.proofs.lemmas.List.{length-replicate}
use Rattle.icode.specs.declared.action.Action.{Action}
use Rattle.icode.specs.declared.event.Event.{Event}
use Rattle.icode.specs.declared.event.Event.TheVariants.{Turn, Drain}
use Rattle.icode.specs.Machine.{Code, IsCode, Whole, IsApart, next_action, moved_on, phases_alone, in_order}
use Rattle.icode.specs.Buffers.{Waiting, Buffered, queue_of, some_wait, buffered_moved_on, buffered_acted}
use Rattle.icode.specs.Buffers.{buffered_turn_with, buffered_turn, written, drain_with, drain}
use Rattle.icode.specs.Buffers.{buffered_run, buffered_start, buffered_completion, buffered_finished}
use Rattle.icode.specs.Buffers.{buffered_runs, IsBusy}
use Rattle.icode.proofs.Buffered.{IsBuffered, IsBuffered-acted, IsBuffered-drained, followed_from_buffered}
use Rattle.icode.proofs.Buffered.{buffered_from_followed}
use Rattle.icode.proofs.BufferedCompletion.{busy_step, busy_run, starts_busy, waits_within, finished_ends}
use Rattle.icode.proofs.BufferedCompletion.{none_waiting-none}
use Rattle.icode.proofs.Runs.{IsOnTheWay, moved_on_the_way, starts_on_the_way, at_end, has_action}
use Rattle.icode.proofs.Waiting.{queue_inside}

-- The phase began with `base`, whatever came before, and the phases from this one on lead from there to the result.
record IsComing (code : Code) (result : Whole) (b : Buffered) : Type 0 where
  base : Whole
  files : length base.registers ≡ code.procs
  follows : IsBuffered code b.state.phase base.memory base.registers b.state.memory b.state.registers b.state.done
      b.queues
  within : b.state.phase ≤ length code.lists
  leads : phases_alone code (length code.lists - b.state.phase) b.state.phase base ≡ result

module _ (code : Code) (is : IsCode code) (apart : (phase : ℕ) → IsApart code phase) where
  on_the_way : (result : Whole) (b : Buffered) → some_wait b.queues ≡ false → IsComing code result b →
      IsOnTheWay code result b.state
  on_the_way result b none g =
      record {
        base = g.base;
        files = g.files;
        follows = followed_from_buffered code b.state.phase g.base.memory g.base.registers b.state.memory b.state.registers b.state.done b.queues none g.follows;
        within = g.within;
        leads = g.leads;
      }

  coming : (result : Whole) (b : Buffered) → some_wait b.queues ≡ false → length b.queues ≡ code.procs →
      IsOnTheWay code result b.state → IsComing code result b
  coming result b none lines g =
      record {
        base = g.base;
        files = g.files;
        follows = buffered_from_followed code b.state.phase g.base.memory g.base.registers b.state.memory b.state.registers b.state.done b.queues none lines g.follows;
        within = g.within;
        leads = g.leads;
      }

  coming_moved : (result : Whole) (b : Buffered) → b.state.phase < length code.lists → IsComing code result b →
      IsComing code result (buffered_moved_on code b)
  coming_moved result b lt g = at (some_wait b.queues) refl
    where
      at : (w : Bool) → some_wait b.queues ≡ w → IsComing code result (record { state = cond w b.state (moved_on code b.state); queues = b.queues })
      at true e = g
      at false e = coming result (record { state = moved_on code b.state; queues = b.queues }) e g.follows.lines (moved_on_the_way code is apart result b.state lt (on_the_way result b e g))

  coming_turn : (result : Whole) (b : Buffered) (q : ℕ) → IsComing code result b →
      IsComing code result (buffered_turn code b q)
  coming_turn result b q g = with_action (next_action code b.state q) refl
    where
      with_action : (o : Option Action) → next_action code b.state q ≡ o →
          IsComing code result (buffered_turn_with code q b o)
      with_action None e = g
      with_action (Some a) e =
          let has = has_action code is b.state.phase q (slice_index b.state.done q) a e in
          coming_moved result (buffered_acted code q a b) has.1
          (record {
            base = g.base;
            files = g.files;
            within = g.within;
            leads = g.leads;
            follows = IsBuffered-acted code b.state.phase g.base.memory g.base.registers b.state.memory b.state.registers b.state.done b.queues q a has.0 e g.follows;
          })

  coming_drain : (result : Whole) (b : Buffered) (q : ℕ) → IsBusy code b → IsComing code result b →
      IsComing code result (drain code b q)
  coming_drain result b q busy g = with_queue (queue_of b.queues q) refl
    where
      with_queue : (o : List Waiting) → queue_of b.queues q ≡ o → IsComing code result (drain_with code q b o)
      with_queue [] e = g
      with_queue (w ∷ queue) e =
          coming_moved result (written q w queue b) (waits_within code is b q w queue busy e)
          (record {
            base = g.base;
            files = g.files;
            within = g.within;
            leads = g.leads;
            follows = IsBuffered-drained code b.state.phase g.base.memory g.base.registers b.state.memory b.state.registers b.state.done b.queues q w queue (apart b.state.phase) (omega (arith, queue_inside b.queues q w queue e, busy.lines)) e g.follows;
          })

  coming_run : (result : Whole) (events : List Event) (b : Buffered) → IsBusy code b → IsComing code result b →
      IsComing code result (buffered_run code b events)
  coming_run result [] b busy g = g
  coming_run result (Turn q ∷ events) b busy g = coming_run result events (buffered_turn code b q) (busy_step code is b (Turn q) busy) (coming_turn result b q g)
  coming_run result (Drain q ∷ events) b busy g = coming_run result events (drain code b q) (busy_step code is b (Drain q) busy) (coming_drain result b q busy g)

  starts_coming : (x : List ℕ) → IsComing code (in_order code x) (buffered_start code x)
  starts_coming x = coming (in_order code x) (buffered_start code x) (none_waiting-none code is) (length-replicate code.procs []) (starts_on_the_way code is apart x)

  -- whatever the turns and drains, the memory is what one processor after another leaves
  pub memory_of_buffered : (x : List ℕ) (events : List Event) →
      (buffered_runs code x events).state.memory ≡ (in_order code x).memory
  memory_of_buffered x events =
      let result : Whole = in_order code x in
      let b : Buffered = buffered_run code (buffered_start code x) events in
      let last : Buffered = buffered_finished code b in
      let busy = busy_run code is events (buffered_start code x) (starts_busy code is x) in
      let ended = busy_run code is (buffered_completion code b) b busy in
      let g = coming_run result (buffered_completion code b) b busy (coming_run result events (buffered_start code x) (starts_busy code is x) (starts_coming x)) in
      let past : length code.lists ≤ last.state.phase = finished_ends code is b busy in
      at_end code is apart result last.state past (on_the_way result last (ended.past past) g)
