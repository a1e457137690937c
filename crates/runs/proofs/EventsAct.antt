-- Each event of a completion does something, with store buffers.
use Rattle.std.proofs.Common.{ℕ, zero, suc, ◌<◌, ◌≤◌, List, length, refl, sym, ap, subst, arith, ⊎_elim}
use Rattle.std.proofs.lemmas.Bool.{cases_lt}
use Rattle.icode.specs.declared.event.Event.{Event}
use Rattle.icode.specs.Buffers.{Buffered, buffered_step, buffered_run, buffered_start, buffered_completion, IsBusy}
use Rattle.icode.specs.Machine.{Code, IsCode}
use Rattle.icode.proofs.BufferedCompletion.{busy_step, busy_run, starts_busy, completion_past, next_event}
use Rattle.runs.specs.Course.{CompletionActs}
use Rattle.runs.specs.Standing.{queued}
use Rattle.runs.specs.Walks.{walked}
use Rattle.runs.proofs.Acts.{one_more_acts, none_act}
use Rattle.runs.proofs.TwoMachines.{walked_events}

module _ (code : Code) (is : IsCode code) where
  all_act : (n : ℕ) (b : Buffered) → length (buffered_completion code b) < n → IsBusy code b →
      CompletionActs code (queued b)
  all_act zero b lt g = absurd (omega arith)
  all_act (suc n) b lt g =
      ⊎_elim
      (λ (within : b.state.phase < length code.lists).
      let next = next_event code is b g within in
      let c : Buffered = buffered_step code b next.0 in
      one_more_acts code (queued b) (queued c) next.0 next.1 refl (all_act n c (omega (arith, lt, ap length next.1)) (busy_step code is b next.0 g)))
      (λ (past : length code.lists ≤ b.state.phase). none_act code (queued b) (completion_past code is b g past))
      (cases_lt b.state.phase (length code.lists))

  pub completion_of_events : (x : List ℕ) (events : List Event) →
      CompletionActs code (walked code (queued (buffered_start code x)) events)
  completion_of_events x events =
      let b : Buffered = buffered_run code (buffered_start code x) events in
      subst (CompletionActs code) (sym (walked_events code events (buffered_start code x)))
      (all_act (suc (length (buffered_completion code b))) b (omega arith) (busy_run code is events (buffered_start code x) (starts_busy code is x)))
