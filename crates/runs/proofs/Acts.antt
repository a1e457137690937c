-- Events that do something.
use Rattle.std.proofs.Common.{◌≡◌, ℕ, List, [], ◌∷◌, length, Option, None, Some, Ok, Err, Result, refl, sym, ap, subst}
use Rattle.std.proofs.Common.{arith}
use Rattle.std.specs.Prelude.{OnOk}
use Rattle.icode.specs.declared.action.Action.{Action}
use Rattle.icode.specs.declared.event.Drained.TheVariants.{Wrote}
use Rattle.icode.specs.declared.event.Event.{Event}
use Rattle.icode.specs.declared.event.Event.TheVariants.{Turn, Drain}
use Rattle.icode.specs.declared.event.Turned.TheVariants.{Did}
use Rattle.icode.specs.Buffers.{Waiting, Buffered, queue_of, buffered_turn, buffered_turn_with, drain, drain_with}
use Rattle.icode.specs.Buffers.{drain_answer, drain_answer_of}
use Rattle.icode.specs.Machine.{Code, State, answer, answer_with, next_action, turn, turn_with}
use Rattle.runs.specs.Course.{CompletionActs, EachActs, StepActs}
use Rattle.runs.specs.Standing.{Standing, completion_at, direct, queued, stepped}

-- nothing is one longer than itself
no_longer : {A : Type 0} (x : A) (xs ys : List A) → xs ≡ x ∷ ys → ys ≡ xs → ⊥
no_longer x xs ys e f = omega (arith, ap length e, ap length f)

module _ (code : Code) where
  -- an event that shortens the completion does something, since one that does nothing leaves the machine where it stands
  turn_acts : (s : State) (q : ℕ) → completion_at code (direct s) ≡ Turn q
      ∷ completion_at code (direct (turn code s q)) → (action : Action) × (answer code s q ≡ Did action)
  turn_acts s q e = at (next_action code s q) refl
    where
      at : (o : Option Action) → next_action code s q ≡ o → (action : Action) × (answer code s q ≡ Did action)
      at None none = absurd (no_longer (Turn q) _ _ e (ap (λ (t : State). completion_at code (direct t)) (ap (turn_with code q s) none)))
      at (Some action) some = (action, ap (answer_with code s) some)

  buffered_acts : (b : Buffered) (q : ℕ) → completion_at code (queued b) ≡ Turn q
      ∷ completion_at code (queued (buffered_turn code b q)) → (action : Action) × (answer code b.state q ≡ Did action)
  buffered_acts b q e = at (next_action code b.state q) refl
    where
      at : (o : Option Action) → next_action code b.state q ≡ o →
          (action : Action) × (answer code b.state q ≡ Did action)
      at None none = absurd (no_longer (Turn q) _ _ e (ap (λ (t : Buffered). completion_at code (queued t)) (ap (buffered_turn_with code q b) none)))
      at (Some action) some = (action, ap (answer_with code b.state) some)

  drain_acts : (b : Buffered) (q : ℕ) → completion_at code (queued b) ≡ Drain q
      ∷ completion_at code (queued (drain code b q)) → (address : ℕ) × (drain_answer b q ≡ Wrote address)
  drain_acts b q e = at (queue_of b.queues q) refl
    where
      at : (o : List Waiting) → queue_of b.queues q ≡ o → (address : ℕ) × (drain_answer b q ≡ Wrote address)
      at [] none = absurd (no_longer (Drain q) _ _ e (ap (λ (t : Buffered). completion_at code (queued t)) (ap (drain_with code q b) none)))
      at (w ∷ queue) some = (w.address, ap drain_answer_of some)

  step_acts : (s : Standing) (event : Event) → completion_at code s ≡ event
      ∷ completion_at code (stepped code s event) → StepActs code s event
  step_acts (direct s) (Turn q) e = turn_acts s q e
  step_acts (direct s) (Drain q) e = no_longer (Drain q) (completion_at code (direct s)) (completion_at code (direct s)) e refl
  step_acts (queued b) (Turn q) e = buffered_acts b q e
  step_acts (queued b) (Drain q) e = drain_acts b q e

  pub one_more_acts : (s t : Standing) (event : Event) → completion_at code s ≡ event
      ∷ completion_at code (stepped code s event) → t ≡ stepped code s event → CompletionActs code t →
      CompletionActs code s
  one_more_acts s t event e moved all =
      subst (EachActs code s) (sym e) (step_acts s event e, subst (CompletionActs code) moved all)

  pub none_act : (s : Standing) → completion_at code s ≡ [] → CompletionActs code s
  none_act s e = subst (EachActs code s) (sym e) tt

pub on_ok : {T E P Q : Type 0} (result : Result T E) → (P → Q) → OnOk result P → OnOk result Q
on_ok (Ok v) f p = f p
on_ok (Err e) f p = p
