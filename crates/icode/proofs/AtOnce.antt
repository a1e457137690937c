-- Where each store is written to memory at once.
use Rattle.std.proofs.Common.{◌≡◌, ℕ, suc, ◌<◌, ◌⊎◌, List, [], ◌∷◌, ◌++◌, false, cond, length, Option, Some}
use Rattle.std.proofs.Common.{None, refl, sym, ap, ap₂, ◌∙◌, subst, arith, inl, inr, ⊎_elim, get_or-set_same, set-set}
use Rattle.std.specs.Prelude.{slice_index, slice_index_or, slice_set}
use Rattle.std.proofs.lemmas.List.{set-get_or, length-replicate}
use Rattle.icode.specs.declared.action.Action.{Action}
use Rattle.icode.specs.declared.action.Action.TheVariants.{Store}
use Rattle.icode.specs.Machine.{Code, IsCode, State, effect, memory_after, next_action, moved_on, acted}
use Rattle.icode.specs.Machine.{turn_with, turn, run, start}
use Rattle.icode.specs.Buffers.{Waiting, Buffered, queue_of, some_wait, stored, overlaid, buffered_moved_on}
use Rattle.icode.specs.Buffers.{buffered_acted, buffered_turn_with, buffered_turn, written, drain_with, drain}
use Rattle.icode.specs.Buffers.{buffered_run, buffered_start, at_once}
use Rattle.icode.proofs.BufferedCompletion.{none_waiting-none}
use Rattle.icode.proofs.Runs.{has_action}
use Rattle.icode.proofs.Waiting.{none_waits, one_waits}

-- a state with no store that waits stands for the machine's state
record IsPlain (code : Code) (b : Buffered) (s : State) : Type 0 where
  state : b.state ≡ s
  none : some_wait b.queues ≡ false
  lines : length b.queues ≡ code.procs

-- an action stores nothing, or it is a store
quiet_or_store : (lanes : ℕ) (a : Action) (registers : List ℕ) → ((stored lanes a registers ≡ []) × ((m : List ℕ) → memory_after lanes a (record { memory = m; registers = registers }) ≡ m)) ⊎ ((w : Waiting) × (stored lanes a registers ≡ w ∷ []) × ((m : List ℕ) → memory_after lanes a (record { memory = m; registers = registers }) ≡ overlaid m (w ∷ [])))
quiet_or_store lanes (Store address r) registers = inr (_, refl, λ m. refl)
quiet_or_store lanes _ registers = inl (refl, λ m. refl)

module _ (code : Code) (is : IsCode code) where
  -- what the action leaves, once its store is written
  settled_at : (s : State) (queues : List (List Waiting)) → some_wait queues ≡ false → buffered_moved_on code (record { state = s; queues = queues }) ≡ record { state = moved_on code s; queues = queues }
  settled_at s queues none = ap (λ b. record { state = cond b s (moved_on code s); queues = queues }) none

  acted_at_once : (b : Buffered) (q : ℕ) (a : Action) → q < code.procs → IsPlain code b b.state →
      IsPlain code (drain code (buffered_moved_on code (buffered_acted code q a b)) q)
      (moved_on code (acted code q a b.state))
  acted_at_once b q a lt p =
      let s : State = b.state in
      let file : List ℕ = slice_index_or s.registers q [] in
      let empty : queue_of b.queues q ≡ [] = none_waits b.queues p.none q in
      let same : slice_set b.queues q [] ≡ b.queues = ap (slice_set b.queues q) (sym empty) ∙ set-get_or b.queues q [] in
      let after : List (List ℕ) = slice_set s.registers q (effect code.modulus code.lanes a (record { memory = s.memory; registers = file })).registers in
      let done : List ℕ = slice_set s.done q (suc (slice_index s.done q)) in
      let acts : buffered_acted code q a b ≡ record { state = record { memory = s.memory; registers = after; phase = s.phase; done = done }; queues = slice_set b.queues q (stored code.lanes a file) } =
      ap (λ (ws : List Waiting). record {
        state = record { memory = s.memory; registers = slice_set s.registers q (effect code.modulus code.lanes a (record { memory = overlaid s.memory ws; registers = file })).registers; phase = s.phase; done = done };
        queues = slice_set b.queues q (ws ++ stored code.lanes a file);
      }) empty in
      ⊎_elim
      (λ (quiet : (stored code.lanes a file ≡ []) × ((m : List ℕ) → memory_after code.lanes a (record { memory = m; registers = file }) ≡ m)).
      let memory : (acted code q a s).memory ≡ s.memory = quiet.1 s.memory in
      let is_acted : buffered_acted code q a b ≡ record { state = acted code q a s; queues = b.queues } =
      acts
      ∙ ap₂ (λ (m : List ℕ) (qs : List (List Waiting)). record { state = record { memory = m; registers = after; phase = s.phase; done = done }; queues = qs }) (sym memory) (ap (slice_set b.queues q) quiet.0 ∙ same) in
      let moved : buffered_moved_on code (buffered_acted code q a b) ≡ record { state = moved_on code (acted code q a s); queues = b.queues } =
      ap (buffered_moved_on code) is_acted ∙ settled_at (acted code q a s) b.queues p.none in
      let drained : drain code (record { state = moved_on code (acted code q a s); queues = b.queues }) q ≡ record { state = moved_on code (acted code q a s); queues = b.queues } =
      ap (drain_with code q (record { state = moved_on code (acted code q a s); queues = b.queues })) empty in
      subst (λ (c : Buffered). IsPlain code c (moved_on code (acted code q a s))) (sym (ap (λ (c : Buffered). drain code c q) moved ∙ drained))
      (record { state = refl; none = p.none; lines = p.lines }))
      (λ (store : (w : Waiting) × (stored code.lanes a file ≡ w ∷ []) × ((m : List ℕ) → memory_after code.lanes a (record { memory = m; registers = file }) ≡ overlaid m (w ∷ []))).
      let w : Waiting = store.0 in
      let waits : List (List Waiting) = slice_set b.queues q (w ∷ []) in
      let here : queue_of waits q ≡ w ∷ [] = get_or-set_same b.queues q (w ∷ []) [] (omega (arith, p.lines)) in
      let before : State = record { memory = s.memory; registers = after; phase = s.phase; done = done } in
      let is_acted : buffered_acted code q a b ≡ record { state = before; queues = waits } =
      acts ∙ ap (λ (ws : List Waiting). record { state = before; queues = slice_set b.queues q ws }) store.1 in
      let moved : buffered_moved_on code (buffered_acted code q a b) ≡ record { state = before; queues = waits } =
      ap (buffered_moved_on code) is_acted ∙ ap (λ c. record { state = cond c before (moved_on code before); queues = waits }) (one_waits waits q w [] here) in
      let empty_again : slice_set waits q [] ≡ b.queues = set-set b.queues q (w ∷ []) [] ∙ same in
      let drained : drain code (record { state = before; queues = waits }) q ≡ record { state = moved_on code (acted code q a s); queues = b.queues } =
      ap (drain_with code q (record { state = before; queues = waits })) here
      ∙ (ap (buffered_moved_on code) (ap₂ (λ (m : List ℕ) (qs : List (List Waiting)). record { state = record { memory = m; registers = after; phase = s.phase; done = done }; queues = qs }) (sym (store.2 s.memory)) empty_again)
      ∙ settled_at (acted code q a s) b.queues p.none) in
      subst (λ (c : Buffered). IsPlain code c (moved_on code (acted code q a s))) (sym (ap (λ (c : Buffered). drain code c q) moved ∙ drained))
      (record { state = refl; none = p.none; lines = p.lines }))
      (quiet_or_store code.lanes a file)

  turn_at_once : (b : Buffered) (q : ℕ) → IsPlain code b b.state →
      IsPlain code (drain code (buffered_turn code b q) q) (turn code b.state q)
  turn_at_once b q p = with_action (next_action code b.state q) refl
    where
      with_action : (o : Option Action) → next_action code b.state q ≡ o →
          IsPlain code (drain code (buffered_turn_with code q b o) q) (turn_with code q b.state o)
      with_action None e = subst (λ (c : Buffered). IsPlain code c b.state) (sym (ap (drain_with code q b) (none_waits b.queues p.none q))) p
      with_action (Some a) e = acted_at_once b q a (has_action code is b.state.phase q (slice_index b.state.done q) a e).0 p

  runs_at_once : (turns : List ℕ) (b : Buffered) (s : State) → IsPlain code b s →
      (buffered_run code b (at_once turns)).state ≡ run code s turns
  runs_at_once [] b s p = p.state
  runs_at_once (q ∷ turns) b s p =
      let here : IsPlain code b b.state = record { state = refl; none = p.none; lines = p.lines } in
      let next = turn_at_once b q here in
      runs_at_once turns (drain code (buffered_turn code b q) q) (turn code s q) (subst (λ (t : State). IsPlain code (drain code (buffered_turn code b q) q) (turn code t q)) p.state next)

  pub from_start_at_once : (x turns : List ℕ) → (buffered_run code (buffered_start code x) (at_once turns)).state
      ≡ run code (start code x) turns
  from_start_at_once x turns = runs_at_once turns (buffered_start code x) (start code x) (record { state = refl; none = none_waiting-none code is; lines = length-replicate code.procs [] })
