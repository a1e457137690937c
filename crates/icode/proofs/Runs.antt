-- Whole runs: every list of turns, completed, ends as one processor after another does.
use Rattle.std.proofs.Common.{◌≡◌, ℕ, zero, suc, ◌+◌, ◌-◌, ◌*◌, ◌<◌, ◌≤◌, List, [], ◌∷◌, true, false, length, replicate}
use Rattle.std.proofs.Common.{Option, Some, None, refl, sym, ap, ◌∙◌, subst, arith, ⊎_elim}
use Rattle.std.specs.Prelude.{slice_index}
use Rattle.std.proofs.lemmas.Bool.{cases_Bool}
use Rattle.std.proofs.lemmas.List.{length-replicate}
use Rattle.icode.specs.declared.action.Action.{Action}
use Rattle.icode.specs.Machine.{Code, IsCode, Whole, State, is_open, none_done, next_action, first_open, phases_after}
use Rattle.icode.specs.Machine.{moved_on, acted, turn_with, turn, run, IsApart, completion, finished, start, runs}
use Rattle.icode.specs.Machine.{processors_alone, phases_alone, in_order}
use Rattle.icode.proofs.Phase.{IsFollowed, IsFollowed-acted}
use Rattle.icode.proofs.End.{same_memory, followed_at_first, phase_end}
pub use Rattle.icode.proofs.Open.{open_at, not_open, closed_over, past_over, first_open-open, first_open-closed}
pub use Rattle.icode.proofs.Open.{has_action, none_left, counts_of_runs}
use Rattle.icode.proofs.Open.{first_is, next_state, moved_on-open, moved_on-closed, run_settled, starts_settled}
use Rattle.icode.proofs.Open.{completion_ends}

-- The first open phase

-- what comes before it changes nothing
first_skips : (code : Code) → IsCode code → ((phase : ℕ) → IsApart code phase) → (n phase : ℕ) (w : Whole) →
    length w.registers ≡ code.procs → phases_alone code n phase w
    ≡ phases_alone code (n + phase - first_open code n phase) (first_open code n phase) w
first_skips code is apart zero phase w files =
    let e : 0 + phase - phase ≡ 0 = omega arith in
    ap (λ k. phases_alone code k phase w) (sym e)
first_skips code is apart (suc n) phase w files =
    ⊎_elim
    (λ (e : is_open code phase (none_done code) ≡ true).
    let s : suc n + phase - phase ≡ suc n = omega arith in
    subst (λ f. phases_alone code (suc n) phase w ≡ phases_alone code (suc n + phase - f) f w) (sym (first_open-open code n phase e)) (ap (λ k. phases_alone code k phase w) (sym s)))
    (λ (e : is_open code phase (none_done code) ≡ false).
    let s : n + (phase + 1) ≡ suc n + phase = omega arith in
    subst (λ f. phases_alone code (suc n) phase w ≡ phases_alone code (suc n + phase - f) f w) (sym (first_open-closed code n phase e))
    (ap (phases_alone code n (phase + 1)) (phase_end code phase w w.memory w.registers (none_done code) is (apart phase) files (closed_over code is phase (none_done code) e) (followed_at_first code phase w.memory w.registers files))
    ∙ (first_skips code is apart n (phase + 1) w files ∙ ap (λ k. phases_alone code (k - first_open code n (phase + 1)) (first_open code n (phase + 1)) w) s)))
    (cases_Bool (is_open code phase (none_done code)))

-- What each turn keeps

-- The phase began with `base`, whatever came before, and the phases from this one on lead from there
-- to the result.
pub record IsOnTheWay (code : Code) (result : Whole) (s : State) : Type 0 where
  pub base : Whole
  pub files : length base.registers ≡ code.procs
  pub follows : IsFollowed code s.phase base.memory base.registers s.memory s.registers s.done
  pub within : s.phase ≤ length code.lists
  pub leads : phases_alone code (length code.lists - s.phase) s.phase base ≡ result

module _ (code : Code) (is : IsCode code) (apart : (phase : ℕ) → IsApart code phase) where
  next_on_the_way : (result : Whole) (s : State) → s.phase < length code.lists → is_open code s.phase s.done ≡ false →
      IsOnTheWay code result s → IsOnTheWay code result (next_state code s)
  unfolding next_state
  next_on_the_way result s lt e g =
      let n : ℕ = phases_after code s.phase in
      let first = first_is code n (s.phase + 1) in
      let w : Whole = record { memory = s.memory; registers = s.registers } in
      let more : length code.lists - s.phase ≡ suc n = omega arith in
      let all : n + (s.phase + 1) ≡ length code.lists = omega arith in
      let ends : processors_alone code s.phase code.procs 0 g.base ≡ w = phase_end code s.phase g.base s.memory s.registers s.done is (apart s.phase) g.files (closed_over code is s.phase s.done e) g.follows in
      record {
        base = w;
        files = g.follows.files;
        follows = followed_at_first code _ s.memory s.registers g.follows.files;
        within = omega (arith, first.high);
        leads =
            ap (λ k. phases_alone code (k - first_open code n (s.phase + 1)) (first_open code n (s.phase + 1)) w) (sym all)
            ∙ (sym (first_skips code is apart n (s.phase + 1) w g.follows.files)
            ∙ (ap (phases_alone code n (s.phase + 1)) (sym ends)
            ∙ (ap (λ k. phases_alone code k s.phase g.base) (sym more) ∙ g.leads)));
      }

  pub moved_on_the_way : (result : Whole) (s : State) → s.phase < length code.lists → IsOnTheWay code result s →
      IsOnTheWay code result (moved_on code s)
  moved_on_the_way result s lt g =
      ⊎_elim
      (λ (e : is_open code s.phase s.done ≡ true). subst (IsOnTheWay code result) (sym (moved_on-open code is s e)) g)
      (λ (e : is_open code s.phase s.done ≡ false). subst (IsOnTheWay code result) (sym (moved_on-closed code is s e)) (next_on_the_way result s lt e g))
      (cases_Bool (is_open code s.phase s.done))

  turn_on_the_way : (result : Whole) (s : State) (q : ℕ) → IsOnTheWay code result s →
      IsOnTheWay code result (turn code s q)
  turn_on_the_way result s q g = with_action (next_action code s q) refl
    where
      with_action : (o : Option Action) → next_action code s q ≡ o → IsOnTheWay code result (turn_with code q s o)
      with_action None e = g
      with_action (Some a) e =
          let h = has_action code is s.phase q (slice_index s.done q) a e in
          moved_on_the_way result (acted code q a s) h.1
          (record {
            base = g.base;
            files = g.files;
            within = g.within;
            leads = g.leads;
            follows = IsFollowed-acted code s.phase g.base.memory g.base.registers s.memory s.registers s.done q a (apart s.phase) h.0 e g.follows;
          })

  run_on_the_way : (result : Whole) (turns : List ℕ) (s : State) → IsOnTheWay code result s →
      IsOnTheWay code result (run code s turns)
  run_on_the_way result [] s g = g
  run_on_the_way result (q ∷ turns) s g = run_on_the_way result turns (turn code s q) (turn_on_the_way result s q g)

  -- where it ends
  pub at_end : (result : Whole) (s : State) → length code.lists ≤ s.phase → IsOnTheWay code result s →
      s.memory ≡ result.memory
  at_end result s ge g =
      let none : length code.lists - s.phase ≡ 0 = omega arith in
      same_memory code s.phase g.base.memory g.base.registers s.memory g.base.memory s.registers g.base.registers s.done (none_done code) is (past_over code s.phase s.done ge) (past_over code s.phase (none_done code) ge) g.follows (followed_at_first code s.phase g.base.memory g.base.registers g.files)
      ∙ ap (λ (w : Whole). w.memory) (ap (λ k. phases_alone code k s.phase g.base) (sym none) ∙ g.leads)

  pub starts_on_the_way : (x : List ℕ) → IsOnTheWay code (in_order code x) (start code x)
  starts_on_the_way x =
      let w : Whole = record { memory = (start code x).memory; registers = (start code x).registers } in
      let first = first_is code (length code.lists) 0 in
      let all : length code.lists + 0 ≡ length code.lists = omega arith in
      let files : length w.registers ≡ code.procs = length-replicate code.procs (replicate (code.regs * code.lanes) 0) in
      record {
        base = w;
        files = files;
        follows = followed_at_first code _ w.memory w.registers files;
        within = omega (arith, first.high);
        leads = sym (first_skips code is apart (length code.lists) 0 w files ∙ ap (λ k. phases_alone code (k - first_open code (length code.lists) 0) (first_open code (length code.lists) 0) w) all);
      }

  -- whatever the turns, the memory is what one processor after another leaves
  pub memory_of_runs : (x turns : List ℕ) → (runs code x turns).memory ≡ (in_order code x).memory
  memory_of_runs x turns =
      let s : State = run code (start code x) turns in
      let g = run_on_the_way (in_order code x) turns (start code x) (starts_on_the_way x) in
      let o = run_settled code is turns (start code x) (starts_settled code is x) in
      at_end (in_order code x) (finished code s) (completion_ends code is s o) (run_on_the_way (in_order code x) (completion code s) s g)
