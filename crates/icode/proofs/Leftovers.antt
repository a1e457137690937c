-- Runs where others have run before end as one processor after another does.
use Rattle.std.proofs.Common.{◌≡◌, ℕ, zero, suc, ◌+◌, ◌-◌, ◌<◌, ◌≤◌, ◌≢◌, List, [], ◌∷◌, ◌++◌, true, false, length}
use Rattle.std.proofs.Common.{Option, Some, None, refl, sym, ap, ap₂, ◌∙◌, subst, arith, ⊎_elim, cond, eq-eqb, ne_eqb}
use Rattle.std.specs.Prelude.{slice_get, slice_index, slice_set}
use Rattle.std.proofs.lemmas.Bool.{cases_Bool, cases_eq}
use Rattle.icode.specs.declared.action.Action.{Action}
use Rattle.icode.specs.Leftovers.{Leftovers, start_among, with_files, turn_among, run_among, runs_among, phases_among}
use Rattle.icode.specs.Leftovers.{RunsAmongInOrder}
use Rattle.icode.specs.Machine.{Code, IsCode, Whole, State, acts, is_open, none_done, next_action, first_open}
use Rattle.icode.specs.Machine.{phases_after, moved_on, acted, turn_with, turn, run, IsApart, completion, start}
use Rattle.icode.specs.Machine.{processors_alone, rest_of_phase, whole_phases}
use Rattle.icode.proofs.Phase.{IsFollowed, IsFollowed-acted}
use Rattle.icode.proofs.End.{same_memory, followed_at_first, phase_end}
use Rattle.icode.proofs.Open.{closed_over, past_over, first_open-open, first_open-closed, has_action, first_is}
use Rattle.icode.proofs.Open.{next_state, moved_on-open, moved_on-closed, run_settled, starts_settled}
use Rattle.icode.proofs.Open.{completion_ends}

-- ---- the same phases and actions as in a run from the start

-- the states are at the same place of the program
pub record SameCourse (s t : State) : Type 0 where
  pub phase : s.phase ≡ t.phase
  pub done : s.done ≡ t.done

module _ (code : Code) (is : IsCode code) where
  pub moved_course : (s t : State) → SameCourse s t → SameCourse (moved_on code s) (moved_on code t)
  unfolding next_state
  moved_course s t same =
      let both : is_open code s.phase s.done ≡ is_open code t.phase t.done =
      ap₂ (λ phase done. is_open code phase done) same.phase same.done in
      ⊎_elim
      (λ (e : is_open code s.phase s.done ≡ true).
      subst (λ (a : State). SameCourse a (moved_on code t)) (sym (moved_on-open code is s e))
      (subst (λ (b : State). SameCourse s b) (sym (moved_on-open code is t (sym both ∙ e))) same))
      (λ (e : is_open code s.phase s.done ≡ false).
      subst (λ (a : State). SameCourse a (moved_on code t)) (sym (moved_on-closed code is s e))
      (subst (λ (b : State). SameCourse (next_state code s) b) (sym (moved_on-closed code is t (sym both ∙ e)))
      (record { phase = ap (λ phase. first_open code (phases_after code phase) (phase + 1)) same.phase; done = refl })))
      (cases_Bool (is_open code s.phase s.done))

  turn_course : (s t : State) (q : ℕ) → SameCourse s t → SameCourse (turn code s q) (turn code t q)
  turn_course s t q same =
      let both : next_action code s q ≡ next_action code t q =
      ap₂ (λ phase done. slice_get (acts code phase q) (slice_index done q)) same.phase same.done in
      subst (λ o. SameCourse (turn_with code q s (next_action code s q)) (turn_with code q t o)) both
      (with_action (next_action code s q))
    where
      with_action : (o : Option Action) → SameCourse (turn_with code q s o) (turn_with code q t o)
      with_action None = same
      with_action (Some a) =
          moved_course (acted code q a s) (acted code q a t)
          (record { phase = same.phase; done = ap (λ done. slice_set done q (suc (slice_index done q))) same.done })

  pub completion_course : (s t : State) → SameCourse s t → completion code s ≡ completion code t
  completion_course s t same =
      ap₂ (λ phase done. rest_of_phase code phase done ++ whole_phases code (phases_after code phase) (phase + 1)) same.phase same.done

  module _ (left : Leftovers) where
    pub filled_same : (phase : ℕ) (s : State) → phase ≡ s.phase → with_files left phase s ≡ s
    filled_same phase s e = ap (λ b. cond b s (record { memory = s.memory; registers = left.files s.phase; phase = s.phase; done = s.done })) (eq-eqb phase s.phase e)

    pub filled_past : (phase : ℕ) (s : State) → phase ≢ s.phase → with_files left phase s ≡ record { memory = s.memory; registers = left.files s.phase; phase = s.phase; done = s.done }
    filled_past phase s ne = ap (λ b. cond b s (record { memory = s.memory; registers = left.files s.phase; phase = s.phase; done = s.done })) (ne_eqb phase s.phase ne)

    filled_course : (phase : ℕ) (s t : State) → SameCourse s t → SameCourse (with_files left phase s) t
    filled_course phase s t same =
        ⊎_elim
        (λ (e : phase ≡ s.phase). subst (λ (a : State). SameCourse a t) (sym (filled_same phase s e)) same)
        (λ (ne : phase ≡ s.phase → ⊥). subst (λ (a : State). SameCourse a t) (sym (filled_past phase s ne)) (record { phase = same.phase; done = same.done }))
        (cases_eq phase s.phase)

    run_course : (turns : List ℕ) (s t : State) → SameCourse s t → SameCourse (run_among code left s turns) (run code t turns)
    run_course [] s t same = same
    run_course (q ∷ turns) s t same =
        run_course turns (turn_among code left s q) (turn code t q)
        (filled_course s.phase (turn code s q) (turn code t q) (turn_course s t q same))

    -- so the completion leaves every phase
    ends_among : (x turns : List ℕ) → length code.lists ≤ (runs_among code left x turns).phase
    ends_among x turns =
        let s : State = run_among code left (start_among code left x) turns in
        let t : State = run code (start code x) turns in
        let same : SameCourse s t = run_course turns (start_among code left x) (start code x) (record { phase = refl; done = refl }) in
        let whole : SameCourse (run_among code left s (completion code s)) (run code t (completion code s)) = run_course (completion code s) s t same in
        let past = completion_ends code is t (run_settled code is turns (start code x) (starts_settled code is x)) in
        let last : (run code t (completion code s)).phase ≡ (run code t (completion code t)).phase =
        ap (λ turns. (run code t turns).phase) (completion_course s t same) in
        omega (arith, past, last, whole.phase)

-- ---- what each turn keeps

module _ (code : Code) (is : IsCode code) (apart : (phase : ℕ) → IsApart code phase) (left : Leftovers)
    (files : (phase : ℕ) → length (left.files phase) ≡ code.procs) where
  -- what comes before the first open phase changes nothing
  skips : (n phase : ℕ) (memory : List ℕ) → phases_among code left n phase memory
      ≡ phases_among code left (n + phase - first_open code n phase) (first_open code n phase) memory
  skips zero phase memory =
      let e : 0 + phase - phase ≡ 0 = omega arith in
      ap (λ k. phases_among code left k phase memory) (sym e)
  skips (suc n) phase memory =
      let w : Whole = record { memory = memory; registers = left.files phase } in
      ⊎_elim
      (λ (e : is_open code phase (none_done code) ≡ true).
      let s : suc n + phase - phase ≡ suc n = omega arith in
      subst (λ f. phases_among code left (suc n) phase memory ≡ phases_among code left (suc n + phase - f) f memory) (sym (first_open-open code n phase e)) (ap (λ k. phases_among code left k phase memory) (sym s)))
      (λ (e : is_open code phase (none_done code) ≡ false).
      let s : n + (phase + 1) ≡ suc n + phase = omega arith in
      let ends : processors_alone code phase code.procs 0 w ≡ w = phase_end code phase w memory (left.files phase) (none_done code) is (apart phase) (files phase) (closed_over code is phase (none_done code) e) (followed_at_first code phase memory (left.files phase) (files phase)) in
      subst (λ f. phases_among code left (suc n) phase memory ≡ phases_among code left (suc n + phase - f) f memory) (sym (first_open-closed code n phase e))
      (ap (λ (w : Whole). phases_among code left n (phase + 1) w.memory) ends
      ∙ (skips n (phase + 1) memory ∙ ap (λ k. phases_among code left (k - first_open code n (phase + 1)) (first_open code n (phase + 1)) memory) s)))
      (cases_Bool (is_open code phase (none_done code)))

  -- the phase began with `base` in memory, and the phases from this one on lead from there to the result
  pub record IsOnTheWay (result : List ℕ) (s : State) : Type 0 where
    pub base : List ℕ
    pub follows : IsFollowed code s.phase base (left.files s.phase) s.memory s.registers s.done
    pub within : s.phase ≤ length code.lists
    pub leads : phases_among code left (length code.lists - s.phase) s.phase base ≡ result

  next_on_the_way : (result : List ℕ) (s : State) → s.phase < length code.lists → is_open code s.phase s.done ≡ false →
      IsOnTheWay result s → IsOnTheWay result (with_files left s.phase (next_state code s))
  unfolding next_state
  next_on_the_way result s lt e g =
      let n : ℕ = phases_after code s.phase in
      let first = first_is code n (s.phase + 1) in
      let w : Whole = record { memory = g.base; registers = left.files s.phase } in
      let more : length code.lists - s.phase ≡ suc n = omega arith in
      let all : n + (s.phase + 1) ≡ length code.lists = omega arith in
      let next : ℕ = first_open code n (s.phase + 1) in
      let past : s.phase ≢ next = omega (arith, first.low) in
      let ends : processors_alone code s.phase code.procs 0 w ≡ record { memory = s.memory; registers = s.registers } = phase_end code s.phase w s.memory s.registers s.done is (apart s.phase) (files s.phase) (closed_over code is s.phase s.done e) g.follows in
      subst (IsOnTheWay result) (sym (filled_past code is left s.phase (next_state code s) past))
      (record {
        base = s.memory;
        follows = followed_at_first code next s.memory (left.files next) (files next);
        within = omega (arith, first.high);
        leads =
            ap (λ k. phases_among code left (k - next) next s.memory) (sym all)
            ∙ (sym (skips n (s.phase + 1) s.memory)
            ∙ (ap (λ (w : Whole). phases_among code left n (s.phase + 1) w.memory) (sym ends)
            ∙ (ap (λ k. phases_among code left k s.phase g.base) (sym more) ∙ g.leads)));
      })

  pub moved_on_the_way : (result : List ℕ) (s : State) → s.phase < length code.lists → IsOnTheWay result s →
      IsOnTheWay result (with_files left s.phase (moved_on code s))
  moved_on_the_way result s lt g =
      ⊎_elim
      (λ (still : is_open code s.phase s.done ≡ true).
      subst (λ (u : State). IsOnTheWay result (with_files left s.phase u)) (sym (moved_on-open code is s still))
      (subst (IsOnTheWay result) (sym (filled_same code is left s.phase s refl)) g))
      (λ (over : is_open code s.phase s.done ≡ false).
      subst (λ (u : State). IsOnTheWay result (with_files left s.phase u)) (sym (moved_on-closed code is s over))
      (next_on_the_way result s lt over g))
      (cases_Bool (is_open code s.phase s.done))

  turn_on_the_way : (result : List ℕ) (s : State) (q : ℕ) → IsOnTheWay result s →
      IsOnTheWay result (turn_among code left s q)
  turn_on_the_way result s q g = with_action (next_action code s q) refl
    where
      with_action : (o : Option Action) → next_action code s q ≡ o →
          IsOnTheWay result (with_files left s.phase (turn_with code q s o))
      with_action None e = subst (IsOnTheWay result) (sym (filled_same code is left s.phase s refl)) g
      with_action (Some a) e =
          let h = has_action code is s.phase q (slice_index s.done q) a e in
          moved_on_the_way result (acted code q a s) h.1
          (record {
            base = g.base;
            within = g.within;
            leads = g.leads;
            follows = IsFollowed-acted code s.phase g.base (left.files s.phase) s.memory s.registers s.done q a (apart s.phase) h.0 e g.follows;
          })

  run_on_the_way : (result : List ℕ) (turns : List ℕ) (s : State) → IsOnTheWay result s →
      IsOnTheWay result (run_among code left s turns)
  run_on_the_way result [] s g = g
  run_on_the_way result (q ∷ turns) s g = run_on_the_way result turns (turn_among code left s q) (turn_on_the_way result s q g)

  -- where it ends
  pub at_end : (result : List ℕ) (s : State) → length code.lists ≤ s.phase → IsOnTheWay result s → s.memory ≡ result
  at_end result s ge g =
      let none : length code.lists - s.phase ≡ 0 = omega arith in
      same_memory code s.phase g.base (left.files s.phase) s.memory g.base s.registers (left.files s.phase) s.done (none_done code) is (past_over code s.phase s.done ge) (past_over code s.phase (none_done code) ge) g.follows (followed_at_first code s.phase g.base (left.files s.phase) (files s.phase))
      ∙ (ap (λ k. phases_among code left k s.phase g.base) (sym none) ∙ g.leads)

  pub starts_on_the_way : (x : List ℕ) →
      IsOnTheWay (phases_among code left (length code.lists) 0 (x ++ left.words)) (start_among code left x)
  starts_on_the_way x =
      let memory : List ℕ = x ++ left.words in
      let first = first_is code (length code.lists) 0 in
      let all : length code.lists + 0 ≡ length code.lists = omega arith in
      let phase : ℕ = first_open code (length code.lists) 0 in
      record {
        base = memory;
        follows = followed_at_first code phase memory (left.files phase) (files phase);
        within = omega (arith, first.high);
        leads = sym (skips (length code.lists) 0 memory ∙ ap (λ k. phases_among code left (k - phase) phase memory) all);
      }

  runs_are_in_order : (x turns : List ℕ) →
      (runs_among code left x turns).memory ≡ phases_among code left (length code.lists) 0 (x ++ left.words)
  runs_are_in_order x turns =
      let result : List ℕ = phases_among code left (length code.lists) 0 (x ++ left.words) in
      let s : State = run_among code left (start_among code left x) turns in
      let g = run_on_the_way result turns (start_among code left x) (starts_on_the_way x) in
      at_end result (runs_among code left x turns) (ends_among code is left x turns)
      (run_on_the_way result (completion code s) s g)

-- whatever the turns, the memory is what one processor after another leaves
pub memory_of_runs_among : RunsAmongInOrder
memory_of_runs_among code left is apart files x turns = runs_are_in_order code is apart left files x turns
