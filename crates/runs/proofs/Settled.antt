-- In each state of a run an action is left, or all phases are done; so each turn of the completion acts.
use Rattle.std.proofs.Common.{◌≡◌, ℕ, zero, suc, ◌+◌, ◌<◌, ◌≤◌, ◌⊎◌, List, ◌∷◌, length, map, refl, sym, ap, ◌∙◌, subst}
use Rattle.std.proofs.Common.{arith, inl, inr, ⊎_elim}
use Rattle.std.specs.Prelude.{slice_index}
use Rattle.std.proofs.lemmas.Bool.{cases_lt, false≢true, le-ltb}
use Rattle.std.proofs.lemmas.Option.{slice_get-get_or}
use Rattle.icode.specs.declared.action.Action.TheVariants.{Zero}
use Rattle.icode.specs.Machine.{Code, IsCode, State, acts, turn, run, start, completion}
use Rattle.icode.proofs.Completion.{completion_step, completion_past}
use Rattle.icode.proofs.Open.{IsSettled, not_open, turn_settled, run_settled, starts_settled}
use Rattle.icode.specs.declared.event.Event.TheVariants.{Turn}
use Rattle.runs.specs.Course.{CompletionActs}
use Rattle.runs.specs.Standing.{direct}
use Rattle.runs.specs.Walks.{walked}
use Rattle.runs.proofs.Acts.{one_more_acts, none_act}
use Rattle.runs.proofs.TwoMachines.{walked_turns}

module _ (code : Code) (is : IsCode code) where
  -- the first processor from here on with an action left, or that there is none
  first_with : (s : State) (n first : ℕ) → first + n ≡ code.procs →
      ((q : ℕ) → q < first → length (acts code s.phase q) ≤ slice_index s.done q)
      → ((who : ℕ) × (who < code.procs) × (slice_index s.done who < length (acts code s.phase who))
      × ((q : ℕ) → q < who → length (acts code s.phase q) ≤ slice_index s.done q))
      ⊎ ((q : ℕ) → q < code.procs → length (acts code s.phase q) ≤ slice_index s.done q)
  first_with s zero first e none = inr (λ q lt. none q (omega arith))
  first_with s (suc n) first e none =
      ⊎_elim
      (λ (left : slice_index s.done first < length (acts code s.phase first)). inl (first, omega arith, left, none))
      (λ (over : length (acts code s.phase first) ≤ slice_index s.done first). first_with s n (first + 1) (omega arith) (λ q lt. ⊎_elim
      (λ (low : q < first). none q low)
      (λ (high : first ≤ q). let here : first ≡ q = omega arith in subst (λ p. length (acts code s.phase p) ≤ slice_index s.done p) here over)
      (cases_lt q first)))
      (cases_lt (slice_index s.done first) (length (acts code s.phase first)))

  next_turn : (s : State) → IsSettled code s → s.phase < length code.lists →
      (q : ℕ) × (completion code s ≡ q ∷ completion code (turn code s q))
  next_turn s h within =
      ⊎_elim
      (λ (p : (who : ℕ) × (who < code.procs) × (slice_index s.done who < length (acts code s.phase who)) × ((q : ℕ) → q < who → length (acts code s.phase q) ≤ slice_index s.done q)).
      (p.0, completion_step code is s p.0 _ h.dones p.1 within (slice_get-get_or (acts code s.phase p.0) (slice_index s.done p.0) (Zero 0) p.2) p.3))
      (λ (none : (q : ℕ) → q < code.procs → length (acts code s.phase q) ≤ slice_index s.done q).
      absurd (false≢true (sym (not_open code s.phase s.done (λ q lt. le-ltb _ _ (none q lt))) ∙ h.opens within)))
      (first_with s code.procs 0 (omega arith) (λ q lt. absurd (omega arith)))

  all_act : (n : ℕ) (s : State) → length (completion code s) < n → IsSettled code s → CompletionActs code (direct s)
  all_act zero s lt h = absurd (omega arith)
  all_act (suc n) s lt h =
      ⊎_elim
      (λ (within : s.phase < length code.lists).
      let next = next_turn s h within in
      let t : State = turn code s next.0 in
      one_more_acts code (direct s) (direct t) (Turn next.0) (ap (map Turn) next.1) refl (all_act n t (omega (arith, lt, ap length next.1)) (turn_settled code is s next.0 h)))
      (λ (past : length code.lists ≤ s.phase). none_act code (direct s) (ap (map Turn) (completion_past code is s past)))
      (cases_lt s.phase (length code.lists))

  pub completion_acts : (x turns : List ℕ) → CompletionActs code (walked code (direct (start code x)) (map Turn turns))
  completion_acts x turns =
      let s : State = run code (start code x) turns in
      subst (CompletionActs code) (sym (walked_turns code turns (start code x)))
      (all_act (suc (length (completion code s))) s (omega arith) (run_settled code is turns (start code x) (starts_settled code is x)))
