-- Open phases: what turns keep of them, and that the completion ends each.
use Rattle.std.proofs.Common.{◌≡◌, ℕ, zero, suc, ◌+◌, ◌-◌, ◌<◌, ◌≤◌, ◌⊎◌, List, [], ◌∷◌, ◌++◌, Bool, true, false, cond}
use Rattle.std.proofs.Common.{◌||◌, length, take, flat_map, get_or, replicate, Option, Some, None, refl, sym, ap, ◌∙◌}
use Rattle.std.proofs.Common.{subst, arith, inl, inr, ⊎_elim, get_or-set_same, get_or-set_other, length-set, nat_lt}
use Rattle.std.proofs.Common.{nat_eq, ltb-true, ltb-false, lt-ltb, le_refl, le_trans, le_of_eq, eq-eqb, ne_eqb}
use Rattle.std.proofs.Common.{append-nil, suc-le-suc}
use Rattle.std.specs.Prelude.{◌↔◌, IsSome, IsNone, slice_get, slice_index, slice_index_or, slice_set}
use Rattle.std.specs.List.{range_with_len, list_any}
use Rattle.std.proofs.lemmas.Bool.{cases_eq, cases_lt, cases_Bool, false≢true}
use Rattle.std.proofs.lemmas.List.Folds.{list_any_at, list_any_none}
use Rattle.std.proofs.lemmas.List.{length-replicate, get_or_past}
use Rattle.std.proofs.lemmas.List.FromFn.{length-range_with_len, get_or-range_with_len}
use Rattle.icode.specs.declared.action.Action.{Action}
use Rattle.icode.specs.declared.event.Turned.TheVariants.{Did, Waits, Done}
use Rattle.icode.specs.Laws.{SomeActs}
use Rattle.icode.specs.Machine.{Code, IsCode, State, acts, is_open, none_done, next_action, first_open, phases_after}
use Rattle.icode.specs.Machine.{moved_on, acted, turn_with, turn, run, rest_of_phase, whole_phases, completion}
use Rattle.icode.specs.Machine.{finished, start, runs, answer, answer_with, counts_of, counts_so_far, whole_counts}
use Rattle.icode.proofs.End.{IsOver, acts_past, none_done-zero}

-- Open phases

passing : {X : Type 0} (p : X → Bool) (xs : List X) → list_any p xs ≡ true → (x : X) × (p x ≡ true)
passing p [] e = cc
passing p (x ∷ xs) e =
    ⊎_elim
    (λ (here : p x ≡ true). (x, here))
    (λ (not_here : p x ≡ false). passing p xs (sym (or_false (p x) (list_any p xs) not_here) ∙ e))
    (cases_Bool (p x))
  where
    or_false : (a b : Bool) → a ≡ false → (a || b) ≡ b
    or_false a b e = rw e

pub open_at : (code : Code) (phase : ℕ) (done : List ℕ) (q : ℕ) → q < code.procs →
    slice_index done q < length (acts code phase q) → is_open code phase done ≡ true
open_at code phase done q lt left =
    list_any_at (λ q. nat_lt (slice_index done q) (length (acts code phase q))) (range_with_len 0 code.procs) q 0
    (rw length-range_with_len lt)
    (ap (λ q. nat_lt (slice_index done q) (length (acts code phase q))) (get_or-range_with_len 0 code.procs q 0 lt ∙ omega arith) ∙ lt-ltb _ _ left)

-- where no processor has an action left, the phase isn't open
pub not_open : (code : Code) (phase : ℕ) (done : List ℕ) → ((q : ℕ) → q < code.procs →
    nat_lt (slice_index done q) (length (acts code phase q)) ≡ false) → is_open code phase done ≡ false
not_open code phase done none =
    let p : ℕ → Bool = λ q. nat_lt (slice_index done q) (length (acts code phase q)) in
    list_any_none p (range_with_len 0 code.procs) (λ k d lt.
    let within : k < code.procs = omega (arith, length-range_with_len 0 code.procs) in
    let here : get_or (range_with_len 0 code.procs) k d ≡ k = get_or-range_with_len 0 code.procs k d within ∙ omega arith in
    ap p here ∙ none k within)

-- a phase that is not open is over
pub closed_over : (code : Code) → IsCode code → (phase : ℕ) (done : List ℕ) → is_open code phase done ≡ false →
    IsOver code phase done
closed_over code is phase done e =
    record {
      each = λ q. ⊎_elim
          (λ (lt : q < code.procs). ⊎_elim
          (λ (left : slice_index done q < length (acts code phase q)). absurd (false≢true (sym e ∙ open_at code phase done q lt left)))
          (λ (none : length (acts code phase q) ≤ slice_index done q). none)
          (cases_lt (slice_index done q) (length (acts code phase q))))
          (λ (ge : code.procs ≤ q). subst (λ (actions : List Action). length actions ≤ slice_index done q) (sym (acts_past code is phase q ge)) (omega arith))
          (cases_lt q code.procs);
    }

pub open_not_over : (code : Code) (phase : ℕ) (done : List ℕ) → is_open code phase done ≡ true →
    IsOver code phase done → ⊥
open_not_over code phase done e over =
    let some = passing (λ q. nat_lt (slice_index done q) (length (acts code phase q))) (range_with_len 0 code.procs) e in
    let left : slice_index done some.0 < length (acts code phase some.0) = ltb-true _ _ some.1 in
    omega (arith, over.each some.0)

pub past_over : (code : Code) (phase : ℕ) (done : List ℕ) → length code.lists ≤ phase → IsOver code phase done
past_over code phase done ge = record { each = λ q. subst (λ (actions : List Action). length actions ≤ slice_index done q) (sym (ap (λ lists. slice_index_or lists q []) (get_or_past code.lists phase [] ge))) (omega arith) }

-- The first open phase

pub first_open-open : (code : Code) (n phase : ℕ) → is_open code phase (none_done code) ≡ true →
    first_open code (suc n) phase ≡ phase
first_open-open code n phase e = ap (λ b. cond b phase (first_open code n (phase + 1))) e

pub first_open-closed : (code : Code) (n phase : ℕ) → is_open code phase (none_done code) ≡ false →
    first_open code (suc n) phase ≡ first_open code n (phase + 1)
first_open-closed code n phase e = ap (λ b. cond b phase (first_open code n (phase + 1))) e

-- it lies within the phases and is open unless it is past them
pub record IsFirst (code : Code) (n phase first : ℕ) : Type 0 where
  pub low : phase ≤ first
  pub high : first ≤ n + phase
  pub opens : first < n + phase → is_open code first (none_done code) ≡ true

pub first_is : (code : Code) (n phase : ℕ) → IsFirst code n phase (first_open code n phase)
first_is code zero phase = record { low = le_refl phase; high = omega arith; opens = λ h. absurd (omega arith) }
first_is code (suc n) phase =
    ⊎_elim
    (λ (e : is_open code phase (none_done code) ≡ true). subst (IsFirst code (suc n) phase) (sym (first_open-open code n phase e))
    (record { low = le_refl phase; high = omega arith; opens = λ h. e }))
    (λ (e : is_open code phase (none_done code) ≡ false). subst (IsFirst code (suc n) phase) (sym (first_open-closed code n phase e))
    (let r = first_is code n (phase + 1) in record { low = omega (arith, r.low); high = omega (arith, r.high); opens = λ h. r.opens (omega arith) }))
    (cases_Bool (is_open code phase (none_done code)))

-- What each turn keeps

-- a phase is open unless all are over
pub record IsSettled (code : Code) (s : State) : Type 0 where
  pub dones : length s.done ≡ code.procs
  pub within : s.phase ≤ length code.lists
  pub opens : s.phase < length code.lists → is_open code s.phase s.done ≡ true

-- who has an action left is a processor, in a phase of the code
pub has_action : (code : Code) → IsCode code → (phase q n : ℕ) (a : Action) → slice_get (acts code phase q) n ≡ Some a →
    (q < code.procs) × (phase < length code.lists)
has_action code is phase q n a e =
    let none : (actions : List Action) → actions ≡ [] → slice_get actions n ≡ Some a → ⊥ = λ actions z h. none_of actions n a z h in (
      ⊎_elim (λ (lt : q < code.procs). lt) (λ (ge : code.procs ≤ q). absurd (none (acts code phase q) (acts_past code is phase q ge) e)) (cases_lt q code.procs),
      ⊎_elim (λ (lt : phase < length code.lists). lt) (λ (ge : length code.lists ≤ phase). absurd (none (acts code phase q) (ap (λ lists. slice_index_or lists q []) (get_or_past code.lists phase [] ge)) e)) (cases_lt phase (length code.lists)),
    )
  where
    none_of : (actions : List Action) (n : ℕ) (a : Action) → actions ≡ [] → slice_get actions n ≡ Some a → ⊥
    none_of [] n a z h = cc
    none_of (x ∷ actions) n a z h = cc

pub none_left : (actions : List Action) (n : ℕ) → slice_get actions n ≡ None → length actions ≤ n
none_left [] n e = omega arith
none_left (a ∷ actions) zero e = cc
none_left (a ∷ actions) (suc n) e = suc-le-suc (none_left actions n e)

-- where the phase moves on
unfoldable pub next_state : Code → State → State
next_state code s =
    record {
      memory = s.memory;
      registers = s.registers;
      phase = first_open code (phases_after code s.phase) (s.phase + 1);
      done = none_done code;
    }

module _ (code : Code) (is : IsCode code) where
  pub moved_on-open : (s : State) → is_open code s.phase s.done ≡ true → moved_on code s ≡ s
  unfolding next_state
  moved_on-open s e = ap (λ b. cond b s (next_state code s)) e

  pub moved_on-closed : (s : State) → is_open code s.phase s.done ≡ false → moved_on code s ≡ next_state code s
  unfolding next_state
  moved_on-closed s e = ap (λ b. cond b s (next_state code s)) e

  moved_on_settled : (s : State) → s.phase < length code.lists → length s.done ≡ code.procs →
      IsSettled code (moved_on code s)
  unfolding next_state
  moved_on_settled s lt dones =
      ⊎_elim
      (λ (e : is_open code s.phase s.done ≡ true). subst (IsSettled code) (sym (moved_on-open s e)) (record { dones = dones; within = omega arith; opens = λ h. e }))
      (λ (e : is_open code s.phase s.done ≡ false). subst (IsSettled code) (sym (moved_on-closed s e))
      (let first = first_is code (phases_after code s.phase) (s.phase + 1) in
      record { dones = length-replicate code.procs 0; within = omega (arith, first.high); opens = λ h. first.opens (omega arith) }))
      (cases_Bool (is_open code s.phase s.done))

  moved_on_later : (s : State) → s.phase ≤ (moved_on code s).phase
  unfolding next_state
  moved_on_later s =
      ⊎_elim
      (λ (e : is_open code s.phase s.done ≡ true). omega (arith, ap (λ (t : State). t.phase) (moved_on-open s e)))
      (λ (e : is_open code s.phase s.done ≡ false). omega (arith, ap (λ (t : State). t.phase) (moved_on-closed s e), (first_is code (phases_after code s.phase) (s.phase + 1)).low))
      (cases_Bool (is_open code s.phase s.done))

  next_later : (s : State) → s.phase < (next_state code s).phase
  unfolding next_state
  next_later s = omega (arith, (first_is code (phases_after code s.phase) (s.phase + 1)).low)

  pub turn_settled : (s : State) (q : ℕ) → IsSettled code s → IsSettled code (turn code s q)
  turn_settled s q g = with_action (next_action code s q) refl
    where
      with_action : (o : Option Action) → next_action code s q ≡ o → IsSettled code (turn_with code q s o)
      with_action None e = g
      with_action (Some a) e = moved_on_settled (acted code q a s) (has_action code is s.phase q (slice_index s.done q) a e).1 (length-set s.done q _ ∙ g.dones)

  turn_later : (s : State) (q : ℕ) → s.phase ≤ (turn code s q).phase
  turn_later s q = with_action (next_action code s q)
    where
      with_action : (o : Option Action) → s.phase ≤ (turn_with code q s o).phase
      with_action None = le_refl s.phase
      with_action (Some a) = moved_on_later (acted code q a s)

  pub run_settled : (turns : List ℕ) (s : State) → IsSettled code s → IsSettled code (run code s turns)
  run_settled [] s g = g
  run_settled (q ∷ turns) s g = run_settled turns (turn code s q) (turn_settled s q g)

  run_later : (turns : List ℕ) (s : State) → s.phase ≤ (run code s turns).phase
  run_later [] s = le_refl s.phase
  run_later (q ∷ turns) s = le_trans (turn_later s q) (run_later turns (turn code s q))

  pub run-append : (xs ys : List ℕ) (s : State) → run code s (xs ++ ys) ≡ run code (run code s xs) ys
  run-append [] ys s = refl
  run-append (q ∷ xs) ys s = run-append xs ys (turn code s q)

  pub starts_settled : (x : List ℕ) → IsSettled code (start code x)
  starts_settled x =
      let first = first_is code (length code.lists) 0 in
      record { dones = length-replicate code.procs 0; within = omega (arith, first.high); opens = λ h. first.opens (omega arith) }

  -- The completion ends it

  abbrev one_if : Bool → ℕ
  one_if b = cond b 1 0

  -- how often q has a turn
  abbrev turns_of : ℕ → List ℕ → ℕ
  turns_of q [] = 0
  turns_of q (p ∷ turns) = one_if (nat_eq p q) + turns_of q turns

  turns_of-append : (q : ℕ) (xs ys : List ℕ) → turns_of q (xs ++ ys) ≡ turns_of q xs + turns_of q ys
  turns_of-append q [] ys = omega arith
  turns_of-append q (x ∷ xs) ys = omega (arith, turns_of-append q xs ys)

  turns_of-replicate : (q n : ℕ) → turns_of q (replicate n q) ≡ n
  turns_of-replicate q zero = refl
  turns_of-replicate q (suc n) = rw (eq-eqb q q refl) (omega (arith, turns_of-replicate q n))

  turns_of-flat_map : (g : ℕ → ℕ) (q n first : ℕ) → first ≤ q → q < first + n →
      g q ≤ turns_of q (flat_map (λ p. replicate (g p) p) (range_with_len first n))
  turns_of-flat_map g q zero first low high = absurd (omega arith)
  turns_of-flat_map g q (suc n) first low high =
      ⊎_elim
      (λ (e : first ≡ q). omega (arith, turns_of-append q (replicate (g first) first) (flat_map (λ p. replicate (g p) p) (range_with_len (first + 1) n)), subst (λ p. g q ≤ turns_of q (replicate (g p) p)) (sym e) (le_of_eq (sym (turns_of-replicate q (g q))))))
      (λ (ne : first ≡ q → ⊥). omega (arith, turns_of-append q (replicate (g first) first) (flat_map (λ p. replicate (g p) p) (range_with_len (first + 1) n)), turns_of-flat_map g q n (first + 1) (omega arith) (omega arith)))
      (cases_eq first q)

  rest_is_enough : (phase : ℕ) (done : List ℕ) (q : ℕ) → length (acts code phase q) ≤ slice_index done q
      + turns_of q (rest_of_phase code phase done)
  rest_is_enough phase done q =
      ⊎_elim
      (λ (lt : q < code.procs). omega (arith, turns_of-flat_map (λ p. length (acts code phase p) - slice_index done p) q code.procs 0 (omega arith) (omega arith)))
      (λ (ge : code.procs ≤ q). subst (λ (actions : List Action). length actions ≤ slice_index done q + turns_of q (rest_of_phase code phase done)) (sym (acts_past code is phase q ge)) (omega arith))
      (cases_lt q code.procs)

  -- a turn leaves the phase, or each processor has enough turns among the others
  record HasEnough (s : State) (phase : ℕ) (turns : List ℕ) : Type 0 where
    each : (q : ℕ) → length (acts code phase q) ≤ slice_index s.done q + turns_of q turns

  same_turn : (p q : ℕ) → p ≡ q → one_if (nat_eq p q) ≡ 1
  same_turn p q e = ap one_if (eq-eqb p q e)

  other_turn : (p q : ℕ) → (p ≡ q → ⊥) → one_if (nat_eq p q) ≡ 0
  other_turn p q ne = ap one_if (ne_eqb p q ne)

  turn_leaves : (s : State) (p : ℕ) (turns : List ℕ) → length s.done ≡ code.procs → HasEnough s s.phase (p ∷ turns) →
      (s.phase < (turn code s p).phase) ⊎ (((turn code s p).phase ≡ s.phase) × HasEnough (turn code s p) s.phase turns)
  turn_leaves s p turns dones enough = with_action (next_action code s p) refl
    where
      acted_enough : (a : Action) → p < code.procs → HasEnough (acted code p a s) s.phase turns
      acted_enough a lt = record {
        each = λ q. ⊎_elim
            (λ (e : p ≡ q). omega (arith, enough.each q, same_turn p q e, subst (λ q. slice_index (slice_set s.done p (suc (slice_index s.done p))) q ≡ suc (slice_index s.done q)) e (get_or-set_same s.done p (suc (slice_index s.done p)) 0 (omega arith))))
            (λ (ne : p ≡ q → ⊥). omega (arith, enough.each q, other_turn p q ne, get_or-set_other s.done p q (suc (slice_index s.done p)) 0 (λ e. ne (sym e))))
            (cases_eq p q);
      }

      with_action : (o : Option Action) → next_action code s p ≡ o →
          (s.phase < (turn_with code p s o).phase) ⊎ (((turn_with code p s o).phase ≡ s.phase)
          × HasEnough (turn_with code p s o) s.phase turns)
      with_action None e = inr (
        refl,
        record {
          each = λ q. ⊎_elim
              (λ (same : p ≡ q). omega (arith, subst (λ q. length (acts code s.phase q) ≤ slice_index s.done q) same (none_left (acts code s.phase p) (slice_index s.done p) e)))
              (λ (ne : p ≡ q → ⊥). omega (arith, enough.each q, other_turn p q ne))
              (cases_eq p q);
        },
      )
      with_action (Some a) e =
          ⊎_elim
          (λ (open_still : is_open code s.phase (acted code p a s).done ≡ true).
          subst (λ (t : State). (s.phase < t.phase) ⊎ ((t.phase ≡ s.phase) × HasEnough t s.phase turns)) (sym (moved_on-open (acted code p a s) open_still))
          (inr (refl, acted_enough a (has_action code is s.phase p (slice_index s.done p) a e).0)))
          (λ (closed : is_open code s.phase (acted code p a s).done ≡ false).
          inl (omega (arith, ap (λ (t : State). t.phase) (moved_on-closed (acted code p a s) closed), next_later (acted code p a s))))
          (cases_Bool (is_open code s.phase (acted code p a s).done))

  -- a phase is left once each processor has had as many turns as it has actions left
  phase_left : (turns : List ℕ) (s : State) → IsSettled code s → s.phase < length code.lists →
      HasEnough s s.phase turns → s.phase < (run code s turns).phase
  phase_left [] s o lt enough =
      absurd (open_not_over code s.phase s.done (o.opens lt) (record { each = λ q. omega (arith, enough.each q) }))
  phase_left (p ∷ turns) s o lt enough =
      let later : (turn code s p).phase ≤ (run code s (p ∷ turns)).phase = run_later turns (turn code s p) in
      ⊎_elim
      (λ (gone : s.phase < (turn code s p).phase). le_trans gone later)
      (λ (stays : ((turn code s p).phase ≡ s.phase) × HasEnough (turn code s p) s.phase turns).
      let within : (turn code s p).phase < length code.lists = omega (arith, stays.0) in
      let rest : (turn code s p).phase < (run code (turn code s p) turns).phase = phase_left turns (turn code s p) (turn_settled s p o) within
      (subst (λ phase. HasEnough (turn code s p) phase turns) (sym stays.0) stays.1) in
      omega (arith, stays.0, rest))
      (turn_leaves s p turns o.dones enough)

  -- so the completion leaves every phase
  whole_phases_end : (n phase : ℕ) (s : State) → IsSettled code s → n + phase ≡ length code.lists → phase ≤ s.phase →
      length code.lists ≤ (run code s (whole_phases code n phase)).phase
  whole_phases_end zero phase s o all low = omega (arith)
  whole_phases_end (suc n) phase s o all low =
      let rest : List ℕ = rest_of_phase code phase (none_done code) in
      let s1 : State = run code s rest in
      let left : phase + 1 ≤ s1.phase =
      ⊎_elim
      (λ (past : phase < s.phase). omega (arith, run_later rest s))
      (λ (here : s.phase ≤ phase).
      let same : s.phase ≡ phase = omega arith in
      omega (arith, phase_left rest s o (omega arith) (subst (λ p. HasEnough s p rest) (sym same) (record { each = λ q. omega (arith, rest_is_enough phase (none_done code) q, none_done-zero code q) }))))
      (cases_lt phase s.phase) in
      subst (λ (t : State). length code.lists ≤ t.phase) (sym (run-append rest (whole_phases code n (phase + 1)) s))
      (whole_phases_end n (phase + 1) s1 (run_settled rest s o) (omega arith) left)

  pub completion_ends : (s : State) → IsSettled code s → length code.lists ≤ (finished code s).phase
  completion_ends s o =
      let rest : List ℕ = rest_of_phase code s.phase s.done in
      let s1 : State = run code s rest in
      ⊎_elim
      (λ (lt : s.phase < length code.lists).
      subst (λ (t : State). length code.lists ≤ t.phase) (sym (run-append rest (whole_phases code (phases_after code s.phase) (s.phase + 1)) s))
      (whole_phases_end (phases_after code s.phase) (s.phase + 1) s1 (run_settled rest s o) (omega arith)
      (omega (arith, phase_left rest s o lt (record { each = rest_is_enough s.phase s.done })))))
      (λ (ge : length code.lists ≤ s.phase). le_trans ge (run_later (completion code s) s))
      (cases_lt s.phase (length code.lists))

  -- whatever the turns, each processor has executed all of its lists
  pub counts_of_runs : (x turns : List ℕ) (q : ℕ) → counts_so_far code (runs code x turns) q ≡ whole_counts code q
  counts_of_runs x turns q =
      let s : State = run code (start code x) turns in
      let o = run_settled turns (start code x) (starts_settled x) in
      let last : State = finished code s in
      let within = (run_settled (completion code s) s o).within in
      let all : last.phase ≡ length code.lists = omega (arith, completion_ends s o) in
      let none : acts code last.phase q ≡ [] = ap (λ lists. slice_index_or lists q []) (get_or_past code.lists last.phase [] (omega arith)) in
      ap (counts_of code.lanes)
      (ap (λ actions. flat_map (λ phase. acts code phase q) (range_with_len 0 last.phase) ++ take (slice_index last.done q) actions) none
      ∙ (ap (λ actions. flat_map (λ phase. acts code phase q) (range_with_len 0 last.phase) ++ actions) (take-nil (slice_index last.done q))
      ∙ (append-nil (flat_map (λ phase. acts code phase q) (range_with_len 0 last.phase))
      ∙ ap (λ n. flat_map (λ phase. acts code phase q) (range_with_len 0 n)) all)))
    where
      take-nil : (n : ℕ) → take {A = Action} n [] ≡ []
      take-nil zero = refl
      take-nil (suc n) = refl

-- Who acts

-- an action stands at each place of a list
some_at : (actions : List Action) (n : ℕ) → n < length actions → IsSome (slice_get actions n)
some_at [] n lt = absurd (omega arith)
some_at (a ∷ actions) zero lt = refl
some_at (a ∷ actions) (suc n) lt = some_at actions n (omega arith)

module _ (code : Code) (is : IsCode code) where
  -- in an open phase some processor has an action left
  open_acts : (s : State) → is_open code s.phase s.done ≡ true → SomeActs code s
  open_acts s e =
      let some = passing (λ q. nat_lt (slice_index s.done q) (length (acts code s.phase q))) (range_with_len 0 code.procs) e in
      let left : slice_index s.done some.0 < length (acts code s.phase some.0) = ltb-true _ _ some.1 in
      (some.0, acts_within s.phase some.0 (slice_index s.done some.0) left, some_at (acts code s.phase some.0) (slice_index s.done some.0) left)
    where
      acts_within : (phase q n : ℕ) → n < length (acts code phase q) → q < code.procs
      acts_within phase q n left =
          ⊎_elim
          (λ (lt : q < code.procs). lt)
          (λ (ge : code.procs ≤ q). absurd (omega (arith, left, ap length (acts_past code is phase q ge))))
          (cases_lt q code.procs)

  -- where some processor has an action left, the phase is not past
  acts_before_end : (s : State) (q : ℕ) → IsSome (next_action code s q) → s.phase < length code.lists
  acts_before_end s q some = at (next_action code s q) refl some
    where
      at : (o : Option Action) → next_action code s q ≡ o → IsSome o → s.phase < length code.lists
      at None e some = absurd (false≢true some)
      at (Some a) e some = (has_action code is s.phase q (slice_index s.done q) a e).1

  pub phases_open : (x turns : List ℕ) → (run code (start code x) turns).phase < length code.lists →
      is_open code (run code (start code x) turns).phase (run code (start code x) turns).done ≡ true
  phases_open x turns = (run_settled code is turns (start code x) (starts_settled code is x)).opens

  -- past all phases no processor has an action left
  none_acts : (s : State) → length code.lists ≤ s.phase → (q : ℕ) → IsNone (next_action code s q)
  none_acts s past q = at (next_action code s q) refl
    where
      at : (o : Option Action) → next_action code s q ≡ o → IsNone o
      at None e = refl
      at (Some a) e = absurd (omega (arith, past, (has_action code is s.phase q (slice_index s.done q) a e).1))

  waits_exactly : (s : State) (q : ℕ) → IsSettled code s → (answer code s q ≡ Waits) ↔
      (IsNone (next_action code s q) × SomeActs code s)
  waits_exactly s q settled = at (next_action code s q)
    where
      waiting : (b : Bool) → nat_lt s.phase (length code.lists) ≡ b → (cond b Waits Done ≡ Waits) ↔ SomeActs code s
      waiting true e = (λ _. open_acts s (settled.opens (ltb-true _ _ e)), λ _. refl)
      waiting false e = (λ h. absurd (done_waits h), λ some. absurd (false≢true (sym e ∙ lt-ltb _ _ (acts_before_end s some.0 some.2))))
        where
          done_waits : Done ≡ Waits → ⊥
          done_waits h = cc

      at : (o : Option Action) → (answer_with code s o ≡ Waits) ↔ (IsNone o × SomeActs code s)
      at (Some a) = (λ e. absurd (did_waits e), λ h. absurd (false≢true (sym h.0)))
        where
          did_waits : Did a ≡ Waits → ⊥
          did_waits e = cc
      at None = let w = waiting (nat_lt s.phase (length code.lists)) refl in (λ e. (refl, w.0 e), λ h. w.1 h.1)

  done_exactly : (s : State) (q : ℕ) → IsSettled code s → (answer code s q ≡ Done) ↔ ((p : ℕ) →
      IsNone (next_action code s p))
  done_exactly s q settled = at (next_action code s q) refl
    where
      over : (b : Bool) → nat_lt s.phase (length code.lists) ≡ b →
          (cond b Waits Done ≡ Done) ↔ ((p : ℕ) → IsNone (next_action code s p))
      over true e = (λ h. absurd (waits_done h), λ none. absurd (both (open_acts s (settled.opens (ltb-true _ _ e))) none))
        where
          waits_done : Waits ≡ Done → ⊥
          waits_done h = cc

          both : SomeActs code s → ((p : ℕ) → IsNone (next_action code s p)) → ⊥
          both some none = some_or_none (next_action code s some.0) some.2 (none some.0)
            where
              some_or_none : (o : Option Action) → IsSome o → IsNone o → ⊥
              some_or_none None some none = false≢true some
              some_or_none (Some a) some none = false≢true (sym none)
      over false e = (λ _. none_acts s (ltb-false _ _ e), λ _. refl)

      at : (o : Option Action) → next_action code s q ≡ o → (answer_with code s o ≡ Done) ↔ ((p : ℕ) →
          IsNone (next_action code s p))
      at (Some a) e = (λ h. absurd (did_done h), λ none. absurd (some_none (subst IsNone e (none q))))
        where
          did_done : Did a ≡ Done → ⊥
          did_done h = cc

          some_none : IsNone (Some a) → ⊥
          some_none h = false≢true (sym h)
      at None e = over (nat_lt s.phase (length code.lists)) refl

  pub waits_for : (x turns : List ℕ) (q : ℕ) → (answer code (run code (start code x) turns) q ≡ Waits) ↔
      (IsNone (next_action code (run code (start code x) turns) q) × SomeActs code (run code (start code x) turns))
  waits_for x turns q = waits_exactly (run code (start code x) turns) q (run_settled code is turns (start code x) (starts_settled code is x))

  pub done_where : (x turns : List ℕ) (q : ℕ) → (answer code (run code (start code x) turns) q ≡ Done) ↔ ((p : ℕ) →
      IsNone (next_action code (run code (start code x) turns) p))
  done_where x turns q = done_exactly (run code (start code x) turns) q (run_settled code is turns (start code x) (starts_settled code is x))
