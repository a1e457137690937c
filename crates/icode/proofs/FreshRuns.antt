-- A run of a fresh code among leftovers goes with the run from the start.
use Rattle.std.proofs.Common.{◌≡◌, ℕ, zero, suc, ◌+◌, ◌-◌, ◌*◌, ◌<◌, ◌≤◌, ◌≢◌, ◌⊎◌, List, [], ◌∷◌, ◌++◌, length, map, flat_map}
use Rattle.std.proofs.Common.{true, false, Option, Some, None, refl, sym, ap, ap₂, ◌∙◌, subst, arith, inl, inr, ⊎_elim}
use Rattle.std.proofs.Common.{Contains, take, take_all, replicate, append-nil, get_or-set_same, get_or-set_other}
use Rattle.std.specs.Prelude.{slice_get, slice_index, slice_index_or, slice_set, option_map}
use Rattle.std.proofs.lemmas.Bool.{cases_Bool, cases_eq, cases_lt}
use Rattle.std.proofs.lemmas.Grind.{flat_map-append}
use Rattle.std.proofs.lemmas.List.{length-replicate, length-set, length-append, get_or-replicate, get_or_past}
use Rattle.std.proofs.lemmas.List.Elements.{Contains-append_cases}
use Rattle.std.proofs.lemmas.Option.{slice_get-map}
use Rattle.icode.specs.declared.action.Action.{Action}
use Rattle.icode.specs.Fresh.{IsFresh, IsKnown, HaveStored, HavePut, put_registers}
use Rattle.icode.specs.Leftovers.{Leftovers, AreLeftovers, start_among, with_files}
use Rattle.icode.specs.Machine.{Code, IsCode, State, Local, acts, is_open, none_done, first_open, phases_after, moved_on}
use Rattle.icode.specs.Machine.{acted, turn_with, turn, run, completion, start, padded, words_at, stored_words}
use Rattle.icode.proofs.End.{none_done-zero}
use Rattle.icode.proofs.FreshActions.{SameRegister, ReadsSame, LeavesSame}
use Rattle.icode.proofs.Leftovers.{SameCourse, moved_course, completion_course, filled_same, filled_past}
use Rattle.icode.proofs.Lines.{Contains-nil}
use Rattle.icode.proofs.Open.{closed_over, first_open-open, first_open-closed, first_is, has_action, next_state}
use Rattle.icode.proofs.Open.{moved_on-open, moved_on-closed, run_settled, starts_settled, completion_ends}
use Rattle.icode.proofs.Words.{words_at-agree, take-next}

-- ---- lists

empty : {X : Type 0} (xs : List X) → length xs ≤ 0 → xs ≡ []
empty [] none = refl
empty (x ∷ xs) none = absurd (omega (arith, none))

front_same : (x ys zs : List ℕ) (k : ℕ) → k < length x → slice_get (x ++ ys) k ≡ slice_get (x ++ zs) k
front_same [] ys zs k low = absurd (omega (arith, low))
front_same (v ∷ x) ys zs zero low = refl
front_same (v ∷ x) ys zs (suc k) low = front_same x ys zs k (omega (arith, low))

-- ---- phases without actions

module _ (code : Code) (is : IsCode code) where
  skipped : (n phase earlier q : ℕ) → phase ≤ earlier → earlier < first_open code n phase → acts code earlier q ≡ []
  skipped zero phase earlier q low high = absurd (omega (arith, low, high))
  skipped (suc n) phase earlier q low high =
      ⊎_elim
      (λ (e : is_open code phase (none_done code) ≡ true).
      let first = first_open-open code n phase e in absurd (omega (arith, low, high, first)))
      (λ (e : is_open code phase (none_done code) ≡ false).
      let first = first_open-closed code n phase e in
      ⊎_elim
      (λ (here : earlier ≡ phase).
      let over = closed_over code is phase (none_done code) e in
      let none : length (acts code phase q) ≤ 0 = subst (λ n. length (acts code phase q) ≤ n) (none_done-zero code q) (over.each q) in
      subst (λ f. acts code f q ≡ []) (sym here) (empty (acts code phase q) none))
      (λ (later : earlier ≡ phase → ⊥). skipped n (phase + 1) earlier q (omega (arith, low, later)) (omega (arith, high, first)))
      (cases_eq earlier phase))
      (cases_Bool (is_open code phase (none_done code)))

  none_stored : (lanes k : ℕ) (actions : List Action) → actions ≡ [] → HaveStored lanes actions k → ⊥
  none_stored lanes k actions e h = Contains-nil k (subst (λ actions. HaveStored lanes actions k) e h)

  none_put : (lanes r : ℕ) (actions : List Action) → actions ≡ [] → HavePut lanes actions r → ⊥
  none_put lanes r actions e h = Contains-nil r (subst (λ actions. HavePut lanes actions r) e h)

  past_acts : (phase q : ℕ) → length code.lists ≤ phase → acts code phase q ≡ []
  past_acts phase q past = ap (λ lists. slice_index_or lists q []) (get_or_past code.lists phase [] past)

  nothing_done : (phase q : ℕ) → take (slice_index (none_done code) q) (acts code phase q) ≡ []
  nothing_done phase q = ap (λ n. take n (acts code phase q)) (none_done-zero code q) ∙ take_none (acts code phase q)
    where
      take_none : (xs : List Action) → take 0 xs ≡ []
      take_none [] = refl
      take_none (x ∷ xs) = refl

-- ---- one more action

one_more : {Y : Type 0} (f : Action → List Y) (actions : List Action) (n : ℕ) (a : Action) (y : Y) →
    slice_get actions n ≡ Some a → Contains (flat_map f (take (suc n) actions)) y →
    Contains (flat_map f (take n actions)) y ⊎ Contains (f a) y
one_more f actions n a y e h =
    let more : flat_map f (take (suc n) actions) ≡ flat_map f (take n actions) ++ (f a ++ []) =
    ap (flat_map f) (take-next actions n a e) ∙ flat_map-append f (take n actions) (a ∷ []) in
    ⊎_elim
    (λ (before : Contains (flat_map f (take n actions)) y). inl before)
    (λ (now : Contains (f a ++ []) y). inr (subst (λ ys. Contains ys y) (append-nil (f a)) now))
    (Contains-append_cases (flat_map f (take n actions)) (f a ++ []) y (subst (λ ys. Contains ys y) more h))

-- ---- machines whose actions may have more than the code's

abbrev at : List ℕ → List (List ℕ) → ℕ → List ℕ → State
at memory registers phase done = record { memory = memory; registers = registers; phase = phase; done = done }

abbrev local : List ℕ → List (List ℕ) → ℕ → Local
local memory registers q = record { memory = memory; registers = slice_index_or registers q [] }

module _ (code : Code) (is : IsCode code) (F : Type 0) (action_of : F → Action) (list : ℕ → ℕ → List F)
    (acts_are : (phase q : ℕ) → acts code phase q ≡ map action_of (list phase q)) (eff : F → Local → Local) where
  abbrev did : ℕ → F → State → State
  did q f s =
      let after : Local = eff f (record { memory = s.memory; registers = slice_index_or s.registers q [] }) in
      record {
        memory = after.memory;
        registers = slice_set s.registers q after.registers;
        phase = s.phase;
        done = slice_set s.done q (suc (slice_index s.done q));
      }

  abbrev pub step_with : ℕ → State → Option F → State
  step_with q s None = s
  step_with q s (Some f) = moved_on code (did q f s)

  abbrev pub step : State → ℕ → State
  step s q = step_with q s (slice_get (list s.phase q) (slice_index s.done q))

  abbrev pub steps : State → List ℕ → State
  steps s [] = s
  steps s (q ∷ turns) = steps (step s q) turns

  abbrev pub step_among : Leftovers → State → ℕ → State
  step_among left s q = with_files left s.phase (step s q)

  abbrev pub steps_among : Leftovers → State → List ℕ → State
  steps_among left s [] = s
  steps_among left s (q ∷ turns) = steps_among left (step_among left s q) turns

  -- they go through the phases as the code does

  next_is : (phase q n : ℕ) → slice_get (acts code phase q) n ≡ option_map action_of (slice_get (list phase q) n)
  next_is phase q n = ap (λ xs. slice_get xs n) (acts_are phase q) ∙ slice_get-map action_of (list phase q) n

  step_course : (s t : State) (q : ℕ) → SameCourse s t → SameCourse (step s q) (turn code t q)
  step_course s t q same =
      let here : slice_get (list s.phase q) (slice_index s.done q) ≡ slice_get (list t.phase q) (slice_index t.done q) =
      ap₂ (λ phase done. slice_get (list phase q) (slice_index done q)) same.phase same.done in
      subst (λ o. SameCourse (step_with q s o) (turn code t q)) (sym here)
      (subst (λ o. SameCourse (step_with q s (slice_get (list t.phase q) (slice_index t.done q))) (turn_with code q t o)) (sym (next_is t.phase q (slice_index t.done q)))
      (with_option (slice_get (list t.phase q) (slice_index t.done q))))
    where
      with_option : (o : Option F) → SameCourse (step_with q s o) (turn_with code q t (option_map action_of o))
      with_option None = same
      with_option (Some f) =
          moved_course code is (did q f s) (acted code q (action_of f) t)
          (record { phase = same.phase; done = ap (λ done. slice_set done q (suc (slice_index done q))) same.done })

  steps_course : (turns : List ℕ) (s t : State) → SameCourse s t → SameCourse (steps s turns) (run code t turns)
  steps_course [] s t same = same
  steps_course (q ∷ turns) s t same = steps_course turns (step s q) (turn code t q) (step_course s t q same)

  steps_end : (x turns : List ℕ) → (let s = steps (start code x) turns in length code.lists ≤ (steps s (completion code s)).phase)
  steps_end x turns =
      let s : State = steps (start code x) turns in
      let t : State = run code (start code x) turns in
      let same : SameCourse s t = steps_course turns (start code x) (start code x) (record { phase = refl; done = refl }) in
      let whole : SameCourse (steps s (completion code s)) (run code t (completion code s)) = steps_course (completion code s) s t same in
      let past = completion_ends code is t (run_settled code is turns (start code x) (starts_settled code is x)) in
      let last : (run code t (completion code s)).phase ≡ (run code t (completion code t)).phase =
      ap (λ turns. (run code t turns).phase) (completion_course code is s t same) in
      omega (arith, past, last, whole.phase)

  -- ---- two states

  module _ (leaves : (phase q n : ℕ) (f : F) → slice_get (list phase q) n ≡ Some f → (s t : Local) →
      ReadsSame code.lanes (action_of f) s t → LeavesSame code.lanes (action_of f) s t (eff f s) (eff f t))
      (fresh : IsFresh code) (left : Leftovers) (are : AreLeftovers code left) where
    record Alike (phase : ℕ) (done m m' : List ℕ) (r r' : List (List ℕ)) : Type 0 where
      dones : length done ≡ code.procs
      files : length r ≡ code.procs
      files_too : length r' ≡ code.procs
      long : length m ≡ length m'
      each : (q : ℕ) → q < code.procs → length (slice_index_or r q []) ≡ code.regs * code.lanes
      each_too : (q : ℕ) → q < code.procs → length (slice_index_or r' q []) ≡ code.regs * code.lanes
      words : (q k : ℕ) → IsKnown code phase q (slice_index done q) k → slice_get m k ≡ slice_get m' k
      registers : (q p : ℕ) → HavePut code.lanes (take (slice_index done q) (acts code phase q)) p →
          SameRegister code.lanes p (slice_index_or r q []) (slice_index_or r' q [])

    record Together (s t : State) : Type 0 where
      phase : s.phase ≡ t.phase
      done : s.done ≡ t.done
      alike : Alike s.phase s.done s.memory t.memory s.registers t.registers

    set_each : (q : ℕ) (r : List (List ℕ)) (file : List ℕ) → length r ≡ code.procs → q < code.procs →
        length file ≡ code.regs * code.lanes →
        ((p : ℕ) → p < code.procs → length (slice_index_or r p []) ≡ code.regs * code.lanes) → (p : ℕ) →
        p < code.procs → length (slice_index_or (slice_set r q file) p []) ≡ code.regs * code.lanes
    set_each q r file files low long each p under =
        ⊎_elim
        (λ (e : p ≡ q). subst (λ o. length (slice_index_or (slice_set r q file) o []) ≡ code.regs * code.lanes) (sym e)
        (ap length (get_or-set_same r q file [] (omega (arith, files, low))) ∙ long))
        (λ (ne : p ≡ q → ⊥). ap length (get_or-set_other r q p file [] ne) ∙ each p under)
        (cases_eq p q)

    did_alike : (phase q : ℕ) (f : F) (done m m' : List ℕ) (r r' : List (List ℕ)) →
        slice_get (list phase q) (slice_index done q) ≡ Some f → Alike phase done m m' r r' →
        Alike phase (slice_set done q (suc (slice_index done q))) (eff f (local m r q)).memory
        (eff f (local m' r' q)).memory (slice_set r q (eff f (local m r q)).registers)
        (slice_set r' q (eff f (local m' r' q)).registers)
    did_alike phase q f done m m' r r' e alike =
        let n : ℕ = slice_index done q in
        let a : Action = action_of f in
        let here : slice_get (acts code phase q) n ≡ Some a = next_is phase q n ∙ ap (option_map action_of) e in
        let low : q < code.procs = (has_action code is phase q n a here).0 in
        let reads : ReadsSame code.lanes a (local m r q) (local m' r' q) =
        record {
          memory_long = alike.long;
          registers_long = alike.each q low ∙ sym (alike.each_too q low);
          loads = λ k has. alike.words q k (fresh.loads phase q n a here k has);
          reads = λ p has. alike.registers q p (fresh.reads phase q n a here p has);
        } in
        let after : LeavesSame code.lanes a (local m r q) (local m' r' q) (eff f (local m r q)) (eff f (local m' r' q)) =
        leaves phase q n f e (local m r q) (local m' r' q) reads in
        let now : slice_index (slice_set done q (suc n)) q ≡ suc n = get_or-set_same done q (suc n) 0 (omega (arith, alike.dones, low)) in
        record {
          dones = length-set done q _ ∙ alike.dones;
          files = length-set r q _ ∙ alike.files;
          files_too = length-set r' q _ ∙ alike.files_too;
          long = after.memory_long ∙ alike.long ∙ sym after.memory_long_too;
          each = set_each q r (eff f (local m r q)).registers alike.files low (after.registers_long ∙ alike.each q low) alike.each;
          each_too = set_each q r' (eff f (local m' r' q)).registers alike.files_too low (after.registers_long_too ∙ alike.each_too q low) alike.each_too;
          words = λ p k known. after.words k (⊎_elim
              (λ (same : p ≡ q).
              let mine : IsKnown code phase q (suc n) k =
              subst (λ n. IsKnown code phase q n k) now
              (subst (λ o. IsKnown code phase o (slice_index (slice_set done q (suc n)) o) k) same known) in
              ⊎_elim
              (λ input. inl (alike.words q k (inl input)))
              (⊎_elim
              (λ before. inl (alike.words q k (inr (inl before))))
              (λ stored. ⊎_elim
              (λ earlier. inl (alike.words q k (inr (inr earlier))))
              (λ this. inr this)
              (one_more (stored_words code.lanes) (acts code phase q) n a k here stored)))
              mine)
              (λ (ne : p ≡ q → ⊥).
              inl (alike.words p k (subst (λ n. IsKnown code phase p n k) (get_or-set_other done q p (suc n) 0 ne) known)))
              (cases_eq p q));
          registers = λ o p put. ⊎_elim
              (λ (same : o ≡ q).
              let mine : HavePut code.lanes (take (suc n) (acts code phase q)) p =
              subst (λ n. HavePut code.lanes (take n (acts code phase q)) p) now
              (subst (λ o. HavePut code.lanes (take (slice_index (slice_set done q (suc n)) o) (acts code phase o)) p) same put) in
              let there : SameRegister code.lanes p (eff f (local m r q)).registers (eff f (local m' r' q)).registers =
              after.files p (⊎_elim
              (λ earlier. inl (alike.registers q p earlier))
              (λ this. inr this)
              (one_more (put_registers code.lanes) (acts code phase q) n a p here mine)) in
              subst (λ o. SameRegister code.lanes p (slice_index_or (slice_set r q (eff f (local m r q)).registers) o []) (slice_index_or (slice_set r' q (eff f (local m' r' q)).registers) o [])) (sym same)
              (subst (λ file. SameRegister code.lanes p file (slice_index_or (slice_set r' q (eff f (local m' r' q)).registers) q [])) (sym (get_or-set_same r q (eff f (local m r q)).registers [] (omega (arith, alike.files, low))))
              (subst (λ file. SameRegister code.lanes p (eff f (local m r q)).registers file) (sym (get_or-set_same r' q (eff f (local m' r' q)).registers [] (omega (arith, alike.files_too, low)))) there)))
              (λ (ne : o ≡ q → ⊥).
              let mine : HavePut code.lanes (take (slice_index done o) (acts code phase o)) p =
              subst (λ n. HavePut code.lanes (take n (acts code phase o)) p) (get_or-set_other done q o (suc n) 0 ne) put in
              subst (λ file. SameRegister code.lanes p file (slice_index_or (slice_set r' q (eff f (local m' r' q)).registers) o [])) (sym (get_or-set_other r q o (eff f (local m r q)).registers [] ne))
              (subst (λ file. SameRegister code.lanes p (slice_index_or r o []) file) (sym (get_or-set_other r' q o (eff f (local m' r' q)).registers [] ne)) (alike.registers o p mine)))
              (cases_eq o q);
        }

    -- where a new phase begins, the other machine finds registers that are left over
    next_alike : (phase : ℕ) (done m m' : List ℕ) (r r' : List (List ℕ)) → is_open code phase done ≡ false →
        Alike phase done m m' r r' → (let next = first_open code (phases_after code phase) (phase + 1) in
        Alike next (none_done code) m m' r (left.files next))
    next_alike phase done m m' r r' closed alike =
        let n : ℕ = phases_after code phase in
        let next : ℕ = first_open code n (phase + 1) in
        let over = closed_over code is phase done closed in
        record {
          dones = length-replicate code.procs 0;
          files = alike.files;
          files_too = are.procs next;
          long = alike.long;
          each = alike.each;
          each_too = λ q low. are.files next q [] (let files = are.procs next in omega (arith, files, low));
          words = λ p k known. ⊎_elim
              (λ input. alike.words p k (inl input))
              (⊎_elim
              (λ (before : (earlier : ℕ) × (q : ℕ) × (earlier < next) × HaveStored code.lanes (acts code earlier q) k).
              ⊎_elim
              (λ (past : before.0 < phase). alike.words p k (inr (inl (before.0, before.1, past, before.3))))
              (λ (from : phase ≤ before.0).
              ⊎_elim
              (λ (here : before.0 ≡ phase).
              let all : take (slice_index done before.1) (acts code phase before.1) ≡ acts code phase before.1 = take_all (slice_index done before.1) (acts code phase before.1) (over.each before.1) in
              alike.words before.1 k (inr (inr (subst (λ actions. HaveStored code.lanes actions k) (sym all)
              (subst (λ f. HaveStored code.lanes (acts code f before.1) k) here before.3)))))
              (λ (later : before.0 ≡ phase → ⊥).
              absurd (none_stored code is code.lanes k (acts code before.0 before.1)
              (skipped code is n (phase + 1) before.0 before.1 (omega (arith, from, later)) before.2) before.3))
              (cases_eq before.0 phase))
              (cases_lt before.0 phase))
              (λ now. absurd (none_stored code is code.lanes k (take (slice_index (none_done code) p) (acts code next p)) (nothing_done code is next p) now)))
              known;
          registers = λ q p put. absurd (none_put code is code.lanes p (take (slice_index (none_done code) q) (acts code next q)) (nothing_done code is next q) put);
        }

    passed : (s t : State) (phase : ℕ) → s.phase ≡ phase → t.phase ≡ phase →
        Alike phase s.done s.memory t.memory s.registers t.registers → is_open code phase s.done ≡ false →
        Together (next_state code s) (with_files left phase (next_state code t))
    unfolding next_state
    passed s t phase e e' both over =
        let next : ℕ = first_open code (phases_after code phase) (phase + 1) in
        let next_s : first_open code (phases_after code s.phase) (s.phase + 1) ≡ next = ap (λ f. first_open code (phases_after code f) (f + 1)) e in
        let next_t : first_open code (phases_after code t.phase) (t.phase + 1) ≡ next = ap (λ f. first_open code (phases_after code f) (f + 1)) e' in
        let first = first_is code (phases_after code t.phase) (t.phase + 1) in
        let past : phase ≢ first_open code (phases_after code t.phase) (t.phase + 1) = omega (arith, first.low, e') in
        subst (λ (b : State). Together (next_state code s) b) (sym (filled_past code is left phase (next_state code t) past))
        (record {
          phase = next_s ∙ sym next_t;
          done = refl;
          alike =
              subst (λ f. Alike f (none_done code) s.memory t.memory s.registers (left.files (first_open code (phases_after code t.phase) (t.phase + 1)))) (sym next_s)
              (subst (λ f. Alike next (none_done code) s.memory t.memory s.registers (left.files f)) (sym next_t)
              (next_alike phase s.done s.memory t.memory s.registers t.registers over both));
        })

    step_together : (phase q : ℕ) (done m m' : List ℕ) (r r' : List (List ℕ)) → Alike phase done m m' r r' →
        Together (step (at m r phase done) q) (step_among left (at m' r' phase done) q)
    step_together phase q done m m' r r' alike = with_option (slice_get (list phase q) (slice_index done q)) refl
      where
        with_option : (o : Option F) → slice_get (list phase q) (slice_index done q) ≡ o →
            Together (step_with q (at m r phase done) o) (with_files left phase (step_with q (at m' r' phase done) o))
        with_option None e =
            subst (λ (t : State). Together (at m r phase done) t) (sym (filled_same code is left phase (at m' r' phase done) refl))
            (record { phase = refl; done = refl; alike = alike })
        with_option (Some f) e =
            let s : State = did q f (at m r phase done) in
            let t : State = did q f (at m' r' phase done) in
            let both : Alike phase s.done s.memory t.memory s.registers t.registers = did_alike phase q f done m m' r r' e alike in
            ⊎_elim
            (λ (still : is_open code phase s.done ≡ true).
            subst (λ (a : State). Together a (with_files left phase (moved_on code t))) (sym (moved_on-open code is s still))
            (subst (λ (b : State). Together s (with_files left phase b)) (sym (moved_on-open code is t still))
            (subst (λ (b : State). Together s b) (sym (filled_same code is left phase t refl))
            (record { phase = refl; done = refl; alike = both }))))
            (λ (over : is_open code phase s.done ≡ false).
            subst (λ (a : State). Together a (with_files left phase (moved_on code t))) (sym (moved_on-closed code is s over))
            (subst (λ (b : State). Together (next_state code s) (with_files left phase b)) (sym (moved_on-closed code is t over))
            (passed s t phase refl refl both over)))
            (cases_Bool (is_open code phase s.done))

    steps_together : (turns : List ℕ) (s t : State) → Together s t → Together (steps s turns) (steps_among left t turns)
    steps_together [] s t both = both
    steps_together (q ∷ turns) s t both =
        let here : State = at t.memory t.registers s.phase s.done in
        let same : here ≡ t = ap₂ (λ phase done. at t.memory t.registers phase done) both.phase both.done in
        steps_together turns (step s q) (step_among left t q)
        (subst (λ (t : State). Together (step s q) (step_among left t q)) same
        (step_together s.phase q s.done s.memory t.memory s.registers t.registers both.alike))

    starts_together : (x : List ℕ) → length x ≡ code.size → Together (start code x) (start_among code left x)
    starts_together x size =
        let phase : ℕ = first_open code (length code.lists) 0 in
        let zeros : List ℕ = replicate (4 * padded code - code.size) 0 in
        let file : List ℕ = replicate (code.regs * code.lanes) 0 in
        record {
          phase = refl;
          done = refl;
          alike = record {
            dones = length-replicate code.procs 0;
            files = length-replicate code.procs file;
            files_too = are.procs phase;
            long = length-append x zeros ∙ ap (λ n. length x + n) (length-replicate {A = ℕ} (4 * padded code - code.size) 0 ∙ sym are.words) ∙ sym (length-append x left.words);
            each = λ q low. ap length (get_or-replicate code.procs q file [] low) ∙ length-replicate {A = ℕ} (code.regs * code.lanes) 0;
            each_too = λ q low. are.files phase q [] (let files = are.procs phase in omega (arith, files, low));
            words = λ p k known. ⊎_elim
                (λ (input : k < code.size). front_same x zeros left.words k (omega (arith, input, size)))
                (⊎_elim
                (λ (before : (earlier : ℕ) × (q : ℕ) × (earlier < phase) × HaveStored code.lanes (acts code earlier q) k).
                absurd (none_stored code is code.lanes k (acts code before.0 before.1)
                (skipped code is (length code.lists) 0 before.0 before.1 (omega arith) before.2) before.3))
                (λ now. absurd (none_stored code is code.lanes k (take (slice_index (none_done code) p) (acts code phase p)) (nothing_done code is phase p) now)))
                known;
            registers = λ q p put. absurd (none_put code is code.lanes p (take (slice_index (none_done code) q) (acts code phase q)) (nothing_done code is phase q) put);
          };
        }

    -- what they leave in the second array is the same
    pub results_same : (x turns : List ℕ) → length x ≡ code.size →
        (let s = steps (start code x) turns in let t = steps_among left (start_among code left x) turns in
        words_at code.size (steps_among left t (completion code t)).memory (padded code)
        ≡ words_at code.size (steps s (completion code s)).memory (padded code))
    results_same x turns size =
        let s : State = steps (start code x) turns in
        let t : State = steps_among left (start_among code left x) turns in
        let middle : Together s t = steps_together turns (start code x) (start_among code left x) (starts_together x size) in
        let same : completion code s ≡ completion code t = completion_course code is s t (record { phase = middle.phase; done = middle.done }) in
        let last : Together (steps s (completion code s)) (steps_among left t (completion code t)) =
        subst (λ turns. Together (steps s (completion code s)) (steps_among left t turns)) same
        (steps_together (completion code s) s t middle) in
        let past : length code.lists ≤ (steps s (completion code s)).phase = steps_end x turns in
        sym (words_at-agree code.size (steps s (completion code s)).memory (steps_among left t (completion code t)).memory (padded code)
        (λ k low high.
        let stored = fresh.result (k - padded code) (omega (arith, low, high)) in
        let there : padded code + (k - padded code) ≡ k = omega (arith, low) in
        let h : HaveStored code.lanes (acts code stored.0 stored.1) k = subst (HaveStored code.lanes (acts code stored.0 stored.1)) there stored.2 in
        ⊎_elim
        (λ (within : stored.0 < length code.lists).
        last.alike.words 0 k (inr (inl (stored.0, stored.1, omega (arith, within, past), h))))
        (λ (beyond : length code.lists ≤ stored.0).
        absurd (none_stored code is code.lanes k (acts code stored.0 stored.1) (past_acts code is stored.0 stored.1 beyond) h))
        (cases_lt stored.0 (length code.lists))))
