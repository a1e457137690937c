-- A program whose walk finds all that it reads marked is fresh.
use Rattle.std.proofs.Common.{◌≡◌, ◌≢◌, ℕ, zero, suc, ◌+◌, ◌-◌, ◌*◌, ◌/◌, ◌<◌, ◌≤◌, ◌⊎◌, ◌&&◌, List, [], ◌∷◌, Bool, true}
use Rattle.std.proofs.Common.{false, length, inl, inr, ⊎_elim, sym, ◌∙◌, subst, arith, Contains, flat_map, take, Some}
use Rattle.std.proofs.Common.{replicate, map, get_or-set_other}
use Rattle.std.specs.Prelude.{slice_get, slice_set}
use Rattle.std.specs.List.{range_with_len}
use Rattle.std.proofs.lemmas.Bool.{cases_eq, cases_lt, false≢true}
use Rattle.std.proofs.lemmas.List.{length-map, length-replicate, get_or-replicate, get_or_past}
use Rattle.std.proofs.lemmas.Nat.{div-add-mod', mod_below}
use Rattle.std.proofs.lemmas.List.Elements.{Contains-append_cases, Contains-append_left, Contains-append_right}
use Rattle.icode.specs.declared.action.Action.{Action}
use Rattle.icode.specs.declared.action.Action.TheVariants.{Load, Store, Zero, Add, Sub, Neg, Mul, Tile}
use Rattle.icode.specs.Actions.{actions_of, plain_code, steps_of_body}
use Rattle.icode.specs.Fresh.{HaveStored, HavePut, IsFresh, IsStoredBefore, loaded_words, read_registers, put_registers}
use Rattle.icode.specs.Machine.{Code, IsApart, acts, lines_of, stored_words, touched_words, whole_lines, written_lines}
use Rattle.icode.specs.Plain.{PlainProgram}
use Rattle.icode.proofs.Bools.{both_true}
use Rattle.icode.proofs.FreshActions.{range_item, only_item}
use Rattle.icode.proofs.FreshCodes.{listed}
use Rattle.icode.proofs.FreshLists as lists
use Rattle.icode.proofs.Lines.{Contains-head, Contains-map, Contains-nil, Contains-range, touches}
use Rattle.icode.proofs.Lists.{code_is}
use Rattle.icode.proofs.Open.{has_action}
use Rattle.code_check.specs.Marks.{Marks, is_marked, are_marked, with_marks, reads_known, words_after, registers_after}
use Rattle.code_check.specs.Marks.{marks_after, read_known, marks_after_all, actions_in, marks_at, processors_known}
use Rattle.code_check.specs.Marks.{words_after_processors, phases_known, words_after_phases, input_marks, is_fresh}

-- ---- marks

abbrev pub Marked : List Bool → ℕ → Type 0
Marked marks k = is_marked marks k ≡ true

marked-set : (marks : List Bool) (i k : ℕ) → Marked (slice_set marks i true) k → Marked marks k ⊎ (i ≡ k)
marked-set marks i k h =
    ⊎_elim
    (λ (same : k ≡ i). inr (sym same))
    (λ (other : k ≡ i → ⊥). inl (sym (get_or-set_other marks i k true false other) ∙ h))
    (cases_eq k i)

marked-with : (n : ℕ) (marks : List Bool) (i k : ℕ) → Marked (with_marks n marks i) k →
    Marked marks k ⊎ Contains (range_with_len i n) k
marked-with zero marks i k h = inl h
marked-with (suc n) marks i k h =
    ⊎_elim
    (λ (before : Marked (slice_set marks i true) k). ⊎_elim
    (λ (old : Marked marks k). inl old)
    (λ (here : i ≡ k). inr (Contains-range (suc n) i k (omega (arith, here)) (omega (arith, here))))
    (marked-set marks i k before))
    (λ (later : Contains (range_with_len (i + 1) n) k).
    let item = range_item (i + 1) n k later in
    inr (Contains-range (suc n) i k (omega (arith, item.0)) (omega (arith, item.1))))
    (marked-with n (slice_set marks i true) (i + 1) k h)

marked-all : (n : ℕ) (marks : List Bool) (i k : ℕ) → are_marked n marks i ≡ true → i ≤ k → k < i + n → Marked marks k
marked-all zero marks i k h low high = absurd (omega (arith, low, high))
marked-all (suc n) marks i k h low high =
    let both = both_true (is_marked marks i) (are_marked n marks (i + 1)) h in
    ⊎_elim
    (λ (here : k ≡ i). subst (Marked marks) (sym here) both.0)
    (λ (later : k ≡ i → ⊥). marked-all n marks (i + 1) k both.1 (omega (arith, low, later)) (omega (arith, high)))
    (cases_eq k i)

-- ---- an action

two_items : (x y k : ℕ) → Contains (x ∷ y ∷ []) k → (x ≡ k) ⊎ (y ≡ k)
two_items x y k h =
    ⊎_elim
    (λ (first : Contains (x ∷ []) k). inl (only_item x k first))
    (λ (second : Contains (y ∷ []) k). inr (only_item y k second))
    (Contains-append_cases (x ∷ []) (y ∷ []) k h)

loads-marked : (lanes : ℕ) (a : Action) (m : Marks) → reads_known lanes a m ≡ true → (k : ℕ) →
    Contains (loaded_words lanes a) k → Marked m.words k
loads-marked lanes (Load r address) m h k has =
    let item = range_item address lanes k has in marked-all lanes m.words address k h item.0 item.1
loads-marked lanes (Store address r) m h k has = absurd (Contains-nil k has)
loads-marked lanes (Zero r) m h k has = absurd (Contains-nil k has)
loads-marked lanes (Add r x y) m h k has = absurd (Contains-nil k has)
loads-marked lanes (Sub r x y) m h k has = absurd (Contains-nil k has)
loads-marked lanes (Neg r x) m h k has = absurd (Contains-nil k has)
loads-marked lanes (Mul r x factors) m h k has = absurd (Contains-nil k has)
loads-marked lanes (Tile r x) m h k has = absurd (Contains-nil k has)

pair-marked : (marks : List Bool) (x y k : ℕ) → (is_marked marks x && is_marked marks y) ≡ true → Contains (x ∷ y ∷ []) k →
    Marked marks k
pair-marked marks x y k h has =
    let both = both_true (is_marked marks x) (is_marked marks y) h in
    ⊎_elim (λ (e : x ≡ k). subst (Marked marks) e both.0) (λ (e : y ≡ k). subst (Marked marks) e both.1) (two_items x y k has)

reads-marked : (lanes : ℕ) (a : Action) (m : Marks) → reads_known lanes a m ≡ true → (r : ℕ) →
    Contains (read_registers lanes a) r → Marked m.registers r
reads-marked lanes (Load r address) m h k has = absurd (Contains-nil k has)
reads-marked lanes (Store address r) m h k has = subst (Marked m.registers) (only_item r k has) h
reads-marked lanes (Zero r) m h k has = absurd (Contains-nil k has)
reads-marked lanes (Add r x y) m h k has = pair-marked m.registers x y k h has
reads-marked lanes (Sub r x y) m h k has = pair-marked m.registers x y k h has
reads-marked lanes (Neg r x) m h k has = subst (Marked m.registers) (only_item x k has) h
reads-marked lanes (Mul r x factors) m h k has = subst (Marked m.registers) (only_item x k has) h
reads-marked lanes (Tile r x) m h k has =
    let item = range_item x lanes k has in marked-all lanes m.registers x k h item.0 item.1

words-marked : (lanes : ℕ) (a : Action) (words : List Bool) (k : ℕ) → Marked (words_after lanes a words) k →
    Marked words k ⊎ Contains (stored_words lanes a) k
words-marked lanes (Load r address) words k h = inl h
words-marked lanes (Store address r) words k h = marked-with lanes words address k h
words-marked lanes (Zero r) words k h = inl h
words-marked lanes (Add r x y) words k h = inl h
words-marked lanes (Sub r x y) words k h = inl h
words-marked lanes (Neg r x) words k h = inl h
words-marked lanes (Mul r x factors) words k h = inl h
words-marked lanes (Tile r x) words k h = inl h

one-marked : (registers : List Bool) (r k : ℕ) → Marked (slice_set registers r true) k → Marked registers k ⊎ Contains (r ∷ []) k
one-marked registers r k h =
    ⊎_elim
    (λ (old : Marked registers k). inl old)
    (λ (here : r ≡ k). inr (subst (λ k. Contains (r ∷ []) k) here (Contains-head r [])))
    (marked-set registers r k h)

registers-marked : (lanes : ℕ) (a : Action) (registers : List Bool) (k : ℕ) → Marked (registers_after lanes a registers) k →
    Marked registers k ⊎ Contains (put_registers lanes a) k
registers-marked lanes (Load r address) registers k h = one-marked registers r k h
registers-marked lanes (Store address r) registers k h = inl h
registers-marked lanes (Zero r) registers k h = one-marked registers r k h
registers-marked lanes (Add r x y) registers k h = one-marked registers r k h
registers-marked lanes (Sub r x y) registers k h = one-marked registers r k h
registers-marked lanes (Neg r x) registers k h = one-marked registers r k h
registers-marked lanes (Mul r x factors) registers k h = one-marked registers r k h
registers-marked lanes (Tile r x) registers k h = marked-with lanes registers r k h

-- ---- lists

module _ (lanes : ℕ) where
  abbrev pub LoadKnown : (ℕ → Type 0) → List Action → Type 0
  LoadKnown K actions = lists.ReadKnown (loaded_words lanes) (stored_words lanes) K actions

  abbrev pub ReadPut : (ℕ → Type 0) → List Action → Type 0
  ReadPut K actions = lists.ReadKnown (read_registers lanes) (put_registers lanes) K actions

  list-known : (actions : List Action) (m : Marks) → read_known lanes actions m ≡ true →
      LoadKnown (Marked m.words) actions × ReadPut (Marked m.registers) actions
  list-known [] m h = (tt, tt)
  list-known (a ∷ actions) m h =
      let both = both_true (reads_known lanes a m) (read_known lanes actions (marks_after lanes a m)) h in
      let rest = list-known actions (marks_after lanes a m) both.1 in (
        (
          loads-marked lanes a m both.0,
          lists.known-wider (loaded_words lanes) (stored_words lanes) (Marked (words_after lanes a m.words)) (λ k. Marked m.words k ⊎ Contains (stored_words lanes a) k)
              (words-marked lanes a m.words) actions rest.0,
        ),
        (
          reads-marked lanes a m both.0,
          lists.known-wider (read_registers lanes) (put_registers lanes) (Marked (registers_after lanes a m.registers)) (λ k. Marked m.registers k ⊎ Contains (put_registers lanes a) k)
              (registers-marked lanes a m.registers) actions rest.1,
        ),
      )

  list-marked : (actions : List Action) (m : Marks) (k : ℕ) → Marked (marks_after_all lanes actions m).words k →
      Marked m.words k ⊎ HaveStored lanes actions k
  list-marked [] m k h = inl h
  list-marked (a ∷ actions) m k h =
      ⊎_elim
      (λ (first : Marked (words_after lanes a m.words) k). ⊎_elim
      (λ (before : Marked m.words k). inl before)
      (λ (now : Contains (stored_words lanes a) k). inr (Contains-append_left (stored_words lanes a) (flat_map (stored_words lanes) actions) k now))
      (words-marked lanes a m.words k first))
      (λ (later : HaveStored lanes actions k). inr (Contains-append_right (stored_words lanes a) (flat_map (stored_words lanes) actions) k later))
      (list-marked actions (marks_after lanes a m) k h)

-- ---- processors

unmarked : (n k : ℕ) → Marked (replicate n false) k → ⊥
unmarked n k h =
    ⊎_elim
    (λ (low : k < n). false≢true (sym (get_or-replicate n k false false low) ∙ h))
    (λ (past : n ≤ k). false≢true (sym (get_or_past (replicate n false) k false (let e = length-replicate {A = Bool} n false in omega (arith, e, past))) ∙ h))
    (cases_lt k n)

module _ (p : PlainProgram) where
  -- a word that one of the processors before q stores
  abbrev StoredBelow : ℕ → ℕ → ℕ → Type 0
  StoredBelow phase q k = (r : ℕ) × (r < q) × HaveStored p.lanes (actions_in p phase r) k

  -- what may be known where processor q begins, given what is where the phase does
  abbrev MayKnow : (ℕ → Type 0) → ℕ → ℕ → ℕ → Type 0
  MayKnow W phase q k = W k ⊎ StoredBelow phase q k

  record IsWalked (W : ℕ → Type 0) (phase q : ℕ) : Type 0 where
    loads : LoadKnown p.lanes (MayKnow W phase q) (actions_in p phase q)
    reads : ReadPut p.lanes (λ r. ⊥) (actions_in p phase q)

  processors-walked : (W : ℕ → Type 0) (phase n q : ℕ) (words : List Bool) → processors_known p phase n q words ≡ true →
      ((k : ℕ) → Marked words k → MayKnow W phase q k) →
      ((r : ℕ) → q ≤ r → r < q + n → IsWalked W phase r)
      × ((k : ℕ) → Marked (words_after_processors p phase n q words) k → MayKnow W phase (q + n) k)
  processors-walked W phase zero q words h has = (
    λ r low high. absurd (omega (arith, low, high)),
    λ k marked. subst (λ n. MayKnow W phase n k) (omega arith) (has k marked),
  )
  processors-walked W phase (suc n) q words h has =
      let actions = actions_in p phase q in
      let m = marks_at p words in
      let both = both_true (read_known p.lanes actions m) (processors_known p phase n (q + 1) (marks_after_all p.lanes actions m).words) h in
      let one = list-known p.lanes actions m both.0 in
      let here : IsWalked W phase q =
      record {
        loads = lists.known-wider (loaded_words p.lanes) (stored_words p.lanes) (Marked words) (MayKnow W phase q) has actions one.0;
        reads = lists.known-wider (read_registers p.lanes) (put_registers p.lanes) (Marked m.registers) (λ r. ⊥) (unmarked p.regs) actions one.1;
      } in
      let more : (k : ℕ) → Marked (marks_after_all p.lanes actions m).words k → MayKnow W phase (q + 1) k =
      λ k marked.
      ⊎_elim
      (λ (before : Marked words k). ⊎_elim
      (λ (known : W k). inl known)
      (λ (stored : StoredBelow phase q k). inr (stored.0, (let low = stored.1 in omega (arith, low)), stored.2))
      (has k before))
      (λ (now : HaveStored p.lanes actions k). inr (q, omega arith, now))
      (list-marked p.lanes actions m k marked) in
      let rest = processors-walked W phase n (q + 1) (marks_after_all p.lanes actions m).words both.1 more in
      let all : q + 1 + n ≡ q + suc n = omega arith in (
        λ r low high.
            ⊎_elim
            (λ (same : r ≡ q). subst (IsWalked W phase) (sym same) here)
            (λ (other : r ≡ q → ⊥). rest.0 r (omega (arith, low, other)) (omega (arith, high)))
            (cases_eq r q),
        λ k marked. subst (λ n. MayKnow W phase n k) all (rest.1 k marked),
      )

  -- ---- phases

  abbrev StoredBefore : ℕ → ℕ → Type 0
  StoredBefore phase k = (earlier : ℕ) × (q : ℕ) × (earlier < phase) × (q < p.procs) × HaveStored p.lanes (actions_in p earlier q) k

  abbrev Known : ℕ → ℕ → Type 0
  Known phase k = (k < p.size) ⊎ StoredBefore phase k

  phases-walked : (n phase : ℕ) (words : List Bool) → phases_known p n phase words ≡ true →
      ((k : ℕ) → Marked words k → Known phase k) →
      ((f q : ℕ) → phase ≤ f → f < phase + n → q < p.procs → IsWalked (Known f) f q)
      × ((k : ℕ) → Marked (words_after_phases p n phase words) k → Known (phase + n) k)
  phases-walked zero phase words h has = (
    λ f q low high few. absurd (omega (arith, low, high)),
    λ k marked. subst (λ n. Known n k) (omega arith) (has k marked),
  )
  phases-walked (suc n) phase words h has =
      let after = words_after_processors p phase p.procs 0 words in
      let both = both_true (processors_known p phase p.procs 0 words) (phases_known p n (phase + 1) after) h in
      let one = processors-walked (Known phase) phase p.procs 0 words both.0 (λ k marked. inl (has k marked)) in
      let more : (k : ℕ) → Marked after k → Known (phase + 1) k =
      λ k marked.
      ⊎_elim
      (⊎_elim
      (λ (input : k < p.size). inl input)
      (λ (before : StoredBefore phase k). inr (before.0, before.1, (let low = before.2 in omega (arith, low)), before.3, before.4)))
      (λ (stored : StoredBelow phase (0 + p.procs) k). inr (phase, stored.0, omega arith, (let low = stored.1 in omega (arith, low)), stored.2))
      (one.1 k marked) in
      let rest = phases-walked n (phase + 1) after both.1 more in
      let all : phase + 1 + n ≡ phase + suc n = omega arith in (
        λ f q low high few.
            ⊎_elim
            (λ (same : f ≡ phase). subst (λ f. IsWalked (Known f) f q) (sym same) (one.0 q (omega arith) (omega (arith, few))))
            (λ (other : f ≡ phase → ⊥). rest.0 f q (omega (arith, low, other)) (omega (arith, high)) few)
            (cases_eq f phase),
        λ k marked. subst (λ n. Known n k) all (rest.1 k marked),
      )

  -- ---- the input

  input-known : (k : ℕ) → Marked (input_marks p) k → k < p.size
  input-known k h =
      ⊎_elim
      (λ (before : Marked (replicate (4 * whole_lines p.size p.line) false) k).
      absurd (unmarked (4 * whole_lines p.size p.line) k before))
      (λ (now : Contains (range_with_len 0 p.size) k). let item = range_item 0 p.size k now in omega (arith, item.1))
      (marked-with p.size (replicate (4 * whole_lines p.size p.line) false) 0 k h)

  -- ---- the program

  abbrev code : Code
  code = plain_code p

  -- an array has room for its words
  pub size_room : (size line : ℕ) → 1 ≤ line → size ≤ whole_lines size line
  size_room size line some =
      let a = div-add-mod' (size + (line - 1)) line in
      let b = mod_below (size + (line - 1)) line some in
      omega (arith, a, b)

  -- the line of a word that is stored is written
  stored-line : (actions : List Action) (k : ℕ) → HaveStored p.lanes actions k →
      Contains (flat_map (λ a. lines_of p.line (stored_words p.lanes a)) actions) (k / p.line)
  stored-line [] k h = absurd (Contains-nil k h)
  stored-line (a ∷ actions) k h =
      ⊎_elim
      (λ (now : Contains (stored_words p.lanes a) k).
      Contains-append_left (lines_of p.line (stored_words p.lanes a)) (flat_map (λ a. lines_of p.line (stored_words p.lanes a)) actions) (k / p.line)
      (Contains-map (λ k. k / p.line) (stored_words p.lanes a) k now))
      (λ (later : HaveStored p.lanes actions k).
      Contains-append_right (lines_of p.line (stored_words p.lanes a)) (flat_map (λ a. lines_of p.line (stored_words p.lanes a)) actions) (k / p.line)
      (stored-line actions k later))
      (Contains-append_cases (stored_words p.lanes a) (flat_map (stored_words p.lanes) actions) k h)

  loaded-touched : (a : Action) (k : ℕ) → Contains (loaded_words p.lanes a) k → Contains (touched_words p.lanes a) k
  loaded-touched (Load r address) k h = h
  loaded-touched (Store address r) k h = absurd (Contains-nil k h)
  loaded-touched (Zero r) k h = absurd (Contains-nil k h)
  loaded-touched (Add r x y) k h = absurd (Contains-nil k h)
  loaded-touched (Sub r x y) k h = absurd (Contains-nil k h)
  loaded-touched (Neg r x) k h = absurd (Contains-nil k h)
  loaded-touched (Mul r x factors) k h = absurd (Contains-nil k h)
  loaded-touched (Tile r x) k h = absurd (Contains-nil k h)

  module _ (line : 1 ≤ p.line) (apart : (phase : ℕ) → IsApart code phase) (fresh : is_fresh p ≡ true) where
    parts : (phases_known p (length p.phases) 0 (input_marks p) ≡ true)
        × (are_marked p.size (words_after_phases p (length p.phases) 0 (input_marks p)) (whole_lines p.size p.line) ≡ true)
    parts =
        both_true (phases_known p (length p.phases) 0 (input_marks p))
        (are_marked p.size (words_after_phases p (length p.phases) 0 (input_marks p)) (whole_lines p.size p.line)) fresh

    walked : ((f q : ℕ) → 0 ≤ f → f < 0 + length p.phases → q < p.procs → IsWalked (Known f) f q)
        × ((k : ℕ) → Marked (words_after_phases p (length p.phases) 0 (input_marks p)) k → Known (0 + length p.phases) k)
    walked = phases-walked (length p.phases) 0 (input_marks p) parts.0 (λ k marked. inl (input-known k marked))

    there : (phase q n : ℕ) (a : Action) → slice_get (acts code phase q) n ≡ Some a → (q < p.procs) × (phase < length p.phases)
    there phase q n a e =
        let has = has_action code (code_is p) phase q n a e in
        let low = has.1 in
        let long = length-map p.phases (λ b. map (λ r. actions_of (steps_of_body p b [] r)) (range_with_len 0 p.procs)) in
        (has.0, omega (arith, low, long))

    listed_at : (phase q : ℕ) → phase < length p.phases → q < p.procs → actions_in p phase q ≡ acts code phase q
    listed_at phase q low few = sym (listed p phase q low few)

    before : (phase k : ℕ) → phase ≤ length p.phases → StoredBefore phase k → IsStoredBefore code phase k
    before phase k le h =
        (h.0, h.1, h.2, subst (λ actions. HaveStored p.lanes actions k) (listed_at h.0 h.1 (let low = h.2 in omega (arith, low, le)) h.3) h.4)

    pub is-fresh : IsFresh code
    is-fresh =
        record {
          loads = λ phase q n a e k has.
              let at = there phase q n a e in
              let one = walked.0 phase q (omega arith) (let low = at.1 in omega (arith, low)) at.0 in
              let same = listed_at phase q at.1 at.0 in
              ⊎_elim
              (⊎_elim
              (⊎_elim
              (λ (input : k < p.size). inl input)
              (λ (stored : StoredBefore phase k). inr (inl (before phase k (let low = at.1 in omega (arith, low)) stored))))
              (λ (other : StoredBelow phase q k).
              let r = other.0 in
              let low = other.1 in
              let few = at.0 in
              let ne : q ≢ r = omega (arith, low) in
              let written : Contains (written_lines code phase r) (k / p.line) =
              stored-line (acts code phase r) k (subst (λ actions. HaveStored p.lanes actions k) (listed_at phase r at.1 (omega (arith, low, few))) other.2) in
              absurd ((apart phase).alone r q (k / p.line) ne written (touches code phase q n k a e (loaded-touched a k has)))))
              (λ (now : HaveStored p.lanes (take n (acts code phase q)) k). inr (inr now))
              (lists.known-at (loaded_words p.lanes) (stored_words p.lanes) (MayKnow (Known phase) phase q) (acts code phase q)
              (subst (LoadKnown p.lanes (MayKnow (Known phase) phase q)) same one.loads) n a e k has);
          reads = λ phase q n a e r has.
              let at = there phase q n a e in
              let one = walked.0 phase q (omega arith) (let low = at.1 in omega (arith, low)) at.0 in
              ⊎_elim
              (λ (none : ⊥). absurd none)
              (λ (put : HavePut p.lanes (take n (acts code phase q)) r). put)
              (lists.known-at (read_registers p.lanes) (put_registers p.lanes) (λ r. ⊥) (acts code phase q)
              (subst (ReadPut p.lanes (λ r. ⊥)) (listed_at phase q at.1 at.0) one.reads) n a e r has);
          result = λ k low.
              let words = whole_lines p.size p.line in
              ⊎_elim
              (λ (input : words + k < p.size). let enough = size_room p.size p.line line in absurd (omega (arith, input, enough)))
              (λ (stored : StoredBefore (0 + length p.phases) (words + k)).
              let h = before (0 + length p.phases) (words + k) (omega arith) stored in (h.0, h.1, h.3))
              (walked.1 (words + k) (marked-all p.size (words_after_phases p (length p.phases) 0 (input_marks p)) words (words + k) parts.1 (omega arith) (omega (arith, low))));
        }
