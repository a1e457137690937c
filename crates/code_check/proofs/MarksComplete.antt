-- The walk over a program that is fresh finds all that it reads marked.
use Rattle.std.proofs.Common.{◌≡◌, ℕ, zero, suc, ◌+◌, ◌-◌, ◌*◌, ◌<◌, ◌≤◌, ◌⊎◌, ◌&&◌, List, [], ◌∷◌, Bool, true, false}
use Rattle.std.proofs.Common.{◌++◌, length}
use Rattle.std.proofs.Common.{inl, inr, ⊎_elim, refl, sym, ap₂, ◌∙◌, subst, arith, All, Contains, take}
use Rattle.std.proofs.Common.{replicate, get_or-set_other, get_or-set_same, length-set}
use Rattle.std.specs.Prelude.{slice_index_or, slice_set}
use Rattle.std.specs.List.{range_with_len}
use Rattle.std.proofs.lemmas.Bool.{cases_eq, cases_lt}
use Rattle.std.proofs.lemmas.List.{length-replicate}
use Rattle.std.proofs.lemmas.List.Elements.{All-cons, All-head, All-nil, All-tail}
use Rattle.icode.specs.declared.action.Action.{Action}
use Rattle.icode.specs.declared.action.Action.TheVariants.{Load, Store, Zero, Add, Sub, Neg, Mul, Tile}
use Rattle.icode.specs.Actions.{PlainFits, Step, StepFits, actions_of, plain_code, step_of, steps_of_body}
use Rattle.icode.specs.Actions.{steps_of_phase, steps_of_stmt}
use Rattle.icode.specs.Expression.{sum_numbers}
use Rattle.icode.specs.Fresh.{HaveStored, HavePut, IsFresh, IsStoredBefore, loaded_words, read_registers}
use Rattle.icode.specs.Fresh.{put_registers}
use Rattle.icode.specs.Machine.{Code, acts, stored_words, whole_lines}
use Rattle.icode.specs.Plain.{PlainBody, PlainOp, PlainProgram, PlainStmt}
use Rattle.icode.specs.Plain as plain
use Rattle.icode.proofs.FreshActions.{range_item, only_item}
use Rattle.icode.proofs.FreshCodes.{from_both, from_loop, from_one, listed}
use Rattle.icode.proofs.FreshLists as lists
use Rattle.icode.proofs.Lines.{Contains-head, Contains-nil, Contains-range, Contains-tail}
use Rattle.code_check.specs.Marks.{Marks, is_marked, are_marked, with_marks, reads_known, words_after, registers_after}
use Rattle.code_check.specs.Marks.{marks_after, read_known, marks_after_all, actions_in, marks_at, processors_known}
use Rattle.code_check.specs.Marks.{words_after_processors, phases_known, words_after_phases, input_marks, is_fresh}
use Rattle.code_check.specs.Laws.{MarksDecide}
use Rattle.code_check.proofs.Marks.{Marked, LoadKnown, ReadPut, is-fresh, size_room}
use Rattle.code_check.proofs.Regular.{array_inside}
use Rattle.code_check.proofs.Tables.{no_list_past_procs, no_list_past_phases}

-- ---- marks

set-marked : (marks : List Bool) (i k : ℕ) → i < length marks → Marked marks k
    ⊎ (i ≡ k) → Marked (slice_set marks i true) k
set-marked marks i k inside h =
    ⊎_elim
    (λ (same : k ≡ i). subst (Marked (slice_set marks i true)) (sym same) (get_or-set_same marks i true false inside))
    (λ (other : k ≡ i → ⊥).
    get_or-set_other marks i k true false other
    ∙ ⊎_elim (λ (old : Marked marks k). old) (λ (e : i ≡ k). absurd (other (sym e))) h)
    (cases_eq k i)

with-long : (n : ℕ) (marks : List Bool) (i : ℕ) → length (with_marks n marks i) ≡ length marks
with-long zero marks i = refl
with-long (suc n) marks i = with-long n (slice_set marks i true) (i + 1) ∙ length-set marks i true

with-marked : (n : ℕ) (marks : List Bool) (i k : ℕ) → ((j : ℕ) → Contains (range_with_len i n) j → j < length marks) →
    Marked marks k ⊎ Contains (range_with_len i n) k → Marked (with_marks n marks i) k
with-marked zero marks i k inside h =
    ⊎_elim (λ (old : Marked marks k). old) (λ (none : Contains [] k). absurd (Contains-nil k none)) h
with-marked (suc n) marks i k inside h =
    let one : i < length marks = inside i (Contains-range (suc n) i i (omega arith) (omega arith)) in
    let others : (j : ℕ) → Contains (range_with_len (i + 1) n) j → j < length (slice_set marks i true) =
    λ j has.
    let item = range_item (i + 1) n j has in
    let low = inside j (Contains-range (suc n) i j (omega (arith, item.0)) (omega (arith, item.1))) in
    let long = length-set marks i true in omega (arith, low, long) in
    with-marked n (slice_set marks i true) (i + 1) k others
    (⊎_elim
    (λ (old : Marked marks k). inl (set-marked marks i k one (inl old)))
    (λ (has : Contains (range_with_len i (suc n)) k).
    let item = range_item i (suc n) k has in
    ⊎_elim
    (λ (here : i ≡ k). inl (set-marked marks i k one (inr here)))
    (λ (later : i ≡ k → ⊥). inr (Contains-range n (i + 1) k (omega (arith, item.0, later)) (omega (arith, item.1))))
    (cases_eq i k))
    h)

are-marked : (n : ℕ) (marks : List Bool) (i : ℕ) → ((k : ℕ) → Contains (range_with_len i n) k → Marked marks k) →
    are_marked n marks i ≡ true
are-marked zero marks i each = refl
are-marked (suc n) marks i each =
    ap₂ (λ (a b : Bool). a && b) (each i (Contains-range (suc n) i i (omega arith) (omega arith)))
    (are-marked n marks (i + 1) (λ k has.
    let item = range_item (i + 1) n k has in
    each k (Contains-range (suc n) i k (omega (arith, item.0)) (omega (arith, item.1)))))

-- ---- an action

first-of : (x y : ℕ) → Contains (x ∷ y ∷ []) x
first-of x y = Contains-head x (y ∷ [])

second-of : (x y : ℕ) → Contains (x ∷ y ∷ []) y
second-of x y = (1, omega arith, refl)

both-marked : (marks : List Bool) (x y : ℕ) → ((r : ℕ) → Contains (x ∷ y ∷ []) r → Marked marks r) →
    (is_marked marks x && is_marked marks y) ≡ true
both-marked marks x y each = ap₂ (λ (a b : Bool). a && b) (each x (first-of x y)) (each y (second-of x y))

reads-all : (lanes : ℕ) (a : Action) (m : Marks) → ((k : ℕ) → Contains (loaded_words lanes a) k → Marked m.words k) →
    ((r : ℕ) → Contains (read_registers lanes a) r → Marked m.registers r) → reads_known lanes a m ≡ true
reads-all lanes (Load r address) m loads reads = are-marked lanes m.words address loads
reads-all lanes (Store address r) m loads reads = reads r (Contains-head r [])
reads-all lanes (Zero r) m loads reads = refl
reads-all lanes (Add r x y) m loads reads = both-marked m.registers x y reads
reads-all lanes (Sub r x y) m loads reads = both-marked m.registers x y reads
reads-all lanes (Neg r x) m loads reads = reads x (Contains-head x [])
reads-all lanes (Mul r x factors) m loads reads = reads x (Contains-head x [])
reads-all lanes (Tile r x) m loads reads = are-marked lanes m.registers x reads

-- what it puts has marks
record PutsInside (lanes words regs : ℕ) (a : Action) : Type 0 where
  stores : (k : ℕ) → Contains (stored_words lanes a) k → k < words
  puts : (r : ℕ) → Contains (put_registers lanes a) r → r < regs

words-long : (lanes : ℕ) (a : Action) (words : List Bool) → length (words_after lanes a words) ≡ length words
words-long lanes (Load r address) words = refl
words-long lanes (Store address r) words = with-long lanes words address
words-long lanes (Zero r) words = refl
words-long lanes (Add r x y) words = refl
words-long lanes (Sub r x y) words = refl
words-long lanes (Neg r x) words = refl
words-long lanes (Mul r x factors) words = refl
words-long lanes (Tile r x) words = refl

registers-long : (lanes : ℕ) (a : Action) (registers : List Bool) → length (registers_after lanes a registers) ≡
    length registers
registers-long lanes (Load r address) registers = length-set registers r true
registers-long lanes (Store address r) registers = refl
registers-long lanes (Zero r) registers = length-set registers r true
registers-long lanes (Add r x y) registers = length-set registers r true
registers-long lanes (Sub r x y) registers = length-set registers r true
registers-long lanes (Neg r x) registers = length-set registers r true
registers-long lanes (Mul r x factors) registers = length-set registers r true
registers-long lanes (Tile r x) registers = with-long lanes registers r

nothing-more : (words : List Bool) (k : ℕ) → Marked words k ⊎ Contains [] k → Marked words k
nothing-more words k h = ⊎_elim (λ (old : Marked words k). old)
    (λ (none : Contains [] k). absurd (Contains-nil k none)) h

words-all : (lanes : ℕ) (a : Action) (words : List Bool) (k : ℕ) →
    ((j : ℕ) → Contains (stored_words lanes a) j → j < length words) → Marked words k
    ⊎ Contains (stored_words lanes a) k →
    Marked (words_after lanes a words) k
words-all lanes (Load r address) words k inside h = nothing-more words k h
words-all lanes (Store address r) words k inside h = with-marked lanes words address k inside h
words-all lanes (Zero r) words k inside h = nothing-more words k h
words-all lanes (Add r x y) words k inside h = nothing-more words k h
words-all lanes (Sub r x y) words k inside h = nothing-more words k h
words-all lanes (Neg r x) words k inside h = nothing-more words k h
words-all lanes (Mul r x factors) words k inside h = nothing-more words k h
words-all lanes (Tile r x) words k inside h = nothing-more words k h

one-more : (registers : List Bool) (r k : ℕ) → ((j : ℕ) → Contains (r ∷ []) j → j < length registers) →
    Marked registers k ⊎ Contains (r ∷ []) k → Marked (slice_set registers r true) k
one-more registers r k inside h =
    set-marked registers r k (inside r (Contains-head r []))
    (⊎_elim (λ (old : Marked registers k). inl old) (λ (now : Contains (r ∷ []) k). inr (only_item r k now)) h)

registers-all : (lanes : ℕ) (a : Action) (registers : List Bool) (k : ℕ) →
    ((j : ℕ) → Contains (put_registers lanes a) j → j < length registers) →
    Marked registers k ⊎ Contains (put_registers lanes a) k → Marked (registers_after lanes a registers) k
registers-all lanes (Load r address) registers k inside h = one-more registers r k inside h
registers-all lanes (Store address r) registers k inside h = nothing-more registers k h
registers-all lanes (Zero r) registers k inside h = one-more registers r k inside h
registers-all lanes (Add r x y) registers k inside h = one-more registers r k inside h
registers-all lanes (Sub r x y) registers k inside h = one-more registers r k inside h
registers-all lanes (Neg r x) registers k inside h = one-more registers r k inside h
registers-all lanes (Mul r x factors) registers k inside h = one-more registers r k inside h
registers-all lanes (Tile r x) registers k inside h = with-marked lanes registers r k inside h

-- ---- lists

-- the marks say what is known
record Cover (room regs : ℕ) (K L : ℕ → Type 0) (m : Marks) : Type 0 where
  words-are : length m.words ≡ room
  registers-are : length m.registers ≡ regs
  words : (k : ℕ) → K k → Marked m.words k
  registers : (r : ℕ) → L r → Marked m.registers r

module _ (lanes words regs : ℕ) where
  cover-after : (a : Action) (m : Marks) (K L : ℕ → Type 0) → PutsInside lanes words regs a → Cover words regs K L m →
      Cover words regs (λ k. K k ⊎ Contains (stored_words lanes a) k)
      (λ r. L r ⊎ Contains (put_registers lanes a) r) (marks_after lanes a m)
  cover-after a m K L inside cover =
      record {
        words-are = words-long lanes a m.words ∙ cover.words-are;
        registers-are = registers-long lanes a m.registers ∙ cover.registers-are;
        words = λ k h. words-all lanes a m.words k (λ j has. let low = inside.stores j has in omega
            (arith, low, cover.words-are))
            (⊎_elim (λ (x : K k). inl (cover.words k x)) (λ (now : Contains (stored_words lanes a) k). inr now) h);
        registers = λ r h. registers-all lanes a m.registers r
            (λ j has. let low = inside.puts j has in omega (arith, low, cover.registers-are))
            (⊎_elim (λ (x : L r). inl (cover.registers r x)) (λ (now : Contains (put_registers lanes a) r). inr now)
            h);
      }

  list-complete : (actions : List Action) (m : Marks) (K L : ℕ → Type 0) → All (PutsInside lanes words regs) actions →
      Cover words regs K L m → LoadKnown lanes K actions → ReadPut lanes L actions →
      (read_known lanes actions m ≡ true)
      × Cover words regs (λ k. K k ⊎ HaveStored lanes actions k) (λ r. L r ⊎ HavePut lanes actions r)
      (marks_after_all lanes actions m)
  list-complete [] m K L inside cover loads reads = (
    refl,
    record {
      words-are = cover.words-are;
      registers-are = cover.registers-are;
      words = λ k. ⊎_elim (λ (x : K k). cover.words k x)
          (λ (none : HaveStored lanes [] k). absurd (Contains-nil k none));
      registers = λ r. ⊎_elim (λ (x : L r). cover.registers r x)
          (λ (none : HavePut lanes [] r). absurd (Contains-nil r none));
    },
  )
  list-complete (a ∷ actions) m K L inside cover loads reads =
      let K1 : ℕ → Type 0 = λ k. K k ⊎ Contains (stored_words lanes a) k in
      let L1 : ℕ → Type 0 = λ r. L r ⊎ Contains (put_registers lanes a) r in
      let here = reads-all lanes a m (λ k has. cover.words k (loads.0 k has))
      (λ r has. cover.registers r (reads.0 r has)) in
      let rest = list-complete actions (marks_after lanes a m) K1 L1
      (All-tail (PutsInside lanes words regs) a actions inside)
      (cover-after a m K L (All-head (PutsInside lanes words regs) a actions inside) cover) loads.1 reads.1 in
      let all : Cover words regs (λ k. K1 k ⊎ HaveStored lanes actions k) (λ r. L1 r ⊎ HavePut lanes actions r)
      (marks_after_all lanes actions (marks_after lanes a m)) = rest.1 in (
        ap₂ (λ (a b : Bool). a && b) here rest.0,
        record {
          words-are = all.words-are;
          registers-are = all.registers-are;
          words = λ k. ⊎_elim
              (λ (x : K k). all.words k (inl (inl x)))
              (λ (put : HaveStored lanes (a ∷ actions) k). ⊎_elim
              (λ (now : Contains (stored_words lanes a) k). all.words k (inl (inr now)))
              (λ (later : HaveStored lanes actions k). all.words k (inr later))
              (lists.put-first (loaded_words lanes) (stored_words lanes) a actions k put));
          registers = λ r. ⊎_elim
              (λ (x : L r). all.registers r (inl (inl x)))
              (λ (put : HavePut lanes (a ∷ actions) r). ⊎_elim
              (λ (now : Contains (put_registers lanes a) r). all.registers r (inl (inr now)))
              (λ (later : HavePut lanes actions r). all.registers r (inr later))
              (lists.put-first (read_registers lanes) (put_registers lanes) a actions r put));
        },
      )

-- ---- steps that fit

module _ (p : PlainProgram) (fits : PlainFits p) where
  abbrev words : ℕ
  words = 4 * whole_lines p.size p.line

  abbrev Inside : Action → Type 0
  Inside a = PutsInside p.lanes words p.regs a

  abbrev PutsIfFit : Step → Type 0
  PutsIfFit s = StepFits p s → Inside s.action

  puts-one : (a : Action) (r : ℕ) → stored_words p.lanes a ≡ [] → put_registers p.lanes a ≡ r ∷ [] → r < p.regs →
      Inside a
  puts-one a r none one low =
      record {
        stores = λ k has. absurd (Contains-nil k (subst (λ ks. Contains ks k) none has));
        puts = λ k has. subst (λ k. k < p.regs) (only_item r k (subst (λ ks. Contains ks k) one has)) low;
      }

  op-puts : (op : PlainOp) (vs : List ℕ) (q : ℕ) → PutsIfFit (step_of p op vs q)
  op-puts (plain.Load r array place) vs q fit = puts-one _ r refl refl fit.registers
  op-puts (plain.Store array place r) vs q fit =
      let inside = array_inside (whole_lines p.size p.line) (sum_numbers place vs q).value p.lanes array fit.place in
      record {
        stores = λ k has. let item = range_item _ p.lanes k has in omega (arith, item.1, inside);
        puts = λ r none. absurd (Contains-nil r none);
      }
  op-puts (plain.Zero r) vs q fit = puts-one _ r refl refl fit.registers
  op-puts (plain.Add r x y) vs q fit = puts-one _ r refl refl fit.registers.0
  op-puts (plain.Sub r x y) vs q fit = puts-one _ r refl refl fit.registers.0
  op-puts (plain.Neg r x) vs q fit = puts-one _ r refl refl fit.registers.0
  op-puts (plain.MulConst r x factor) vs q fit = puts-one _ r refl refl fit.registers.0
  op-puts (plain.MulTable r x table place step) vs q fit = puts-one _ r refl refl fit.registers.0
  op-puts (plain.Tile r x) vs q fit =
      record {
        stores = λ k none. absurd (Contains-nil k none);
        puts = λ k has. let item = range_item r p.lanes k has in let high = fit.registers.0 in omega
            (arith, item.1, high);
      }

  mutual
    stmt-puts : (s : PlainStmt) (vs : List ℕ) (q : ℕ) (x : Step) → Contains (steps_of_stmt p s vs q) x → PutsIfFit x
    stmt-puts (plain.Loop count body) vs q =
        from_loop PutsIfFit (λ i. steps_of_body p body (vs ++ i ∷ []) q) (range_with_len 0 count)
        (λ i. body-puts body (vs ++ i ∷ []) q)
    stmt-puts (plain.Do op) vs q = from_one PutsIfFit (step_of p op vs q) (op-puts op vs q)

    body-puts : (body : PlainBody) (vs : List ℕ) (q : ℕ) (x : Step) → Contains (steps_of_body p body vs q) x → PutsIfFit x
    body-puts plain.NoStmts vs q = λ x none. absurd (Contains-nil x none)
    body-puts (plain.AndStmts s rest) vs q =
        from_both PutsIfFit (steps_of_stmt p s vs q) (steps_of_body p rest vs q) (stmt-puts s vs q) (body-puts rest vs q)

  all-inside : (steps : List Step) → ((s : Step) → Contains steps s → PutsIfFit s) → All (StepFits p) steps →
      All Inside (actions_of steps)
  all-inside [] puts fit = All-nil Inside
  all-inside (s ∷ steps) puts fit =
      All-cons Inside s.action (actions_of steps)
      (puts s (Contains-head s steps) (All-head (StepFits p) s steps fit))
      (all-inside steps (λ x has. puts x (Contains-tail s steps x has)) (All-tail (StepFits p) s steps fit))

  inside : (phase q : ℕ) → q < p.procs → All Inside (actions_in p phase q)
  inside phase q few =
      all-inside (steps_of_phase p phase q) (body-puts (slice_index_or p.phases phase plain.NoStmts) [] q)
      (fits.each phase q few)

  -- ---- the program

  module _ (fresh : IsFresh (plain_code p)) where
    abbrev code : Code
    code = plain_code p

    abbrev Known : ℕ → ℕ → Type 0
    Known phase k = (k < p.size) ⊎ IsStoredBefore code phase k

    known-here : (phase q : ℕ) → phase < length p.phases → q < p.procs →
        LoadKnown p.lanes (Known phase) (actions_in p phase q) × ReadPut p.lanes (λ r. ⊥) (actions_in p phase q)
    known-here phase q low few =
        subst (λ actions. LoadKnown p.lanes (Known phase) actions × ReadPut p.lanes (λ r. ⊥) actions)
        (listed p phase q low few) (
          lists.known-from (loaded_words p.lanes) (stored_words p.lanes) (Known phase) (acts code phase q)
              (λ n a e k has.
              ⊎_elim
              (λ (input : k < p.size). inl (inl input))
              (⊎_elim
              (λ (before : IsStoredBefore code phase k). inl (inr before))
              (λ (now : HaveStored p.lanes (take n (acts code phase q)) k). inr now))
              (fresh.loads phase q n a e k has)),
          lists.known-from (read_registers p.lanes) (put_registers p.lanes) (λ r. ⊥) (acts code phase q)
              (λ n a e r has.
              inr (fresh.reads phase q n a e r has)),
        )

    -- one of n processors from q on stores it
    abbrev StoredFrom : ℕ → ℕ → ℕ → ℕ → Type 0
    StoredFrom phase n q k = (r : ℕ) × (q ≤ r) × (r < q + n) × HaveStored p.lanes (actions_in p phase r) k

    processors-complete : (phase n q : ℕ) (marks : List Bool) → phase < length p.phases → q + n ≡ p.procs →
        length marks ≡ words → ((k : ℕ) → Known phase k → Marked marks k) →
        (processors_known p phase n q marks ≡ true) × (length (words_after_processors p phase n q marks) ≡ words)
        × ((k : ℕ) → Marked marks k ⊎ StoredFrom phase n q k → Marked (words_after_processors p phase n q marks) k)
    processors-complete phase zero q marks low all long known = (
      refl,
      long,
      λ k. ⊎_elim
          (λ (x : Marked marks k). x)
          (λ (none : StoredFrom phase 0 q k). let low = none.1 in let high = none.2 in absurd
          (omega (arith, low, high))),
    )
    processors-complete phase (suc n) q marks low all long known =
        let few : q < p.procs = omega (arith, all) in
        let actions = actions_in p phase q in
        let m = marks_at p marks in
        let here = known-here phase q low few in
        let cover : Cover words p.regs (Marked marks) (λ r. ⊥) m =
        record {
          words-are = long;
          registers-are = length-replicate {A = Bool} p.regs false;
          words = λ k x. x;
          registers = λ r none. absurd none;
        } in
        let one = list-complete p.lanes words p.regs actions m (Marked marks) (λ r. ⊥) (inside phase q few) cover
        (lists.known-wider (loaded_words p.lanes) (stored_words p.lanes) (Known phase) (Marked marks) known actions
        here.0) here.1 in
        let next = (marks_after_all p.lanes actions m).words in
        let covered : Cover words p.regs (λ k. Marked marks k ⊎ HaveStored p.lanes actions k)
        (λ r. ⊥ ⊎ HavePut p.lanes actions r) (marks_after_all p.lanes actions m) = one.1 in
        let rest = processors-complete phase n (q + 1) next low (omega (arith, all)) covered.words-are
        (λ k x. covered.words k (inl (known k x))) in (
          ap₂ (λ (a b : Bool). a && b) one.0 rest.0,
          rest.1,
          λ k. ⊎_elim
              (λ (x : Marked marks k). rest.2 k (inl (covered.words k (inl x))))
              (λ (stored : StoredFrom phase (suc n) q k). ⊎_elim
              (λ (mine : stored.0 ≡ q).
              rest.2 k (inl (covered.words k (inr (subst (λ r. HaveStored p.lanes (actions_in p phase r) k) mine
              stored.3)))))
              (λ (other : stored.0 ≡ q → ⊥).
              let least = stored.1 in
              let most = stored.2 in
              rest.2 k (inr (stored.0, omega (arith, least, other), omega (arith, most), stored.3)))
              (cases_eq stored.0 q)),
        )

    -- what is known where the next phase begins
    known-next : (phase k : ℕ) (marks after : List Bool) → phase < length p.phases →
        ((k : ℕ) → Known phase k → Marked marks k) →
        ((k : ℕ) → Marked marks k ⊎ StoredFrom phase p.procs 0 k → Marked after k) → Known (phase + 1) k → Marked
        after k
    known-next phase k marks after low known more (inl input) = more k (inl (known k (inl input)))
    known-next phase k marks after low known more (inr stored) =
        ⊎_elim
        (λ (here : stored.0 ≡ phase).
        let h : HaveStored p.lanes (acts code phase stored.1) k =
        subst (λ f. HaveStored p.lanes (acts code f stored.1) k) here stored.3 in
        ⊎_elim
        (λ (few : stored.1 < p.procs).
        more k (inr (
          stored.1,
          omega arith,
          omega (arith, few),
          subst (λ actions. HaveStored p.lanes actions k)
              (listed p phase stored.1 low few) h,
        )))
        (λ (past : p.procs ≤ stored.1).
        absurd (Contains-nil k (subst (λ actions. HaveStored p.lanes actions k)
        (no_list_past_procs p phase stored.1 low past) h)))
        (cases_lt stored.1 p.procs))
        (λ (before : stored.0 ≡ phase → ⊥).
        let earlier = stored.2 in
        more k (inl (known k (inr (stored.0, stored.1, omega (arith, earlier, before), stored.3)))))
        (cases_eq stored.0 phase)

    phases-complete : (n phase : ℕ) (marks : List Bool) → phase + n ≡ length p.phases → length marks ≡ words →
        ((k : ℕ) → Known phase k → Marked marks k) →
        (phases_known p n phase marks ≡ true)
        × ((k : ℕ) → Known (phase + n) k → Marked (words_after_phases p n phase marks) k)
    phases-complete zero phase marks all long known = (
      refl,
      λ k x. known k (subst (λ f. Known f k) (omega arith) x),
    )
    phases-complete (suc n) phase marks all long known =
        let low : phase < length p.phases = omega (arith, all) in
        let one = processors-complete phase p.procs 0 marks low (omega arith) long known in
        let after = words_after_processors p phase p.procs 0 marks in
        let rest = phases-complete n (phase + 1) after (omega (arith, all)) one.1
        (λ k x. known-next phase k marks after low known one.2 x) in
        let same : phase + suc n ≡ phase + 1 + n = omega arith in (
          ap₂ (λ (a b : Bool). a && b) one.0 rest.0,
          λ k x. rest.1 k (subst (λ f. Known f k) same x),
        )

    pub fresh-is : 1 ≤ p.line → is_fresh p ≡ true
    fresh-is line =
        let size = size_room p p.size p.line line in
        let n = length p.phases in
        let room : List Bool = replicate words false in
        let none-long = length-replicate {A = Bool} words false in
        let first : (k : ℕ) → Known 0 k → Marked (input_marks p) k =
        λ k. ⊎_elim
        (λ (input : k < p.size).
        with-marked p.size room 0 k
        (λ j has. let item = range_item 0 p.size j has in omega (arith, item.1, size, none-long))
        (inr (Contains-range p.size 0 k (omega arith) (omega (arith, input)))))
        (λ (before : IsStoredBefore code 0 k). let low = before.2 in absurd (omega (arith, low))) in
        let whole = phases-complete n 0 (input_marks p) (omega arith) (with-long p.size room 0 ∙ none-long) first in
        ap₂ (λ (a b : Bool). a && b) whole.0
        (are-marked p.size (words_after_phases p n 0 (input_marks p)) (whole_lines p.size p.line) (λ k has.
        let item = range_item (whole_lines p.size p.line) p.size k has in
        let stored = fresh.result (k - whole_lines p.size p.line) (omega (arith, item.0, item.1)) in
        let there : whole_lines p.size p.line + (k - whole_lines p.size p.line) ≡ k = omega (arith, item.0) in
        let h : HaveStored p.lanes (acts code stored.0 stored.1) k = subst
        (HaveStored p.lanes (acts code stored.0 stored.1)) there stored.2 in
        ⊎_elim
        (λ (within : stored.0 < n). whole.1 k (inr (stored.0, stored.1, omega (arith, within), h)))
        (λ (past : n ≤ stored.0).
        absurd (Contains-nil k (subst (λ actions. HaveStored p.lanes actions k)
        (no_list_past_phases p stored.0 stored.1 past) h)))
        (cases_lt stored.0 n)))

pub marks_decide : MarksDecide
marks_decide p line fits apart = (is-fresh p line apart, λ fresh. fresh-is p fits fresh line)
