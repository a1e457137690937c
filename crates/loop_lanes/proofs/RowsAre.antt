-- Rows: v rounds whose stores are of words one after the other are one round of v lanes.
use Rattle.nests.proofs.Bools.{three_true}
use Rattle.std.proofs.Common.{◌≡◌, ℕ, zero, suc, ◌+◌, ◌*◌, ◌<◌, ◌≤◌, Bool, true, false, not, List, [], ◌∷◌, ◌++◌, All}
use Rattle.std.proofs.Common.{Contains, map, flat_map, length, refl, sym, ap, ap₂, ◌∙◌, arith, subst, eqb-true}
use Rattle.std.proofs.Common.{ltb-true, append-nil, ⊎_elim}
use Rattle.std.specs.Prelude.{◌-◌, ◌==◌, slice_index, slice_set}
use Rattle.std.specs.List.{list_all, range_with_len}
use Rattle.std.proofs.Math.Path.{fun_ext}
use Rattle.std.proofs.lemmas.Bool.{not-true, true≢false}
use Rattle.std.proofs.lemmas.List.Elements.{All-head, All-tail}
use Rattle.icode.specs.declared.action.Action.{Action}
use Rattle.icode.specs.declared.program.Array.{Array}
use Rattle.icode.specs.Actions.{StepFits, actions_of, array_start, step_of}
use Rattle.icode.specs.Expression.{sum_numbers}
use Rattle.icode.specs.Machine.{Local, effect, effects, memory_after, register_of, words_at, with_words, whole_lines}
use Rattle.icode.specs.Plain.{PlainExpr, PlainParts, PlainOp, PlainProgram, Sum, Load, Store}
use Rattle.icode.proofs.Bools.{both_true}
use Rattle.icode.proofs.Lines.{Contains-nil}
use Rattle.icode.proofs.Words.{length-words_at}
use Rattle.icode.proofs.SequenceLemmas.ByLane.{length-registers_after}
use Rattle.icode.proofs.SequenceLemmas.Placing.{with_words_elsewhere}
use Rattle.nests.specs.Places.{are_linear, stride}
use Rattle.nests.specs.Rounds.{Stored, same_array, is_fresh, put_after, are_fresh, straight}
use Rattle.nests.proofs.Acts.{loaded_words}
use Rattle.nests.proofs.Linear.{wrong, parts_equal}
use Rattle.loop_lanes.specs.Columns.{renumbered_op}
use Rattle.loop_lanes.specs.Layers.{Write, IsAfter, IsGroup, LeaveWrites, written, memory_by, on_lanes, steps_at}
use Rattle.loop_lanes.specs.Layers.{group_writes, writes_of}
use Rattle.loop_lanes.specs.Rows.{is_by_lane, is_store, are_rows, in_row, widened}
use Rattle.loop_lanes.proofs.Arrays.{IsOutside, other_outside}
use Rattle.loop_lanes.proofs.FrontHeld.{AreHeld, in_lanes, values_in, put_next}
use Rattle.loop_lanes.proofs.FrontHeld as lanes
use Rattle.loop_lanes.proofs.Orders.{group_fits, register_low, writes_split, members_turned, values_stay, some_lanes}
use Rattle.loop_lanes.proofs.Wide.{wide_value}
use Rattle.loop_lanes.proofs.Writes.{written-append}
use Rattle.nests.proofs.Apart.{array-same}

-- ---- what a store writes

-- n words, one after the other, one write for each
pub words_written : (n o : ℕ) (w : ℕ → List Write) (memory xs : List ℕ) (i j : ℕ) →
    ((l : ℕ) → l < n → w (o + l) ≡ record { word = i + l; value = slice_index xs (j + l) } ∷ []) →
    with_words memory i (words_at n xs j) ≡ written memory (flat_map w (range_with_len o n))
words_written zero o w memory xs i j h = refl
words_written (suc n) o w memory xs i j h =
    words_written n (o + 1) w (slice_set memory i (slice_index xs j)) xs (i + 1) (j + 1)
    (λ l below. ap w (over o l) ∙ h (suc l) (omega (arith, below)) ∙ ap₂ one (sym (over i l)) (sym (over j l)))
    ∙ sym (ap (λ ws. written memory (ws ++ flat_map w (range_with_len (o + 1) n)))
    (ap w (first o) ∙ h 0 (omega arith) ∙ ap₂ one (sym (first i)) (sym (first j))))
  where
    one : ℕ → ℕ → List Write
    one a k = record { word = a; value = slice_index xs k } ∷ []

    over : (a l : ℕ) → a + 1 + l ≡ a + suc l
    over a l = omega arith

    first : (a : ℕ) → a ≡ a + 0
    first a = omega arith

-- the same values
pub held_same : (v : ℕ) (f : ℕ → ℕ) (registers : List ℕ) (values more : ℕ → List ℕ) (next : ℕ) →
    ((l : ℕ) → more l ≡ values l) → AreHeld v f registers values next → AreHeld v f registers more next
held_same v f registers values more next same h =
    record {
      long = λ l below. ap length (same l) ∙ h.long l below;
      held = λ r l low below. h.held r l low below ∙ sym (ap (λ xs. slice_index xs r) (same l));
    }

module _ (v : ℕ) (p : PlainProgram) (f : ℕ → ℕ) (vs : List ℕ) (b q : ℕ) where
  abbrev words : ℕ
  words = whole_lines p.size p.line

  abbrev round_at : ℕ → List ℕ
  round_at l = vs ++ (v * b + l) ∷ []

  abbrev round_act : PlainOp → ℕ → Action
  round_act = lanes.round_act v p f vs b q

  abbrev wide_act : PlainOp → Action
  wide_act = lanes.wide_act v p f vs b q

  abbrev values_after : List ℕ → (ℕ → List ℕ) → PlainOp → ℕ → List ℕ
  values_after = lanes.values_after v p f vs b q

  abbrev values_behind : List ℕ → (ℕ → List ℕ) → List PlainOp → ℕ → List ℕ
  values_behind = lanes.values_behind v p f vs b q

  -- what one operation writes in all rounds, where these are the values of their registers
  abbrev pub one_write : (ℕ → List ℕ) → PlainOp → ℕ → List Write
  one_write values op l = writes_of (values l) (round_act op l ∷ [])

  abbrev op_writes : (ℕ → List ℕ) → PlainOp → List Write
  op_writes values op = flat_map (one_write values op) (range_with_len 0 v)

  abbrev pub lane_writes : (ℕ → List ℕ) → List PlainOp → List Write
  lane_writes values ops = flat_map (op_writes values) ops

  -- an operation that stores nothing writes nothing
  pub no_writes : (values : ℕ → List ℕ) (op : PlainOp) → is_store op ≡ false → op_writes values op ≡ []
  no_writes values op puts =
      ap (λ g. flat_map g (range_with_len 0 v)) (fun_ext (λ l. nothing op l puts)) ∙ none (range_with_len 0 v)
    where
      nowhere : ℕ → List Write
      nowhere l = []

      none : (ls : List ℕ) → flat_map nowhere ls ≡ []
      none [] = refl
      none (l ∷ ls) = none ls

      nothing : (op : PlainOp) (l : ℕ) → is_store op ≡ false → one_write values op l ≡ []
      nothing (Store array place r) l puts = absurd (true≢false puts)
      nothing op l puts = refl

  module _ (to : Stored) (linear : are_linear 0 to.parts ≡ true) (one : stride (length vs) to.parts ≡ 1)
      (alone : p.lanes ≡ 1) where
    abbrev FitsIn : PlainOp → ℕ → Type 0
    FitsIn op l = StepFits p (step_of p op (round_at l) q)

    -- ---- a store

    -- where it goes in round l, and on v lanes
    abbrev store_in : Array → ℕ → PlainParts → ℕ → ℕ
    store_in array constant parts l = array_start words array + (sum_numbers (Sum constant parts) (round_at l) q).value

    abbrev store_on : Array → ℕ → PlainParts → ℕ
    store_on array constant parts =
        array_start words array + (sum_numbers (widened v (length vs) (Sum constant parts)) (vs ++ b ∷ []) q).value

    store_at : (array : Array) (constant : ℕ) (parts : PlainParts) (l : ℕ) → parts ≡ to.parts →
        store_in array constant parts l ≡ store_on array constant parts + l
    store_at array constant parts l by =
        let is = wide_value v (Sum constant parts) vs b l q (ap (are_linear 0) by ∙ linear) in
        let far : stride (length vs) parts * l ≡ 1 * l = ap (λ s. s * l) (ap (stride (length vs)) by ∙ one) in
        omega (arith, is, far)

    store_writes : (s : Local) (values finals : ℕ → List ℕ) (next : ℕ)
        (array : Array) (constant : ℕ) (parts : PlainParts) (r : ℕ) → parts ≡ to.parts → r < next →
        AreHeld v f s.registers values next →
        ((l : ℕ) → l < v → slice_index (finals l) r ≡ slice_index (values l) r) →
        memory_after v (wide_act (Store array (Sum constant parts) r)) s
        ≡ written s.memory (op_writes finals (Store array (Sum constant parts) r))
    store_writes s values finals next array constant parts r by low h stays =
        let op : PlainOp = Store array (Sum constant parts) r in
        let plain : (n : ℕ) → 0 + n ≡ n = λ n. omega arith in
        words_written v 0 (one_write finals op) s.memory s.registers (store_on array constant parts) (f r * v)
        (λ l below.
        ap (one_write finals op) (plain l)
        ∙ ap₂ (λ (a x : ℕ). record { word = a; value = x } ∷ [])
        (store_at array constant parts l by) (stays l below ∙ sym (h.held r l low below)))

    -- words of other arrays stay
    store_stays : (s : Local) (array : Array) (constant : ℕ) (parts : PlainParts) (r k : ℕ) → parts ≡ to.parts →
        same_array array to.array ≡ true → ((l : ℕ) → l < v → FitsIn (Store array (Sum constant parts) r) l) →
        IsOutside words to.array k →
        slice_index (memory_after v (wide_act (Store array (Sum constant parts) r)) s) k ≡ slice_index s.memory k
    store_stays s array constant parts r k by into fits outside =
        let first : ℕ = store_on array constant parts in
        let size = length-words_at v s.registers (f r * v) in
        with_words_elsewhere (register_of v s.registers (f r)) s.memory first k (λ from inside.
        let l : ℕ = k - first in
        let below : l < v = omega (arith, from, inside, size) in
        let at : k ≡ first + l = omega (arith, from) in
        let place = store_at array constant parts l by in
        let room = (fits l below).place in
        let start = array-same words array to.array into in
        ⊎_elim
        (λ (before : k < array_start words to.array). omega (arith, before, at, place, start))
        (λ (behind : array_start words to.array + words ≤ k). omega (arith, behind, at, place, start, room, alone))
        outside)

    -- ---- a load is from another array

    load_outside : (array : Array) (place : PlainExpr) (r l k : ℕ) →
        is_by_lane (length vs) to (Load r array place) ≡ true → FitsIn (Load r array place) l →
        Contains (loaded_words 1 (round_act (Load r array place) l)) k → IsOutside words to.array k
    load_outside array place r l k h fits has =
        let two = both_true (not (same_array array to.array)) _ h in
        let is = only_one _ k has in
        let room = fits.place in
        other_outside words array to.array k (not-true (same_array array to.array) two.0)
        (omega (arith, is)) (omega (arith, is, room, alone))
      where
        only_one : (a k : ℕ) → Contains (a ∷ []) k → a ≡ k
        only_one a k (zero, lt, e) = e
        only_one a k (suc i, lt, e) = absurd (omega (arith, lt))

    loads_outside : (op : PlainOp) (l k : ℕ) → is_by_lane (length vs) to op ≡ true → FitsIn op l →
        Contains (loaded_words 1 (round_act op l)) k → IsOutside words to.array k
    loads_outside (Load r array place) l k h fits has = load_outside array place r l k h fits has
    loads_outside op l k h fits has = absurd (Contains-nil k has)

    -- ---- all operations

    -- each word of another array is as it was
    abbrev AreAlike : List ℕ → List ℕ → Type 0
    AreAlike now memory = (k : ℕ) → IsOutside words to.array k → slice_index now k ≡ slice_index memory k

    abbrev RoundsFit : List PlainOp → Type 0
    RoundsFit ops = (l : ℕ) → l < v → All (StepFits p) (steps_at p ops (round_at l) q)

    -- operations leave what they write
    abbrev Leaves : List ℕ → Local → (ℕ → List ℕ) → List PlainOp → Type 0
    Leaves memory s values ops =
        (effects p.modulus v (lanes.wide_acts v p f vs b q ops) s).memory
        ≡ written s.memory (lane_writes (values_behind memory values ops) ops)

    -- the first, and then the others
    leaves_more : (memory : List ℕ) (s : Local) (values : ℕ → List ℕ) (op : PlainOp) (ops : List PlainOp) →
        memory_after v (wide_act op) s ≡ written s.memory (op_writes (values_behind memory values (op ∷ ops)) op) →
        Leaves memory (effect p.modulus v (wide_act op) s) (values_after memory values op) ops →
        Leaves memory s values (op ∷ ops)
    leaves_more memory s values op ops first rest =
        let finals : ℕ → List ℕ = values_behind memory values (op ∷ ops) in
        rest
        ∙ ap (λ now. written now (lane_writes finals ops)) first
        ∙ sym (written-append s.memory (op_writes finals op) (lane_writes finals ops))

    module _ (some : 0 < v) (low : (r : ℕ) → r < p.regs → f r < 3 * p.regs)
        (apart : (r k : ℕ) → r < p.regs → k < p.regs → f r ≡ f k → r ≡ k) where
      -- what is known after operations that put the registers below `next`
      pub record IsBehind (memory : List ℕ) (s : Local) (values : ℕ → List ℕ) (next : ℕ) : Type 0 where
        pub room : 3 * p.regs * v ≤ length s.registers
        pub alike : AreAlike s.memory memory
        pub held : AreHeld v f s.registers values next

      -- an operation that stores nothing
      put_first : (memory : List ℕ) (s : Local) (values : ℕ → List ℕ) (next : ℕ) (op : PlainOp) →
          is_store op ≡ false → is_fresh 1 next op ≡ true → is_by_lane (length vs) to op ≡ true →
          ((l : ℕ) → l < v → FitsIn op l) →
          IsBehind memory s values next →
          IsBehind memory (effect p.modulus v (wide_act op) s) (values_after memory values op) (put_after 1 next op)
      put_first memory s values next op put fresh by_lane fits h =
          let kept = lanes.kept_op v p f vs b q op s put in
          let inside = register_low p next op (round_at 0) q alone put fresh (fits 0 some) in
          let long = length-registers_after p.modulus v (wide_act op) s in
          record {
            room = omega (arith, h.room, long);
            alike = λ k outside. ap (λ now. slice_index now k) kept ∙ h.alike k outside;
            held =
                subst (AreHeld v f (effect p.modulus v (wide_act op) s).registers (values_after memory values op))
                (sym (put_next next op put))
                (lanes.op_held v p f vs b q to p.regs alone low apart memory s values next op put fresh by_lane
                inside h.room (λ l k below has. h.alike k (loads_outside op l k by_lane (fits l below) has)) h.held);
          }

      -- a store
      store_first : (memory : List ℕ) (s : Local) (values : ℕ → List ℕ) (next : ℕ)
          (array : Array) (constant : ℕ) (parts : PlainParts) (r : ℕ) → parts ≡ to.parts →
          same_array array to.array ≡ true → ((l : ℕ) → l < v → FitsIn (Store array (Sum constant parts) r) l) →
          IsBehind memory s values next →
          IsBehind memory (effect p.modulus v (wide_act (Store array (Sum constant parts) r)) s)
          (values_after memory values (Store array (Sum constant parts) r)) next
      store_first memory s values next array constant parts r by into fits h =
          let long = length-registers_after p.modulus v (wide_act (Store array (Sum constant parts) r)) s in
          record {
            room = omega (arith, h.room, long);
            alike = λ k outside. store_stays s array constant parts r k by into fits outside ∙ h.alike k outside;
            held =
                held_same v f s.registers values (values_after memory values (Store array (Sum constant parts) r)) next
                (λ l. append-nil (values l)) h.held;
          }

      -- the first operation and what it leaves
      record IsFirst (memory : List ℕ) (s : Local) (values : ℕ → List ℕ) (next : ℕ) (op : PlainOp)
          (ops : List PlainOp) : Type 0 where
        writes :
            memory_after v (wide_act op) s ≡ written s.memory (op_writes (values_behind memory values (op ∷ ops)) op)
        behind :
            IsBehind memory (effect p.modulus v (wide_act op) s) (values_after memory values op) (put_after 1 next op)

      first_of : (memory : List ℕ) (s : Local) (values : ℕ → List ℕ) (next : ℕ) (op : PlainOp) (ops : List PlainOp) →
          (t : Bool) → is_store op ≡ t → is_fresh 1 next op ≡ true → is_by_lane (length vs) to op ≡ true →
          ((l : ℕ) → l < v → FitsIn op l) → IsBehind memory s values next → IsFirst memory s values next op ops
      first_of memory s values next op ops false put fresh by_lane fits h =
          let kept = lanes.kept_op v p f vs b q op s put in
          record {
            writes = kept ∙ sym (ap (written s.memory) (no_writes (values_behind memory values (op ∷ ops)) op put));
            behind = put_first memory s values next op put fresh by_lane fits h;
          }
      first_of memory s values next (Store array (Sum constant parts) r) ops true stores fresh by_lane fits h =
          let into = both_true (same_array array to.array) _ by_lane in
          let by = parts_equal parts to.parts into.1 in
          let lower = ltb-true r next fresh in
          let all : List PlainOp = Store array (Sum constant parts) r ∷ ops in
          let finals : ℕ → List ℕ = values_behind memory values all in
          let acts : ℕ → List Action = λ l. actions_of (steps_at p all (round_at l) q) in
          record {
            writes =
                store_writes s values finals next array constant parts r by lower h.held
                (λ l below.
                values_stay p.modulus memory (values l) (acts l) r (omega (arith, lower, h.held.long l below)));
            behind = store_first memory s values next array constant parts r by into.0 fits h;
          }
      first_of memory s values next op ops true stores fresh by_lane fits h = wrong stores

      pub rows_from : (memory : List ℕ) (s : Local) (values : ℕ → List ℕ) (next : ℕ) (ops : List PlainOp) →
          are_fresh 1 next (straight ops) ≡ true → list_all (is_by_lane (length vs) to) ops ≡ true → RoundsFit ops →
          IsBehind memory s values next → Leaves memory s values ops
      rows_from memory s values next [] fresh by_lane fits h = refl
      rows_from memory s values next (op ∷ ops) fresh by_lane fits h =
          let two = both_true (is_fresh 1 next op) _ fresh in
          let more = both_true (is_by_lane (length vs) to op) _ by_lane in
          let first = first_of memory s values next op ops (is_store op) refl two.0 more.0
          (λ l below. All-head (StepFits p) _ (steps_at p ops (round_at l) q) (fits l below)) h in
          leaves_more memory s values op ops first.writes
          (rows_from memory (effect p.modulus v (wide_act op) s) (values_after memory values op) (put_after 1 next op)
          ops two.1 more.1 (λ l below. All-tail (StepFits p) _ (steps_at p ops (round_at l) q) (fits l below))
          first.behind)

-- ---- the law

pub renumbered_none : (op : PlainOp) → renumbered_op (λ r. r) op ≡ op
renumbered_none (Load r array place) = refl
renumbered_none op = refl

-- rows on the lanes keep their registers
pub rows_in_lanes : (v loop : ℕ) (ops : List PlainOp) → map (in_row v loop) ops ≡ in_lanes v loop (λ r. r) ops
rows_in_lanes v loop ops = sym (ap (λ g. map g ops) (fun_ext (λ op. renumbered_none (in_row v loop op))))

-- a memory with all that the rounds write, operation by operation
pub rows_after : (v : ℕ) (p : PlainProgram) (ops : List PlainOp) (vs : List ℕ) (b q : ℕ) (memory now : List ℕ) →
    now ≡ written memory (lane_writes v p (λ r. r) vs b q (values_in v p memory ops vs b q) ops) →
    IsAfter memory now (group_writes v p memory ops vs b q)
rows_after v p ops vs b q memory now is =
    let finals : ℕ → List ℕ = values_in v p memory ops vs b q in
    let each : PlainOp → ℕ → List Write = one_write v p (λ r. r) vs b q finals in
    let rounds : List ℕ = range_with_len 0 v in
    let same : group_writes v p memory ops vs b q ≡ flat_map (λ l. flat_map (λ op. each op l) ops) rounds =
    ap (λ g. flat_map g rounds) (fun_ext (λ l. writes_split p (finals l) ops (vs ++ (v * b + l) ∷ []) q)) in
    record {
      done = flat_map (λ op. flat_map (each op) rounds) ops;
      is = is;
      within = λ w has. subst (λ ws. Contains ws w) (sym same) (members_turned each ops rounds w has);
      whole = λ w has. members_turned (λ l op. each op l) rounds ops w (subst (λ ws. Contains ws w) same has);
    }

pub rows_write : (v : ℕ) (p : PlainProgram) (to : Stored) (ops : List PlainOp) (vs : List ℕ) (b q : ℕ) →
    IsGroup v p to ops vs b q → are_rows v (length vs) to ops ≡ true →
    LeaveWrites v p (map (in_row v (length vs)) ops) ops vs b q
rows_write v p to ops vs b q group are registers memory room =
    let by_lane = three_true (stride (length vs) to.parts == 1) (list_all (is_by_lane (length vs) to) ops) _ are in
    let acts : List PlainOp → List Action = λ new. actions_of (steps_at (on_lanes v p) new (vs ++ b ∷ []) q) in
    rows_after v p ops vs b q memory _
    (ap (λ new. memory_by p.modulus v (acts new) registers memory) (rows_in_lanes v (length vs) ops)
    ∙ rows_from v p (λ r. r) vs b q to group.linear (eqb-true (stride (length vs) to.parts) 1 by_lane.0) group.alone
    (some_lanes v group.lanes) (λ r below. omega (arith, below)) (λ r k below under e. e)
    memory (record { memory = memory; registers = registers }) (λ l. []) 0 ops group.fresh by_lane.1
    (λ l below. group_fits v p ops vs b q l below group.fits)
    (record {
      room = room;
      alike = λ k outside. refl;
      held = record { long = λ l below. refl; held = λ r l below under. absurd (omega (arith, below)) };
    }))
