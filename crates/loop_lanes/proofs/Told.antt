-- What the tests of lanes tell of the operations of rounds: no word gets two values from the rounds of a group.
use Rattle.std.proofs.Common.{◌≡◌, ℕ, zero, suc, ◌+◌, ◌<◌, ◌≤◌, true, false, List, [], ◌∷◌, ◌++◌, take, drop, All}
use Rattle.std.proofs.Common.{Some, None, Option, refl, sym, ap, ap₂, ◌∙◌, subst, arith, ⊎_elim, take-append-drop, ◌⊎◌}
use Rattle.std.proofs.Common.{◌*◌, Bool, length, Contains, inl, inr, leb-true}
use Rattle.std.specs.Prelude.{◌==◌, slice_index, nat_le}
use Rattle.std.specs.List.{list_all, range_with_len}
use Rattle.std.proofs.lemmas.Bool.{not-true, or_cases, cases_order}
use Rattle.std.proofs.lemmas.List.Elements.{All-head, All-tail, All-get_or}
use Rattle.icode.specs.declared.program.Array.{Array}
use Rattle.icode.specs.Actions.{Step, StepFits, actions_of, array_start, step_of, steps_of_body}
use Rattle.icode.specs.Expression.{sum_numbers, parts_numbers}
use Rattle.icode.specs.Machine.{whole_lines}
use Rattle.icode.specs.Plain.{PlainOp, PlainProgram, Sum, Load, Store, Zero, MulTable, Tile}
use Rattle.icode.proofs.Bools.{both_true}
use Rattle.nests.specs.Places.{stride, same_parts, are_linear}
use Rattle.nests.specs.Rounds.{Stored, same_array, are_fresh, straight}
use Rattle.nests.proofs.Acts.{IsRound}
use Rattle.nests.proofs.Linear.{wrong, parts_equal}
use Rattle.nests.proofs.Rows.{round_acts, of-loop, actions_of-loop}
use Rattle.loop_lanes.specs.Rows.{is_by_lane, stores, others, stored_registers, stored_constants, are_from, is_clear}
use Rattle.loop_lanes.specs.Rows.{are_clear}
use Rattle.loop_lanes.specs.Columns.{Columns, Factors, plain_columns, factored_columns, front_length, last_products}
use Rattle.loop_lanes.specs.Columns.{are_products, are_by, are_columns}
use Rattle.loop_lanes.specs.Lanes.{can_lane}
use Rattle.loop_lanes.specs.Loads.{Loaded, behind, are_loaded}
use Rattle.loop_lanes.specs.Layers.{Write, steps_at, writes_of, GroupsAreSure, round_writes, group_writes, memory_by}
use Rattle.loop_lanes.specs.Layers.{GroupsWrite}
use Rattle.loop_lanes.proofs.Arrays.{other_outside, step_before}
use Rattle.loop_lanes.proofs.ColumnsAre.{columns_told, by_told, AreTurned}
use Rattle.loop_lanes.proofs.LoadsTold.{of_kinds, IsRow, of_loaded_rows, of_loaded, of_good_kinds}
use Rattle.loop_lanes.proofs.Orders.{row, from_at, group_fits}
use Rattle.loop_lanes.proofs.OneLane.{IsPlaced, ArePlaced, IsLaneRound, rounds_write}
use Rattle.nests.proofs.Apart.{array-same}
use Rattle.std.proofs.lemmas.List.Sums.{AllPass-from_list_all}
use Rattle.icode.proofs.Lines.{Contains-nil}
use Rattle.loop_lanes.proofs.FrontHeld.{values_in}
use Rattle.loop_lanes.proofs.Wide.{lane_value}

-- ---- what holds of operations of all kinds

-- loads are from another array than the stores, and these are all by the same parts
abbrev pub IsTold : Stored → PlainOp → Type 0
IsTold to (Load r array place) = same_array array to.array ≡ false
IsTold to (Store array (Sum constant parts) r) = (same_array array to.array ≡ true) × (parts ≡ to.parts)
IsTold to (Tile r x) = ⊥
IsTold to op = Unit {0}

abbrev pub AreTold : Stored → List PlainOp → Type 0
AreTold to [] = Unit {0}
AreTold to (op ∷ ops) = IsTold to op × AreTold to ops

told-op : (loop : ℕ) (to : Stored) (op : PlainOp) → is_by_lane loop to op ≡ true → IsTold to op
told-op loop to (Load r array place) h = not-true (same_array array to.array) (both_true _ _ h).0
told-op loop to (Store array (Sum constant parts) r) h =
    let two = both_true (same_array array to.array) (same_parts parts to.parts) h in
    (two.0, parts_equal parts to.parts two.1)
told-op loop to (Tile r x) h = wrong h
told-op loop to op h = tt

told-all : (loop : ℕ) (to : Stored) (ops : List PlainOp) → list_all (is_by_lane loop to) ops ≡ true → AreTold to ops
told-all loop to [] h = tt
told-all loop to (op ∷ ops) h =
    let two = both_true (is_by_lane loop to op) (list_all (is_by_lane loop to) ops) h in
    (told-op loop to op two.0, told-all loop to ops two.1)

told-split : (to : Stored) (ops : List PlainOp) → AreTold to (stores ops) → AreTold to (others ops) → AreTold to ops
told-split to [] s o = tt
told-split to (Load r array place ∷ ops) s o = (o.0, told-split to ops s o.1)
told-split to (Store array place r ∷ ops) s o = (s.0, told-split to ops s.1 o)
told-split to (Tile r x ∷ ops) s o = absurd o.0
told-split to (op ∷ ops) s o = (tt, told-split to ops s o.1)

told-append : (to : Stored) (xs ys : List PlainOp) → AreTold to xs → AreTold to ys → AreTold to (xs ++ ys)
told-append to [] ys h k = k
told-append to (x ∷ xs) ys h k = (h.0, told-append to xs ys h.1 k)

told-products : (to : Stored) (by : Factors) (bound k : ℕ) (ops : List PlainOp) →
    are_products by bound k ops ≡ true → AreTold to ops
told-products to by bound k [] h = tt
told-products to by bound k (MulTable r x table (Sum constant parts) step ∷ ops) h =
    (tt, told-products to by bound (k + 1) ops (both_true _ (are_products by bound (k + 1) ops) h).1)
told-products to by bound k (_ ∷ ops) h = wrong h

told-by : (v loop : ℕ) (to : Stored) (ops : List PlainOp) (by : Option Factors) →
    are_by v loop ops by ≡ true → AreTold to (last_products ops)
told-by v loop to ops None h = wrong h
told-by v loop to ops (Some by) h =
    told-products to by (front_length ops) 0 (last_products ops)
    (by_told v loop ops by h).products

told-row : (to : Stored) (from : Loaded) (k n : ℕ) → same_array from.array to.array ≡ false → AreTold to (row from k n)
told-row to from k zero other = tt
told-row to from k (suc n) other = (other, told-row to from (k + 1) n other)

-- operations that begin with a row that is loaded
told-behind : (v loop : ℕ) (to : Stored) (front : List PlainOp) (from : Loaded) (m : ℕ) → IsRow v loop to front from m →
    list_all (is_by_lane loop to) (drop m front) ≡ true → AreTold to front
told-behind v loop to front from m first by_lane =
    subst (AreTold to) (sym first.row)
    (told-append to (row from 0 m) (drop m front) (told-row to from 0 m first.other)
    (told-all loop to (drop m front) by_lane))

-- stores, and what stands before the tiles of columns
told-columns : (v loop : ℕ) (to : Stored) (ops : List PlainOp) (c : Columns) → are_columns v loop to ops c ≡ true →
    AreTold to (stores ops) × AreTold to c.front
told-columns v loop to ops c h =
    let told = columns_told v loop to ops c h in
    (told-all loop to (stores ops) told.turned.stores_by_lane, told-all loop to c.front told.front_by_lane)

told-loaded : (v loop : ℕ) (to : Stored) (ops : List PlainOp) (c : Columns) → are_loaded v loop to ops c ≡ true →
    AreTold to (stores ops) × AreTold to c.front
told-loaded v loop to ops c h =
    of_loaded (λ new. AreTold to (stores ops) × AreTold to c.front) v 0 loop to ops c h (λ from m known.
    let told = columns_told v loop to ops (behind m c) known.columns in (
      told-all loop to (stores ops) told.turned.stores_by_lane,
      told-behind v loop to c.front from m known.first told.front_by_lane,
    ))

-- those of factored columns, and the products
told-factored : (v loop : ℕ) (to : Stored) (ops : List PlainOp) → are_by v loop ops (factored_columns ops).by ≡ true →
    AreTold to (stores ops) × AreTold to (factored_columns ops).front → AreTold to ops
told-factored v loop to ops by two =
    told-split to ops two.0
    (subst (AreTold to) (take-append-drop (front_length ops) (others ops))
    (told-append to (take (front_length ops) (others ops)) (last_products ops) two.1
    (told-by v loop to ops (factored_columns ops).by by)))

pub told : (v loop : ℕ) (to : Stored) (ops : List PlainOp) → can_lane v loop (Some to) ops ≡ true → AreTold to ops
told v loop to ops h =
    of_kinds (λ new. AreTold to ops) v 0 loop to ops h
    (λ rows.
    told-all loop to ops
    (both_true (list_all (is_by_lane loop to) ops) _ (both_true (stride loop to.parts == 1) _ rows).1).0)
    (λ plain. let two = told-columns v loop to ops (plain_columns ops) plain in told-split to ops two.0 two.1)
    (λ factored.
    let two = both_true (are_by v loop ops (factored_columns ops).by) _ factored in
    told-factored v loop to ops two.0 (told-columns v loop to ops (factored_columns ops) two.1))
    (λ rows. of_loaded_rows (λ new. AreTold to ops) v 0 loop to ops rows (λ from m known.
    told-behind v loop to ops from m known.first known.by_lane))
    (λ plain. let two = told-loaded v loop to ops (plain_columns ops) plain in told-split to ops two.0 two.1)
    (λ by factored. told-factored v loop to ops by (told-loaded v loop to ops (factored_columns ops) factored))

-- ---- arrays

-- the word stands in the array
abbrev pub IsIn : ℕ → Array → ℕ → Type 0
IsIn words a k = (array_start words a ≤ k) × (k < array_start words a + words)

-- ---- the actions of a round

-- the words of the array that is stored into
abbrev pub IsInto : PlainProgram → Stored → ℕ → Type 0
IsInto p to = IsIn (whole_lines p.size p.line) to.array

placed-op : (p : PlainProgram) (to : Stored) (op : PlainOp) (ws : List ℕ) (q : ℕ) → p.lanes ≡ 1 → IsTold to op →
    StepFits p (step_of p op ws q) → IsPlaced (IsInto p to) p.regs (step_of p op ws q).action
placed-op p to (Load r array place) ws q alone is fits =
    let words : ℕ = whole_lines p.size p.line in
    let room = fits.place in (
      fits.registers,
      λ into.
          let k : ℕ = array_start words array + (sum_numbers place ws q).value in
          ⊎_elim
          (λ (before : k < array_start words to.array). omega (arith, before, into.0))
          (λ (behind : array_start words to.array + words ≤ k). omega (arith, behind, into.1))
          (other_outside words array to.array k is (omega arith) (omega (arith, room, alone))),
    )
placed-op p to (Store array (Sum constant parts) r) ws q alone is fits =
    let words : ℕ = whole_lines p.size p.line in
    let room = fits.place in
    let start = array-same words array to.array is.0 in
    (omega (arith, start), omega (arith, start, room, alone))
placed-op p to (Zero r) ws q alone is fits = fits.registers
placed-op p to (Tile r x) ws q alone is fits = absurd is
placed-op p to op ws q alone is fits = fits.registers.0

placed-ops : (p : PlainProgram) (to : Stored) (ops : List PlainOp) (ws : List ℕ) (q : ℕ) →
    p.lanes ≡ 1 → AreTold to ops → All (StepFits p) (steps_at p ops ws q) →
    ArePlaced (IsInto p to) p.regs (actions_of (steps_at p ops ws q))
placed-ops p to [] ws q alone is fits = tt
placed-ops p to (op ∷ ops) ws q alone is fits =
    let first : Step = step_of p op ws q in
    let more : List Step = steps_at p ops ws q in (
      placed-op p to op ws q alone is.0 (All-head (StepFits p) first more fits),
      placed-ops p to ops ws q alone is.1 (All-tail (StepFits p) first more fits),
    )

pub straight_steps : (p : PlainProgram) (ops : List PlainOp) (ws : List ℕ) (q : ℕ) →
    steps_of_body p (straight ops) ws q ≡ steps_at p ops ws q
straight_steps p [] ws q = refl
straight_steps p (op ∷ ops) ws q = ap (λ steps. step_of p op ws q ∷ steps) (straight_steps p ops ws q)

pub lane_round : (p : PlainProgram) (to : Stored) (ops : List PlainOp) (ws : List ℕ) (q : ℕ) → p.lanes ≡ 1 →
    are_fresh 1 0 (straight ops) ≡ true → AreTold to ops → All (StepFits p) (steps_at p ops ws q) →
    IsLaneRound (IsInto p to) p.regs (actions_of (steps_at p ops ws q))
lane_round p to ops ws q alone fresh is fits =
    record {
      round =
          subst (λ steps. IsRound 1 (actions_of steps)) (straight_steps p ops ws q)
          (subst (λ lanes. IsRound lanes (actions_of (steps_of_body p (straight ops) ws q))) alone
          (round_acts p q (straight ops) ws (ap (λ lanes. are_fresh lanes 0 (straight ops)) alone ∙ fresh)));
      placed = placed-ops p to ops ws q alone is fits;
    }

-- ---- what a round stores

-- values of these registers, into the words these constants after a place
abbrev pub stored_at : ℕ → List ℕ → List ℕ → List ℕ → List Write
stored_at base zs [] rs = []
stored_at base zs (c ∷ cs) [] = []
stored_at base zs (c ∷ cs) (r ∷ rs) = record { word = base + c; value = slice_index zs r } ∷ stored_at base zs cs rs

-- where the round stores
abbrev pub store_base : PlainProgram → Stored → List ℕ → ℕ → ℕ
store_base p to ws q = array_start (whole_lines p.size p.line) to.array + (parts_numbers to.parts ws q).value

pub writes_are : (p : PlainProgram) (to : Stored) (ops : List PlainOp) (ws : List ℕ) (q : ℕ) (zs : List ℕ) →
    AreTold to ops → writes_of zs (actions_of (steps_at p ops ws q))
    ≡ stored_at (store_base p to ws q) zs (stored_constants ops) (stored_registers ops)
writes_are p to [] ws q zs is = refl
writes_are p to (Store array (Sum constant parts) r ∷ ops) ws q zs is =
    let words : ℕ = whole_lines p.size p.line in
    let start = array-same words array to.array is.0.0 in
    let n : ℕ = (parts_numbers parts ws q).value in
    let by : n ≡ (parts_numbers to.parts ws q).value = ap (λ parts. (parts_numbers parts ws q).value) is.0.1 in
    let there : array_start words array + (constant + n) ≡ store_base p to ws q + constant =
    omega (arith, start, by) in
    ap₂ (λ (k : ℕ) (more : List Write). record { word = k; value = slice_index zs r } ∷ more)
    there
    (writes_are p to ops ws q zs is.1)
writes_are p to (Tile r x ∷ ops) ws q zs is = absurd is.0
writes_are p to (op ∷ ops) ws q zs is = writes_are p to ops ws q zs is.1

-- ---- no word gets two values from the rounds of a group

-- ---- a write of a list

-- which store of the round it is
pub record IsStoreOf (base : ℕ) (zs cs rs : List ℕ) (w : Write) : Type 0 where
  pub index : ℕ
  pub low : index < length cs
  pub word : w.word ≡ base + slice_index cs index
  pub value : w.value ≡ slice_index zs (slice_index rs index)

pub store_of : (base : ℕ) (zs cs rs : List ℕ) (w : Write) →
    Contains (stored_at base zs cs rs) w → IsStoreOf base zs cs rs w
store_of base zs [] rs w h = absurd (Contains-nil w h)
store_of base zs (c ∷ cs) [] w h = absurd (Contains-nil w h)
store_of base zs (c ∷ cs) (r ∷ rs) w (zero, lt, e) =
    record {
      index = 0;
      low = omega arith;
      word = sym (ap (λ (x : Write). x.word) e);
      value = sym (ap (λ (x : Write). x.value) e);
    }
store_of base zs (c ∷ cs) (r ∷ rs) w (suc k, lt, e) =
    let is = store_of base zs cs rs w (k, omega (arith, lt), e) in
    record { index = suc is.index; low = omega (arith, is.low); word = is.word; value = is.value }

-- ---- constants

passes-at : (test : ℕ → Bool) (ks : List ℕ) (i : ℕ) →
    list_all test ks ≡ true → i < length ks → test (slice_index ks i) ≡ true
passes-at test ks i all below =
    All-get_or (λ k. test k ≡ true) ks i 0 below (AllPass-from_list_all test ks all)

clear : (v a b : ℕ) → is_clear v a b ≡ true → (a + v ≤ b) ⊎ (b + v ≤ a)
clear v a b h =
    ⊎_elim
    (λ (low : nat_le (a + v) b ≡ true). inl (leb-true (a + v) b low))
    (λ (high : nat_le (b + v) a ≡ true). inr (leb-true (b + v) a high))
    (or_cases (nat_le (a + v) b) (nat_le (b + v) a) h)

clear-at : (v : ℕ) (cs : List ℕ) (i j : ℕ) → are_clear v cs ≡ true → i < j → j < length cs →
    (slice_index cs i + v ≤ slice_index cs j) ⊎ (slice_index cs j + v ≤ slice_index cs i)
clear-at v [] i j all less below = absurd (omega (arith, below))
clear-at v (c ∷ cs) i zero all less below = absurd (omega (arith, less))
clear-at v (c ∷ cs) zero (suc j) all less below =
    let two = both_true (list_all (is_clear v c) cs) (are_clear v cs) all in
    clear v c (slice_index cs j) (passes-at (is_clear v c) cs j two.0 (omega (arith, below)))
clear-at v (c ∷ cs) (suc i) (suc j) all less below =
    let two = both_true (list_all (is_clear v c) cs) (are_clear v cs) all in
    clear-at v cs i j two.1 (omega (arith, less)) (omega (arith, below))

-- of v rounds that go on by s, no two stores meet
abbrev pub AreSpread : ℕ → ℕ → List ℕ → Type 0
AreSpread v s cs =
    (l k i j : ℕ) → l < v → k < v → i < length cs → j < length cs →
    s * l + slice_index cs i ≡ s * k + slice_index cs j → (l ≡ k) × (i ≡ j)

never : (v l k c d : ℕ) → l < v → k < v → l + c ≡ k + d → (c + v ≤ d) ⊎ (d + v ≤ c) → ⊥
never v l k c d low lower same far =
    ⊎_elim
    (λ (h : c + v ≤ d). omega (arith, low, lower, same, h))
    (λ (h : d + v ≤ c). omega (arith, low, lower, same, h))
    far

rows-spread : (v : ℕ) (cs : List ℕ) → are_clear v cs ≡ true → AreSpread v 1 cs
rows-spread v cs all l k i j low lower i_low j_low same =
    let steps : l + slice_index cs i ≡ k + slice_index cs j = omega (arith, same) in
    elim (cases_order i j) [
      | inl e ↦ let c : slice_index cs i ≡ slice_index cs j = ap (slice_index cs) e in (omega (arith, steps, c), e)
      | inr (inl less) ↦
          let far = clear-at v cs i j all less j_low in
          absurd (never v l k (slice_index cs i) (slice_index cs j) low lower steps far)
      | inr (inr more) ↦
          let far = clear-at v cs j i all more i_low in
          absurd (never v k l (slice_index cs j) (slice_index cs i) lower low (sym steps) far)
    ]

apart : (s l k i j : ℕ) → l < k → i < s → s * l + i ≡ s * k + j → ⊥
apart s l k i j less low same =
    let step = step_before s l k less in omega (arith, step, low, same)

columns-spread : (v s : ℕ) (cs : List ℕ) → are_from 0 cs ≡ true → length cs ≤ s → AreSpread v s cs
columns-spread v s cs all few l k i j low lower i_low j_low same =
    let c = from_at 0 cs i all i_low in
    let d = from_at 0 cs j all j_low in
    let rows : s * l + i ≡ s * k + j = omega (arith, same, c, d) in
    elim (cases_order l k) [
      | inl e ↦ let steps : s * l ≡ s * k = ap (λ n. s * n) e in (e, omega (arith, rows, steps))
      | inr (inl less) ↦ absurd (apart s l k i j less (omega (arith, i_low, few)) rows)
      | inr (inr more) ↦ absurd (apart s k l j i more (omega (arith, j_low, few)) (sym rows))
    ]

pub constants_are : (ops : List PlainOp) → length (stored_constants ops) ≡ length (stores ops)
constants_are [] = refl
constants_are (Store array (Sum constant parts) r ∷ ops) = ap suc (constants_are ops)
constants_are (op ∷ ops) = constants_are ops

columns-told : (v loop : ℕ) (to : Stored) (ops : List PlainOp) (turned : List ℕ) → AreTurned v loop to ops turned →
    AreSpread v (stride loop to.parts) (stored_constants ops)
columns-told v loop to ops turned told =
    let many = told.many in
    let apart = told.apart in
    let long = constants_are ops in
    columns-spread v (stride loop to.parts) (stored_constants ops) told.from (omega (arith, many, apart, long))

rows-told : (v loop : ℕ) (to : Stored) (ops : List PlainOp) → stride loop to.parts ≡ 1 →
    are_clear v (stored_constants ops) ≡ true → AreSpread v (stride loop to.parts) (stored_constants ops)
rows-told v loop to ops unit clear =
    subst (λ s. AreSpread v s (stored_constants ops)) (sym unit) (rows-spread v (stored_constants ops) clear)

pub spread : (v loop : ℕ) (to : Stored) (ops : List PlainOp) → can_lane v loop (Some to) ops ≡ true →
    AreSpread v (stride loop to.parts) (stored_constants ops)
spread v loop to ops h =
    of_good_kinds (λ new. AreSpread v (stride loop to.parts) (stored_constants ops)) v 0 loop to ops h
    (λ unit by_lane clear. rows-told v loop to ops unit clear)
    (λ c tests. columns-told v loop to ops c.turned tests.columns.turned)
    (λ from m known. rows-told v loop to ops known.unit known.clear)
    (λ c from m first front short tests. columns-told v loop to ops c.turned tests.columns.turned)

-- ---- groups

-- which round of the group writes it, and by which store
pub record IsOfGroup (v : ℕ) (p : PlainProgram) (to : Stored) (ops : List PlainOp) (vs : List ℕ) (b q : ℕ)
    (memory : List ℕ) (w : Write) : Type 0 where
  pub round : ℕ
  pub index : ℕ
  pub before : round < v
  pub low : index < length (stored_constants ops)
  pub word :
      w.word ≡ store_base p to (vs ++ (v * b) ∷ []) q + stride (length vs) to.parts * round
      + slice_index (stored_constants ops) index
  pub value : w.value ≡ slice_index (values_in v p memory ops vs b q round) (slice_index (stored_registers ops) index)

pub of_group : (v : ℕ) (p : PlainProgram) (to : Stored) (ops : List PlainOp) (vs : List ℕ) (b q : ℕ)
    (memory : List ℕ) (w : Write) → are_linear 0 to.parts ≡ true → AreTold to ops →
    Contains (group_writes v p memory ops vs b q) w →
    IsOfGroup v p to ops vs b q memory w
of_group v p to ops vs b q memory w linear is has =
    let at = of-loop (λ l. round_writes p memory ops (vs ++ (v * b + l) ∷ []) q) 0 v w has in
    let ws : List ℕ = vs ++ (v * b + at.round) ∷ [] in
    let zs : List ℕ = values_in v p memory ops vs b q at.round in
    let one = store_of (store_base p to ws q) zs (stored_constants ops) (stored_registers ops) w
    (subst (λ (xs : List Write). Contains xs w) (writes_are p to ops ws q zs is) at.inside) in
    let far = lane_value (length vs) (Sum 0 to.parts) vs (v * b) at.round q linear refl in
    let word = one.word in
    let high = at.high in
    record {
      round = at.round;
      index = one.index;
      before = omega (arith, high);
      low = one.low;
      word = omega (arith, word, far);
      value = one.value;
    }

pub groups_are_sure : GroupsAreSure
groups_are_sure v p to ops vs b q group can memory =
    record {
      sure = λ x y in_x in_y same.
          let is = told v (length vs) to ops can in
          let one = of_group v p to ops vs b q memory x group.linear is in_x in
          let other = of_group v p to ops vs b q memory y group.linear is in_y in
          let first = one.word in
          let second = other.word in
          let s : ℕ = stride (length vs) to.parts in
          let both = spread v (length vs) to ops can one.round other.round one.index other.index
          one.before other.before one.low other.low
          (meet (store_base p to (vs ++ (v * b) ∷ []) q) (s * one.round) (s * other.round)
          (slice_index (stored_constants ops) one.index) (slice_index (stored_constants ops) other.index)
          (sym first ∙ same ∙ second)) in
          one.value
          ∙ ap₂ (λ l i. slice_index (values_in v p memory ops vs b q l) (slice_index (stored_registers ops) i))
          both.0 both.1
          ∙ sym other.value;
    }
  where
    meet : (base m n c d : ℕ) → base + m + c ≡ base + n + d → m + c ≡ n + d
    meet base m n c d e = omega (arith, e)

-- ---- groups of rounds of one lane leave what their rounds write, each from the memory before all of them

-- a round of the group
abbrev round_at : ℕ → PlainProgram → List PlainOp → List ℕ → ℕ → ℕ → ℕ → List Step
round_at v p ops vs b q l = steps_at p ops (vs ++ (v * b + l) ∷ []) q

pub groups_write : GroupsWrite
groups_write v p to ops vs b q group can s memory room =
    ap (λ acts. memory_by p.modulus 1 acts s memory) (actions_of-loop (round_at v p ops vs b q) (range_with_len 0 v))
    ∙ rounds_write p.modulus (IsInto p to) p.regs memory (λ l. actions_of (round_at v p ops vs b q l)) v 0 s memory
    each room (λ k outside. refl)
  where
    each : (l : ℕ) → 0 ≤ l → l < 0 + v → IsLaneRound (IsInto p to) p.regs (actions_of (round_at v p ops vs b q l))
    each l low high =
        lane_round p to ops (vs ++ (v * b + l) ∷ []) q group.alone group.fresh (told v _ to ops can)
        (group_fits v p ops vs b q l (omega (arith, high)) group.fits)
