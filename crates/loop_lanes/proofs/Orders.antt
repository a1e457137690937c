-- Operations of a round in the order of the text, and in others: those that put, and those that store.
use Rattle.nests.proofs.Bools.{four_true, three_true, later_kept, by_test}
use Rattle.std.proofs.Common.{◌≡◌, ℕ, ◌+◌, ◌*◌, ◌<◌, ◌≤◌, true, false, List, [], ◌∷◌, ◌++◌, All, Contains, flat_map}
use Rattle.std.proofs.Common.{length, refl, ap, ◌∙◌, arith, inl, inr, eqb-true, length-append, zero, suc, Bool, not}
use Rattle.std.proofs.Common.{take, ltb-true, ◌&&◌, map, ap₂, append-nil, drop, sym, subst, leb-true, take-append-drop}
use Rattle.std.specs.Prelude.{slice_index, ◌==◌, nat_lt, slice_index_or, nat_le}
use Rattle.std.specs.List.{range_with_len, list_all}
use Rattle.std.proofs.lemmas.Bool.{true≢false}
use Rattle.std.proofs.lemmas.List.{get_or_append_left, append_assoc}
use Rattle.std.proofs.lemmas.List.Elements.{All-contains, All-take}
use Rattle.icode.specs.declared.action.Action.{Action}
use Rattle.icode.specs.Actions.{Step, StepFits, actions_of, step_of, array_start, lane_factors}
use Rattle.icode.specs.Machine.{value_put, lane_by_lane, whole_lines}
use Rattle.icode.specs.Plain.{PlainOp, PlainProgram, Load, Store, Zero, Add, Sub, Neg, MulConst, MulTable, Tile}
use Rattle.icode.specs.Plain.{PlainParts, Sum}
use Rattle.icode.proofs.Bools.{both_true}
use Rattle.nests.specs.Rounds.{is_fresh, put_after, are_fresh, Stored, same_array, straight}
use Rattle.nests.proofs.Rows.{in-loop}
use Rattle.nests.proofs.Members.{all_of_members, into_flat_map, from_flat_map}
use Rattle.loop_lanes.specs.Lanes.{IsLanes}
use Rattle.loop_lanes.specs.Layers.{steps_at, group_at, values_put, writes_of, Write}
use Rattle.loop_lanes.specs.Rows.{is_store, stores, others, stored_registers, are_from, is_by_lane, stored_constants}
use Rattle.std.proofs.lemmas.List.Sums.{AllPass-from_list_all, list_all-from_AllPass}
use Rattle.std.proofs.Math.Seq.{get_or-append_seam}
use Rattle.ring_mod.specs.Residue.{product_mod}
use Rattle.icode.specs.Expression.{sum_numbers}
use Rattle.nests.specs.Places.{same_parts}
use Rattle.nests.proofs.Linear.{wrong, parts_equal, passed}
use Rattle.loop_lanes.specs.Columns.{Factors, are_products, factored_registers, renumbered}
use Rattle.nests.proofs.Apart.{array-same}
use Rattle.loop_lanes.specs.Loads.{Loaded, is_loaded, row_length}
use Rattle.loop_lanes.proofs.Arrays.{array_same}
use Rattle.icode.specs.declared.action.Action.TheVariants as actions

-- ---- groups

-- what is known of a number of lanes
pub record AreSome (v : ℕ) : Type 0 where
  pub some : 2 ≤ v
  pub few : v ≤ 16

pub are_some : (v : ℕ) → IsLanes v → AreSome v
are_some v h =
    elim h [
      | inl two ↦ record { some = omega (arith, two); few = omega (arith, two) }
      | inr (inl four) ↦ record { some = omega (arith, four); few = omega (arith, four) }
      | inr (inr (inl eight)) ↦ record { some = omega (arith, eight); few = omega (arith, eight) }
      | inr (inr (inr sixteen)) ↦ record { some = omega (arith, sixteen); few = omega (arith, sixteen) }
    ]

pub some_lanes : (v : ℕ) → IsLanes v → 0 < v
some_lanes v h = let two = (are_some v h).some in omega (arith, two)

-- the steps of a round fit
pub group_fits : (v : ℕ) (p : PlainProgram) (ops : List PlainOp) (vs : List ℕ) (b q l : ℕ) → l < v →
    All (StepFits p) (group_at v p ops vs b q) → All (StepFits p) (steps_at p ops (vs ++ (v * b + l) ∷ []) q)
group_fits v p ops vs b q l below fits =
    let round : ℕ → List Step = λ l. steps_at p ops (vs ++ (v * b + l) ∷ []) q in
    all_of_members (StepFits p) (round l) (λ s has.
    All-contains (StepFits p) (flat_map round (range_with_len 0 v)) s fits
    (in-loop round 0 v l s (omega arith) (omega (arith, below)) has))

-- the register that is put is one of the program's
pub register_low : (p : PlainProgram) (next : ℕ) (op : PlainOp) (ws : List ℕ) (q : ℕ) → p.lanes ≡ 1 →
    is_store op ≡ false → is_fresh 1 next op ≡ true → StepFits p (step_of p op ws q) → next < p.regs
register_low p next (Store array place r) ws q alone puts fresh fits = absurd (true≢false puts)
register_low p next (Load r array place) ws q alone puts fresh fits =
    omega (arith, eqb-true r next fresh, fits.registers)
register_low p next (Zero r) ws q alone puts fresh fits = omega (arith, eqb-true r next fresh, fits.registers)
register_low p next (Add r x y) ws q alone puts fresh fits =
    omega (arith, eqb-true r next (both_true (r == next) _ fresh).0, fits.registers.0)
register_low p next (Sub r x y) ws q alone puts fresh fits =
    omega (arith, eqb-true r next (both_true (r == next) _ fresh).0, fits.registers.0)
register_low p next (Neg r x) ws q alone puts fresh fits =
    omega (arith, eqb-true r next (both_true (r == next) _ fresh).0, fits.registers.0)
register_low p next (MulConst r x factor) ws q alone puts fresh fits =
    omega (arith, eqb-true r next (both_true (r == next) _ fresh).0, fits.registers.0)
register_low p next (MulTable r x table place step) ws q alone puts fresh fits =
    omega (arith, eqb-true r next (both_true (r == next) _ fresh).0, fits.registers.0)
register_low p next (Tile r x) ws q alone puts fresh fits =
    omega (arith, alone, eqb-true r next (both_true (r == next) _ fresh).0, fits.registers.0)

-- ---- values

-- a register that is put keeps its value
pub values_stay : (m : ℕ) (memory xs : List ℕ) (acts : List Action) (k : ℕ) → k < length xs →
    slice_index (values_put m memory xs acts) k ≡ slice_index xs k
values_stay m memory xs [] k below = refl
values_stay m memory xs (act ∷ acts) k below =
    let put : List ℕ = value_put m 1 act (record { memory = memory; registers = xs }) in
    let size = length-append xs put in
    values_stay m memory (xs ++ put) acts k (omega (arith, below, size)) ∙ get_or_append_left xs put 0 k below

-- ---- writes

writes-first : (xs : List ℕ) (act : Action) (acts : List Action) →
    writes_of xs (act ∷ acts) ≡ writes_of xs (act ∷ []) ++ writes_of xs acts
writes-first xs (actions.Store address r) acts = refl
writes-first xs act acts = refl

-- operation by operation
pub writes_split : (p : PlainProgram) (xs : List ℕ) (ops : List PlainOp) (ws : List ℕ) (q : ℕ) →
    writes_of xs (actions_of (steps_at p ops ws q))
    ≡ flat_map (λ op. writes_of xs ((step_of p op ws q).action ∷ [])) ops
writes_split p xs [] ws q = refl
writes_split p xs (op ∷ ops) ws q =
    writes-first xs (step_of p op ws q).action (actions_of (steps_at p ops ws q))
    ∙ ap (λ more. writes_of xs ((step_of p op ws q).action ∷ []) ++ more) (writes_split p xs ops ws q)

-- ---- members of lists of lists, in either order

pub members_turned : {X Y Z : Type 0} (g : X → Y → List Z) (xs : List X) (ys : List Y) (z : Z) →
    Contains (flat_map (λ x. flat_map (g x) ys) xs) z → Contains (flat_map (λ y. flat_map (λ x. g x y) xs) ys) z
members_turned g xs ys z has =
    let outer = from_flat_map (λ x. flat_map (g x) ys) xs z has in
    let inner = from_flat_map (g outer.0) ys z outer.2 in
    into_flat_map (λ y. flat_map (λ x. g x y) xs) ys inner.0 z inner.1
    (into_flat_map (λ x. g x inner.0) xs outer.0 z outer.1 inner.2)

-- ---- the operations of a round: those that store, and the others, which put registers one after the other

-- ---- lists

pub all_taken : {X : Type 0} (f : X → Bool) (xs : List X) (n : ℕ) → list_all f xs ≡ true →
    list_all f (take n xs) ≡ true
all_taken f xs n h =
    list_all-from_AllPass f (take n xs) (All-take (λ x. f x ≡ true) n xs (AllPass-from_list_all f xs h))

-- numbers one after the other
pub from_at : (n : ℕ) (ks : List ℕ) (j : ℕ) → are_from n ks ≡ true → j < length ks → slice_index ks j ≡ n + j
from_at n [] j h below = absurd (omega arith)
from_at n (k ∷ ks) zero h below = eqb-true k n (both_true (k == n) _ h).0 ∙ omega arith
from_at n (k ∷ ks) (suc j) h below = from_at (n + 1) ks j (both_true (k == n) _ h).1 (omega arith) ∙ omega arith

-- ---- the others

pub others_put : (ops : List PlainOp) → list_all (λ op. not (is_store op)) (others ops) ≡ true
others_put [] = refl
others_put (Store array place r ∷ ops) = others_put ops
others_put (op ∷ ops) = others_put ops

pub others_fresh : (ops : List PlainOp) (next : ℕ) → are_fresh 1 next (straight ops) ≡ true →
    are_fresh 1 next (straight (others ops)) ≡ true
others_fresh [] next h = refl
others_fresh (Store array place r ∷ ops) next h = others_fresh ops next (both_true (nat_lt r next) _ h).1
others_fresh (op ∷ ops) next h =
    later_kept (is_fresh 1 next op) (others_fresh ops (put_after 1 next op)) h

pub taken_fresh : (ops : List PlainOp) (next n : ℕ) → are_fresh 1 next (straight ops) ≡ true →
    are_fresh 1 next (straight (take n ops)) ≡ true
taken_fresh ops next zero h = refl
taken_fresh [] next (suc n) h = refl
taken_fresh (op ∷ ops) next (suc n) h =
    later_kept (is_fresh 1 next op) (taken_fresh ops (put_after 1 next op) n) h

-- ---- registers

pub length-stored_registers : (ops : List PlainOp) → length (stored_registers ops) ≡ length (stores ops)
length-stored_registers [] = refl
length-stored_registers (Store array place r ∷ ops) = ap suc (length-stored_registers ops)
length-stored_registers (op ∷ ops) = length-stored_registers ops

-- what is stored has been put
pub stored_low : (ops : List PlainOp) (next c : ℕ) → are_fresh 1 next (straight ops) ≡ true →
    c < length (stored_registers ops) →
    slice_index (stored_registers ops) c < next + length (others ops)
stored_low [] next c h below = absurd (omega arith)
stored_low (Store array place r ∷ ops) next zero h below =
    omega (arith, ltb-true r next (both_true (nat_lt r next) _ h).0)
stored_low (Store array place r ∷ ops) next (suc c) h below =
    stored_low ops next c (both_true (nat_lt r next) _ h).1 (omega arith)
stored_low (op ∷ ops) next c h below =
    omega (arith, stored_low ops (put_after 1 next op) c (both_true (is_fresh 1 next op) _ h).1 below)

module _ (p : PlainProgram) (us : List ℕ) (q : ℕ) where
  -- all that are put are there
  pub puts_low : (ops : List PlainOp) (next : ℕ) → p.lanes ≡ 1 → are_fresh 1 next (straight ops) ≡ true →
      All (StepFits p) (steps_at p ops us q) → next ≤ p.regs → next + length (others ops) ≤ p.regs
  puts_low [] next alone h fits low = omega (arith, low)
  puts_low (Store array place r ∷ ops) next alone h fits low =
      puts_low ops next alone (both_true (nat_lt r next) _ h).1 (λ k d lt. fits (suc k) d (omega arith)) low
  puts_low (op ∷ ops) next alone h fits low =
      let two = both_true (is_fresh 1 next op) (are_fresh 1 (put_after 1 next op) (straight ops)) h in
      let one = fits 0 (step_of p op us q) (omega arith) in
      let here = register_low p next op us q alone refl two.0 one in
      let behind : put_after 1 next op ≤ p.regs = omega (arith, here) in
      omega (arith, puts_low ops (put_after 1 next op) alone two.1 (λ k d lt. fits (suc k) d (omega arith)) behind)

-- ---- what a round of one lane puts and stores

-- registers of products were put before them
pub products_low : (by : Factors) (bound k : ℕ) (ops : List PlainOp) (j : ℕ) → are_products by bound k ops ≡ true →
    j < length (factored_registers ops) → slice_index (factored_registers ops) j < bound
products_low by bound k [] j h below = absurd (omega arith)
products_low by bound k (MulTable r x table (Sum constant parts) step ∷ ops) zero h below =
    let two = both_true _ (are_products by bound (k + 1) ops) h in
    ltb-true x bound (both_true (nat_lt x bound) _ two.0).0
products_low by bound k (MulTable r x table (Sum constant parts) step ∷ ops) (suc j) h below =
    let two = both_true _ (are_products by bound (k + 1) ops) h in
    products_low by bound (k + 1) ops j two.1 (omega arith)
products_low by bound k (op ∷ ops) j h below = wrong h

-- ---- values

pub values_follow : (m : ℕ) (memory xs : List ℕ) (acts more : List Action) →
    values_put m memory xs (acts ++ more) ≡ values_put m memory (values_put m memory xs acts) more
values_follow m memory xs [] more = refl
values_follow m memory xs (act ∷ acts) more =
    values_follow m memory (xs ++ value_put m 1 act (record { memory = memory; registers = xs })) acts more

module _ (p : PlainProgram) (us : List ℕ) (q : ℕ) where
  -- the actions of operations in this round
  abbrev pub acts_in : List PlainOp → List Action
  acts_in ops = actions_of (steps_at p ops us q)

  pub acts-append : (ops more : List PlainOp) → acts_in (ops ++ more) ≡ acts_in ops ++ acts_in more
  acts-append [] more = refl
  acts-append (op ∷ ops) more = ap (λ acts. (step_of p op us q).action ∷ acts) (acts-append ops more)

  -- a store puts nothing
  pub others_values : (memory xs : List ℕ) (ops : List PlainOp) →
      values_put p.modulus memory xs (acts_in ops) ≡ values_put p.modulus memory xs (acts_in (others ops))
  others_values memory xs [] = refl
  others_values memory xs (Store array place r ∷ ops) =
      ap (λ ys. values_put p.modulus memory ys (acts_in ops)) (append-nil xs) ∙ others_values memory xs ops
  others_values memory xs (op ∷ ops) =
      others_values memory
      (xs ++ value_put p.modulus 1 (step_of p op us q).action (record { memory = memory; registers = xs })) ops

  -- ---- products

  -- the entry that the product of column c is by
  abbrev pub entry_at : Factors → ℕ → ℕ
  entry_at by c =
      slice_index (slice_index_or p.tables by.table []) (sum_numbers (Sum (by.constant + c) by.parts) us q).value

  -- a product puts one value
  one-product : (m x n : ℕ) (xs : List ℕ) (g : ℕ → ℕ) → n ≡ 1 →
      lane_by_lane (product_mod m) (slice_index xs (x * 1) ∷ []) (lane_factors n g)
      ≡ product_mod m (slice_index xs x) (g 0) ∷ []
  one-product m x n xs g one =
      let plain : x * 1 ≡ x = omega arith in
      ap (λ k. lane_by_lane (product_mod m) (slice_index xs (x * 1) ∷ []) (lane_factors k g)) one
      ∙ ap (λ k. product_mod m (slice_index xs k) (g 0) ∷ []) plain

  -- what a product of the list puts, by the test on it
  product-put : (by : Factors) (k : ℕ) (memory xs : List ℕ) (r x table constant step : ℕ) (parts : PlainParts) →
      p.lanes ≡ 1 →
      ((table == by.table) && ((constant == by.constant + k) && same_parts parts by.parts)) ≡ true →
      value_put p.modulus 1 (step_of p (MulTable r x table (Sum constant parts) step) us q).action
      (record { memory = memory; registers = xs })
      ≡ product_mod p.modulus (slice_index xs x) (entry_at by k) ∷ []
  product-put by k memory xs r x table constant step parts alone h =
      let three = three_true (table == by.table) (constant == by.constant + k) _ h in
      let at : ℕ = (sum_numbers (Sum constant parts) us q).value in
      let plain : at + step * 0 ≡ at = omega arith in
      let entries : ℕ → List ℕ = λ t. slice_index_or p.tables t [] in
      let times : ℕ → List ℕ = λ factor. product_mod p.modulus (slice_index xs x) factor ∷ [] in
      one-product p.modulus x p.lanes xs (λ lane. slice_index (entries table) (at + step * lane)) alone
      ∙ ap (λ i. times (slice_index (entries table) i)) plain
      ∙ ap (λ t. times (slice_index (entries t) at)) (eqb-true table by.table three.0)
      ∙ ap₂ (λ c ps. times (slice_index (entries by.table) (sum_numbers (Sum c ps) us q).value))
      (eqb-true constant (by.constant + k) three.1) (parts_equal parts by.parts three.2)

  -- products of registers that were put before
  pub products_put : (by : Factors) (bound k : ℕ) (ops : List PlainOp) (memory xs : List ℕ) (j : ℕ) → p.lanes ≡ 1 →
      are_products by bound k ops ≡ true → bound ≤ length xs → j < length (factored_registers ops) →
      slice_index (values_put p.modulus memory xs (acts_in ops)) (length xs + j)
      ≡ product_mod p.modulus (slice_index xs (slice_index (factored_registers ops) j)) (entry_at by (k + j))
  products_put by bound k [] memory xs j alone h few below = absurd (omega arith)
  products_put by bound k (MulTable r x table (Sum constant parts) step ∷ ops) memory xs zero alone h few below =
      let two = both_true _ (are_products by bound (k + 1) ops) h in
      let test = (both_true (nat_lt x bound) _ two.0).1 in
      let is = product-put by k memory xs r x table constant step parts alone test in
      let z : ℕ = product_mod p.modulus (slice_index xs x) (entry_at by k) in
      let plain : length xs + 0 ≡ length xs = omega arith in
      let last : k ≡ k + 0 = omega arith in
      ap₂ (λ ys i. slice_index (values_put p.modulus memory (xs ++ ys) (acts_in ops)) i) is plain
      ∙ values_stay p.modulus memory (xs ++ z ∷ []) (acts_in ops) (length xs)
      (omega (arith, length-append xs (z ∷ [])))
      ∙ get_or-append_seam xs z [] 0
      ∙ ap (λ i. product_mod p.modulus (slice_index xs x) (entry_at by i)) last
  products_put by bound k (MulTable r x table (Sum constant parts) step ∷ ops) memory xs (suc j) alone h few below =
      let two = both_true _ (are_products by bound (k + 1) ops) h in
      let test = (both_true (nat_lt x bound) _ two.0).1 in
      let is = product-put by k memory xs r x table constant step parts alone test in
      let z : ℕ = product_mod p.modulus (slice_index xs x) (entry_at by k) in
      let ys : List ℕ = xs ++ z ∷ [] in
      let long : length ys ≡ length xs + 1 = length-append xs (z ∷ []) in
      let place : length xs + suc j ≡ length ys + j = omega (arith, long) in
      let low = products_low by bound (k + 1) ops j two.1 (omega arith) in
      let next : k + 1 + j ≡ k + suc j = omega arith in
      ap₂ (λ zs i. slice_index (values_put p.modulus memory (xs ++ zs) (acts_in ops)) i) is place
      ∙ products_put by bound (k + 1) ops memory ys j alone two.1 (omega (arith, few, long)) (omega arith)
      ∙ ap₂ (λ a i. product_mod p.modulus a (entry_at by i))
      (get_or_append_left xs (z ∷ []) 0 (slice_index (factored_registers ops) j) (omega (arith, low, few))) next
  products_put by bound k (op ∷ ops) memory xs j alone h few below = wrong h

  -- ---- writes

  -- stores of columns from k on, one after the other
  pub writes_in_order : (loop : ℕ) (to : Stored) (ops : List PlainOp) (xs : List ℕ) (y : ℕ → ℕ) (k : ℕ) →
      list_all (is_by_lane loop to) (stores ops) ≡ true → are_from k (stored_constants ops) ≡ true →
      ((j : ℕ) → j < length (stores ops) → slice_index xs (slice_index (stored_registers ops) j) ≡ y (k + j)) →
      writes_of xs (acts_in ops)
      ≡ map
      (λ c.
      record {
        word = array_start (whole_lines p.size p.line) to.array + (sum_numbers (Sum c to.parts) us q).value;
        value = y c;
      })
      (range_with_len k (length (stores ops)))
  writes_in_order loop to [] xs y k by_lane from h = refl
  writes_in_order loop to (Store array (Sum constant parts) r ∷ ops) xs y k by_lane from h =
      let two =
      both_true (same_array array to.array && same_parts parts to.parts)
      (list_all (is_by_lane loop to) (stores ops)) by_lane in
      let same = both_true (same_array array to.array) (same_parts parts to.parts) two.0 in
      let here = both_true (constant == k) (are_from (k + 1) (stored_constants ops)) from in
      let words : ℕ = whole_lines p.size p.line in
      let first : k + 0 ≡ k = omega arith in
      let word : array_start words array + (sum_numbers (Sum constant parts) us q).value
      ≡ array_start words to.array + (sum_numbers (Sum k to.parts) us q).value =
      ap₂ (λ a n. a + n) (array-same words array to.array same.0)
      (ap₂ (λ c ps. (sum_numbers (Sum c ps) us q).value) (eqb-true constant k here.0)
      (parts_equal parts to.parts same.1)) in
      ap₂ (λ (w : Write) (ws : List Write). w ∷ ws)
      (ap₂ (λ a x. record { word = a; value = x }) word (h 0 (omega arith) ∙ ap y first))
      (writes_in_order loop to ops xs y (k + 1) two.1 here.1
      (λ j below. h (suc j) (omega (arith, below)) ∙ ap y (omega arith)))
  writes_in_order loop to (op ∷ ops) xs y k by_lane from h = writes_in_order loop to ops xs y k by_lane from h

-- ---- the loads of a row: word k of the round, into register k

-- loads of n words from word k on
abbrev pub row : Loaded → ℕ → ℕ → List PlainOp
row from k n = map (λ i. Load i from.array (Sum i from.parts)) (range_with_len k n)

-- ---- the operations of a round begin with such loads

loaded-is : (from : Loaded) (k : ℕ) (op : PlainOp) → is_loaded from k op ≡ true →
    op ≡ Load k from.array (Sum k from.parts)
loaded-is from k (Load r array (Sum constant parts)) h =
    let four = four_true (r == k) (constant == k) (same_array array from.array) (same_parts parts from.parts) h in
    ap₂ (λ i a. Load i a (Sum constant parts)) (eqb-true r k four.0) (array_same array from.array four.2)
    ∙ ap₂ (λ c ps. Load k from.array (Sum c ps)) (eqb-true constant k four.1) (parts_equal parts from.parts four.3)
loaded-is from k op h = wrong h

row-taken : (from : Loaded) (k : ℕ) (ops : List PlainOp) →
    take (row_length from k ops) ops ≡ row from k (row_length from k ops)
row-taken from k [] = refl
row-taken from k (op ∷ ops) =
    by_test (λ n. take n (op ∷ ops) ≡ row from k n) (is_loaded from k op) (suc (row_length from (k + 1) ops)) 0
    (λ e. ap₂ (λ x xs. x ∷ xs) (loaded-is from k op e) (row-taken from (k + 1) ops)) (λ e. refl)

-- the row, and what comes after it
pub row_first : (from : Loaded) (ops : List PlainOp) →
    ops ≡ row from 0 (row_length from 0 ops) ++ drop (row_length from 0 ops) ops
row_first from ops =
    let m : ℕ = row_length from 0 ops in
    sym (take-append-drop m ops) ∙ ap (λ xs. xs ++ drop m ops) (row-taken from 0 ops)

-- what comes after it puts registers after those of the row
pub row_fresh : (from : Loaded) (k n next : ℕ) (rest : List PlainOp) → k + n ≡ next →
    are_fresh 1 k (straight (row from k n ++ rest)) ≡ true → are_fresh 1 next (straight rest) ≡ true
row_fresh from k zero next rest e h =
    let same : k ≡ next = omega (arith, e) in
    subst (λ i. are_fresh 1 i (straight rest) ≡ true) same h
row_fresh from k (suc n) next rest e h =
    row_fresh from (k + 1) n next rest (omega (arith, e)) (both_true (k == k) _ h).1

-- registers of the row keep their numbers where none of them is turned
pub row_stays : (at m : ℕ) (xs : List ℕ) (r : ℕ) → list_all (nat_le m) xs ≡ true → r < m → renumbered at xs r ≡ r
row_stays at m [] r h low = refl
row_stays at m (x ∷ xs) r h low =
    let two = both_true (nat_le m x) _ h in
    let far : m ≤ x = leb-true m x two.0 in
    passed r x at (renumbered (at + 1) xs r) (λ e. omega (arith, e, far, low))
    ∙ row_stays (at + 1) m xs r two.1 low

-- ---- what the row puts

module _ (p : PlainProgram) (us : List ℕ) (q : ℕ) (from : Loaded) where
  -- where word k of the round stands
  abbrev pub row_word : ℕ → ℕ
  row_word k = array_start (whole_lines p.size p.line) from.array + (sum_numbers (Sum k from.parts) us q).value

  pub row_values : (memory xs : List ℕ) (k n : ℕ) →
      values_put p.modulus memory xs (acts_in p us q (row from k n))
      ≡ xs ++ map (λ i. slice_index memory (row_word i)) (range_with_len k n)
  row_values memory xs k zero = sym (append-nil xs)
  row_values memory xs k (suc n) =
      row_values memory (xs ++ slice_index memory (row_word k) ∷ []) (k + 1) n
      ∙ append_assoc xs (slice_index memory (row_word k) ∷ [])
      (map (λ i. slice_index memory (row_word i)) (range_with_len (k + 1) n))
