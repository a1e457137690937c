-- What the tests of columns and of loads tell of a round that can be laned.
use Rattle.nests.proofs.Bools.{three_true}
use Rattle.std.proofs.Common.{◌≡◌, ℕ, suc, ◌+◌, ◌<◌, ◌≤◌, true, false, not, ◌&&◌, List, [], ◌∷◌, All, Contains, length}
use Rattle.std.proofs.Common.{refl, ap, ap₂, ◌∙◌, subst, arith, inl, inr, eqb-true, ◌*◌, Option, Some, None, Bool, map}
use Rattle.std.proofs.Common.{zero, ◌/◌, ◌%◌, ◌++◌, drop, sym, ltb-true, length-append}
use Rattle.std.specs.Prelude.{◌==◌, nat_lt, ◌||◌, if◌then◌else◌, nat_le}
use Rattle.std.specs.List.{list_all, range_with_len}
use Rattle.std.proofs.lemmas.Bool.{cases_eq, not-true}
use Rattle.std.proofs.lemmas.List.Elements.{All-head, All-tail, All-filter, All-contains, All-take, All-drop}
use Rattle.std.proofs.lemmas.List.Elements.{Contains-append_left}
use Rattle.std.proofs.lemmas.List.Sums.{AllPass-from_list_all}
use Rattle.icode.specs.declared.program.Array.{Array}
use Rattle.icode.specs.Plain.{PlainParts, PlainOp, Sum, Store, MulTable, Load}
use Rattle.icode.proofs.Bools.{both_true}
use Rattle.nests.specs.Places.{same_parts, are_linear, stride}
use Rattle.nests.specs.Rounds.{Stored, same_array, are_fresh, straight}
use Rattle.nests.proofs.Linear.{wrong, parts_equal}
use Rattle.nests.proofs.Members.{all_of_members}
use Rattle.loop_lanes.specs.Rows.{is_store, stores, others, stored_constants, are_from, is_by_lane, are_rows, in_row}
use Rattle.loop_lanes.specs.Rows.{are_clear}
use Rattle.loop_lanes.specs.Columns.{Factors, are_products, factored_registers, Columns, first_factors, front_length}
use Rattle.loop_lanes.specs.Columns.{last_products, plain_columns, factored_columns, are_by, are_plain_columns}
use Rattle.loop_lanes.specs.Columns.{are_factored_columns, in_columns, are_columns}
use Rattle.loop_lanes.proofs.Arrays.{array_same}
use Rattle.loop_lanes.proofs.Orders.{others_put, row, row_first, row_fresh}
use Rattle.loop_lanes.proofs.FrontCovered.{IsStored, IsMultiplied}
use Rattle.std.proofs.lemmas.List.{length-take}
use Rattle.icode.specs.Limits.{is_small}
use Rattle.loop_lanes.proofs.ColumnsAre.{AreColumns, columns_told, by_told}
use Rattle.loop_lanes.specs.Lanes.{can_by_lane, by_lane_ops, can_lane, laned_ops}
use Rattle.loop_lanes.specs.Loads.{are_loaded_rows, are_loaded, can_load, in_loaded_rows, in_loaded, loaded_ops}
use Rattle.loop_lanes.specs.Loads.{Loaded, first_load, row_length, are_whole, are_rows_behind, are_rows_from, behind}
use Rattle.loop_lanes.specs.Loads.{are_behind, are_loaded_from, load_tiles, in_loaded_rows_from, in_tiles}
use Rattle.loop_lanes.specs.Loads.{in_loaded_from}
use Rattle.std.proofs.lemmas.List.FromFn.{length-map-range_with_len}
use Rattle.icode.proofs.Lines.{Contains-map, Contains-range}

-- ---- operations that store, and others

-- an operation of the round, that is no store
abbrev pub IsOther : List PlainOp → PlainOp → Type 0
IsOther ops op = Contains ops op × (is_store op ≡ false)

pub members : (ops : List PlainOp) → All (Contains ops) (others ops)
members ops =
    All-filter (λ op. not (is_store op)) (Contains ops) ops (all_of_members (Contains ops) ops (λ op has. has))

pub others_are : (ops : List PlainOp) → All (IsOther ops) (others ops)
others_are ops =
    let puts = AllPass-from_list_all (λ op. not (is_store op)) (others ops) (others_put ops) in
    all_of_members (IsOther ops) (others ops) (λ op has. (
      All-contains (Contains ops) (others ops) op (members ops) has,
      not-true (is_store op) (All-contains (λ op. not (is_store op) ≡ true) (others ops) op puts has),
    ))

-- ---- constants

-- the test of a store tells where it stores
stored-at : (loop : ℕ) (to : Stored) (array : Array) (constant : ℕ) (parts : PlainParts) (r : ℕ) (all : List PlainOp)
    (c : ℕ) →
    is_by_lane loop to (Store array (Sum constant parts) r) ≡ true → constant ≡ c →
    Contains all (Store array (Sum constant parts) r) → IsStored to all c
stored-at loop to array constant parts r all c h same has =
    let two = both_true (same_array array to.array) (same_parts parts to.parts) h in
    let is : Store array (Sum constant parts) r ≡ Store to.array (Sum c to.parts) r =
    ap₂ (λ a parts. Store a (Sum constant parts) r) (array_same array to.array two.0) (parts_equal parts to.parts two.1)
    ∙ ap (λ n. Store to.array (Sum n to.parts) r) same in
    record { register = r; has = subst (Contains all) is has }

stored-from : (loop : ℕ) (to : Stored) (all : List PlainOp) (k : ℕ) (ops : List PlainOp) → All (Contains all) ops →
    are_from k (stored_constants ops) ≡ true →
    list_all (is_by_lane loop to) (stores ops) ≡ true → (c : ℕ) → k ≤ c → c < k + length (stores ops) →
    IsStored to all c
stored-from loop to all k [] has from by_lane c low high = absurd (omega (arith, low, high))
stored-from loop to all k (Store array (Sum constant parts) r ∷ ops) has from by_lane c low high =
    let here = both_true (constant == k) (are_from (k + 1) (stored_constants ops)) from in
    let told =
    both_true (is_by_lane loop to (Store array (Sum constant parts) r))
    (list_all (is_by_lane loop to) (stores ops)) by_lane in
    let is : constant ≡ k = eqb-true constant k here.0 in
    elim (cases_eq k c) [
      | inl same ↦ stored-at loop to array constant parts r all c told.0 (is ∙ same)
          (All-head (Contains all) (Store array (Sum constant parts) r) ops has)
      | inr other ↦
          stored-from loop to all (k + 1) ops
          (All-tail (Contains all) (Store array (Sum constant parts) r) ops has) here.1 told.1 c
          (omega (arith, low, other)) (omega (arith, high))
    ]
stored-from loop to all k (op ∷ ops) has from by_lane c low high =
    stored-from loop to all k ops (All-tail (Contains all) op ops has) from by_lane c low high

-- stores one after the other, each into a word of its own
pub stored_each : (loop : ℕ) (to : Stored) (ops : List PlainOp) → are_from 0 (stored_constants ops) ≡ true →
    list_all (is_by_lane loop to) (stores ops) ≡ true →
    (c : ℕ) → c < length (stores ops) → IsStored to ops c
stored_each loop to ops from by_lane c lt =
    stored-from loop to ops 0 ops (all_of_members (Contains ops) ops (λ op has. has)) from by_lane c (omega arith)
    (omega (arith, lt))

-- ---- factors

multiplied-from : (by : Factors) (bound : ℕ) (all : List PlainOp) (k : ℕ) (ops : List PlainOp) →
    All (Contains all) ops → are_products by bound k ops ≡ true →
    (c : ℕ) → k ≤ c → c < k + length ops → IsMultiplied by all c
multiplied-from by bound all k [] has products c low high = absurd (omega (arith, low, high))
multiplied-from by bound all k (MulTable r x table (Sum constant parts) step ∷ ops) has products c low high =
    let two =
    both_true (nat_lt x bound &&
    ((table == by.table) && ((constant == by.constant + k) && same_parts parts by.parts)))
    (are_products by bound (k + 1) ops) products in
    let more = both_true (table == by.table) _ (both_true (nat_lt x bound) _ two.0).1 in
    let last = both_true (constant == by.constant + k) (same_parts parts by.parts) more.1 in
    let first : PlainOp = MulTable r x table (Sum constant parts) step in
    let is : first ≡ MulTable r x by.table (Sum (by.constant + k) by.parts) step =
    ap₂ (λ t parts. MulTable r x t (Sum constant parts) step)
    (eqb-true table by.table more.0) (parts_equal parts by.parts last.1)
    ∙ ap (λ n. MulTable r x by.table (Sum n by.parts) step) (eqb-true constant (by.constant + k) last.0) in
    elim (cases_eq k c) [
      | inl same ↦
          record {
            register = r;
            source = x;
            step = step;
            has =
                subst (λ n. Contains all (MulTable r x by.table (Sum (by.constant + n) by.parts) step)) same
                (subst (Contains all) is (All-head (Contains all) first ops has));
          }
      | inr other ↦
          multiplied-from by bound all (k + 1) ops
          (All-tail (Contains all) (MulTable r x table (Sum constant parts) step) ops has) two.1 c
          (omega (arith, low, other)) (omega (arith, high))
    ]
multiplied-from by bound all k (op ∷ ops) has products c low high = wrong products

-- as many registers as products
pub as_many_products : (by : Factors) (bound k : ℕ) (ops : List PlainOp) → are_products by bound k ops ≡ true →
    length (factored_registers ops) ≡ length ops
as_many_products by bound k [] h = refl
as_many_products by bound k (MulTable r x table (Sum constant parts) step ∷ ops) h =
    ap suc (as_many_products by bound (k + 1) ops (both_true _ (are_products by bound (k + 1) ops) h).1)
as_many_products by bound k (op ∷ ops) h = wrong h

-- ---- what the tests of a round that can be laned tell of it

-- ---- columns

-- the rounds multiply by m entries of a table
pub record AreFactors (v loop : ℕ) (ops : List PlainOp) (by : Factors) (m : ℕ) : Type 0 where
  pub linear : are_linear 0 by.parts ≡ true
  pub each : (k : ℕ) → k < m → IsMultiplied by ops k
  pub small : is_small (by.constant + (length (stores ops) + v * stride loop by.parts)) ≡ true

-- if by any
abbrev pub AreMultiplied : ℕ → ℕ → List PlainOp → Option Factors → ℕ → Type 0
AreMultiplied v loop ops None m = Unit {0}
AreMultiplied v loop ops (Some by) m = AreFactors v loop ops by m

-- columns of a round that pass the tests
pub record AreGood (v loop : ℕ) (to : Stored) (ops : List PlainOp) (c : Columns) : Type 0 where
  pub columns : AreColumns v loop to ops c
  pub front : All (IsOther ops) c.front
  pub short : length c.front ≤ length (others ops)
  pub factors : AreMultiplied v loop ops c.by (length c.turned)

pub multiplied_by : (v loop : ℕ) (ops : List PlainOp) (factors : Option Factors) → are_by v loop ops factors ≡ true →
    AreMultiplied v loop ops factors (length (factored_registers (last_products ops)))
multiplied_by v loop ops None h = wrong h
multiplied_by v loop ops (Some by) h =
    let told = by_told v loop ops by h in
    let many = as_many_products by (front_length ops) 0 (last_products ops) told.products in
    record {
      linear = told.linear;
      each = λ k lt.
          multiplied-from by (front_length ops) ops 0 (last_products ops)
          (All-drop (Contains ops) (front_length ops) (others ops) (members ops)) told.products k (omega arith)
          (omega (arith, many, lt));
      small = told.small;
    }

-- the operations before the products
pub factored_front : (ops : List PlainOp) → All (IsOther ops) (factored_columns ops).front
factored_front ops = All-take (IsOther ops) (front_length ops) (others ops) (others_are ops)

pub factored_short : (ops : List PlainOp) → length (factored_columns ops).front ≤ length (others ops)
factored_short ops = let short = length-take (front_length ops) (others ops) in omega (arith, short)

pub factored_good : (v loop : ℕ) (to : Stored) (ops : List PlainOp) → are_factored_columns v loop to ops ≡ true →
    AreGood v loop to ops (factored_columns ops)
factored_good v loop to ops h =
    let two = both_true (are_by v loop ops (first_factors (last_products ops))) _ h in
    record {
      columns = columns_told v loop to ops (factored_columns ops) two.1;
      front = factored_front ops;
      short = factored_short ops;
      factors = multiplied_by v loop ops (first_factors (last_products ops)) two.0;
    }

-- ---- the ways in which rounds become lanes: what holds of each, where its test passes, holds of what they become

-- what holds of two things, each where its test passes, holds of the first whose test passes
of_either : {X : Type 0} (P : X → Type 0) (a c : Bool) (x y : X) → (a || c) ≡ true →
    (a ≡ true → P x) → (c ≡ true → P y) → P (if a then x else y)
of_either P true c x y h first second = first refl
of_either P false c x y h first second = second h

-- what holds of three
of_three : {X : Type 0} (P : X → Type 0) (a c d : Bool) (x y z : X) → (a || (c || d)) ≡ true →
    (a ≡ true → P x) → (c ≡ true → P y) → (d ≡ true → P z) → P (if a then x else if c then y else z)
of_three P a c d x y z h first second third =
    of_either P a (c || d) x (if c then y else z) h first (λ more. of_either P c d y z more second third)

-- rows, columns and factored columns, where all loads are by lane, and where rows are loaded
pub of_kinds : (P : List PlainOp → Type 0) (v n loop : ℕ) (to : Stored) (ops : List PlainOp) →
    can_lane v loop (Some to) ops ≡ true →
    (are_rows v loop to ops ≡ true → P (map (in_row v loop) ops)) →
    (are_plain_columns v loop to ops ≡ true → P (in_columns v n loop to (plain_columns ops))) →
    (are_factored_columns v loop to ops ≡ true → P (in_columns v n loop to (factored_columns ops))) →
    (are_loaded_rows v loop to ops ≡ true → P (in_loaded_rows v n loop ops)) →
    (are_loaded v loop to ops (plain_columns ops) ≡ true → P (in_loaded v n loop to (plain_columns ops))) →
    (are_by v loop ops (factored_columns ops).by ≡ true → are_loaded v loop to ops (factored_columns ops) ≡ true →
    P (in_loaded v n loop to (factored_columns ops))) →
    P (laned_ops v n loop (Some to) ops)
of_kinds P v n loop to ops can rows plain factored loaded_rows loaded loaded_factored =
    of_either P (can_by_lane v loop to ops) (can_load v loop to ops) (by_lane_ops v n loop to ops)
    (loaded_ops v n loop to ops) (both_true (are_linear 0 to.parts) _ can).1
    (λ by_lane. of_three P (are_rows v loop to ops) (are_plain_columns v loop to ops)
    (are_factored_columns v loop to ops) (map (in_row v loop) ops) (in_columns v n loop to (plain_columns ops))
    (in_columns v n loop to (factored_columns ops)) by_lane rows plain factored)
    (λ loads. of_three P (are_loaded_rows v loop to ops) (are_loaded v loop to ops (plain_columns ops)) _
    (in_loaded_rows v n loop ops) (in_loaded v n loop to (plain_columns ops))
    (in_loaded v n loop to (factored_columns ops)) loads loaded_rows loaded
    (λ both.
    let two = both_true (are_by v loop ops (factored_columns ops).by) _ both in loaded_factored two.0 two.1))

-- ---- what the test of a round that loads a row tells of it

-- operations that begin with the loads of a row of m words
pub record IsRow (v loop : ℕ) (to : Stored) (front : List PlainOp) (from : Loaded) (m : ℕ) : Type 0 where
  pub row : front ≡ row from 0 m ++ drop m front
  pub some : 0 < m
  pub whole : m % v ≡ 0
  pub other : same_array from.array to.array ≡ false
  pub linear : are_linear 0 from.parts ≡ true
  pub small : is_small (m + v * stride loop from.parts) ≡ true

-- columns after them
pub record IsLoaded (v loop : ℕ) (to : Stored) (ops : List PlainOp) (c : Columns) (from : Loaded)
    (m : ℕ) : Type 0 where
  pub first : IsRow v loop to c.front from m
  pub high : list_all (nat_le m) c.turned ≡ true
  pub columns : are_columns v loop to ops (behind m c) ≡ true

-- rows after them
pub record AreLoadedRows (v loop : ℕ) (to : Stored) (ops : List PlainOp) (from : Loaded) (m : ℕ) : Type 0 where
  pub first : IsRow v loop to ops from m
  pub unit : stride loop to.parts ≡ 1
  pub by_lane : list_all (is_by_lane loop to) (drop m ops) ≡ true
  pub clear : are_clear v (stored_constants ops) ≡ true

row-told : (v loop : ℕ) (to : Stored) (front : List PlainOp) (from : Loaded) (m : ℕ) →
    front ≡ row from 0 m ++ drop m front → are_whole v loop to from m ≡ true → IsRow v loop to front from m
row-told v loop to front from m is h =
    let whole = both_true (nat_lt 0 m && ((m % v == 0) && not (same_array from.array to.array))) _ h in
    let tiles = both_true (nat_lt 0 m) _ whole.0 in
    let other = both_true (m % v == 0) _ tiles.1 in
    let places = both_true (are_linear 0 from.parts) _ whole.1 in
    record {
      row = is;
      some = ltb-true 0 m tiles.0;
      whole = eqb-true (m % v) 0 other.0;
      other = not-true (same_array from.array to.array) other.1;
      linear = places.0;
      small = places.1;
    }

behind-told : (v loop : ℕ) (to : Stored) (ops : List PlainOp) (c : Columns) (from : Loaded) (m : ℕ) →
    c.front ≡ row from 0 m ++ drop m c.front → are_behind v loop to ops c from m ≡ true →
    IsLoaded v loop to ops c from m
behind-told v loop to ops c from m is h =
    let two = both_true (are_whole v loop to from m) _ h in
    let columns = both_true (list_all (nat_le m) c.turned) _ two.1 in
    record { first = row-told v loop to c.front from m is two.0; high = columns.0; columns = columns.1 }

rows-told : (v loop : ℕ) (to : Stored) (ops : List PlainOp) (from : Loaded) (m : ℕ) →
    ops ≡ row from 0 m ++ drop m ops → are_rows_behind v loop to ops from m ≡ true →
    AreLoadedRows v loop to ops from m
rows-told v loop to ops from m is h =
    let two = both_true (are_whole v loop to from m) _ h in
    let unit = both_true (stride loop to.parts == 1) _ two.1 in
    let more = both_true (list_all (is_by_lane loop to) (drop m ops)) _ unit.1 in
    record {
      first = row-told v loop to ops from m is two.0;
      unit = eqb-true (stride loop to.parts) 1 unit.0;
      by_lane = more.0;
      clear = more.1;
    }

-- what holds of rows after each row holds of what becomes of the round
pub of_loaded_rows : (P : List PlainOp → Type 0) (v n loop : ℕ) (to : Stored) (ops : List PlainOp) →
    are_loaded_rows v loop to ops ≡ true →
    ((from : Loaded) (m : ℕ) → AreLoadedRows v loop to ops from m →
    P (load_tiles v (2 * n) loop from m ++ map (in_row v loop) (drop m ops))) →
    P (in_loaded_rows v n loop ops)
of_loaded_rows P v n loop to ops h each = by (first_load ops) h
  where
    by : (from : Option Loaded) → are_rows_from v loop to ops from ≡ true → P (in_loaded_rows_from v n loop ops from)
    by None h = wrong h
    by (Some from) h =
        let m : ℕ = row_length from 0 ops in each from m (rows-told v loop to ops from m (row_first from ops) h)

-- what holds of columns after each row holds of what becomes of the round
pub of_loaded : (P : List PlainOp → Type 0) (v n loop : ℕ) (to : Stored) (ops : List PlainOp) (c : Columns) →
    are_loaded v loop to ops c ≡ true →
    ((from : Loaded) (m : ℕ) → IsLoaded v loop to ops c from m → P (in_tiles v n loop to c from m)) →
    P (in_loaded v n loop to c)
of_loaded P v n loop to ops c h each = by (first_load c.front) h
  where
    by : (from : Option Loaded) → are_loaded_from v loop to ops c from ≡ true → P (in_loaded_from v n loop to c from)
    by None h = wrong h
    by (Some from) h =
        let m : ℕ = row_length from 0 c.front in
        each from m (behind-told v loop to ops c from m (row_first from c.front) h)

-- ---- rows

module _ (v loop : ℕ) (to : Stored) (front : List PlainOp) (from : Loaded) (m : ℕ)
    (known : IsRow v loop to front from m) where
  -- the round has each load of the row
  pub loads_each : (ops : List PlainOp) → ((op : PlainOp) → Contains front op → Contains ops op) → (i : ℕ) → i < m →
      Contains ops (Load i from.array (Sum i from.parts))
  loads_each ops among i below =
      let load : ℕ → PlainOp = λ i. Load i from.array (Sum i from.parts) in
      among (load i)
      (subst (λ xs. Contains xs (load i)) (sym known.row)
      (Contains-append_left (row from 0 m) (drop m front) (load i)
      (Contains-map load (range_with_len 0 m) i (Contains-range m 0 i (omega arith) (omega (arith, below))))))

  -- as many operations as loads, and the others
  pub front_many : length front ≡ m + length (drop m front)
  front_many =
      let row_many = length-map-range_with_len (λ i. Load i from.array (Sum i from.parts)) 0 m in
      ap length known.row ∙ length-append (row from 0 m) (drop m front) ∙ ap (λ k. k + length (drop m front)) row_many

  -- a tile at least
  pub lanes_few : 0 < v → v ≤ m
  lanes_few lanes = at_least (m / v) all
    where
      all : v * (m / v) ≡ m
      all = let whole = known.whole in omega (arith, lanes, whole)

      at_least : (t : ℕ) → v * t ≡ m → v ≤ m
      at_least zero e =
          let some = known.some in
          let none : v * 0 ≡ 0 = omega arith in
          absurd (omega (arith, e, some, none))
      at_least (suc t) e = let out : v * suc t ≡ v + v * t = omega arith in omega (arith, e, out)

  -- what comes after the row puts registers after those of the row
  pub rest_fresh : are_fresh 1 0 (straight front) ≡ true → are_fresh 1 m (straight (drop m front)) ≡ true
  rest_fresh h =
      row_fresh from 0 m m (drop m front) (omega arith)
      (subst (λ xs. are_fresh 1 0 (straight xs) ≡ true) known.row h)

-- ---- columns and rows that pass the tests

-- what holds of rows and of columns, and of these after a row that is loaded, holds of what becomes of the round
pub of_good_kinds : (P : List PlainOp → Type 0) (v n loop : ℕ) (to : Stored) (ops : List PlainOp) →
    can_lane v loop (Some to) ops ≡ true →
    (stride loop to.parts ≡ 1 → list_all (is_by_lane loop to) ops ≡ true → are_clear v (stored_constants ops) ≡ true →
    P (map (in_row v loop) ops)) →
    ((c : Columns) → AreGood v loop to ops c → P (in_columns v n loop to c)) →
    ((from : Loaded) (m : ℕ) → AreLoadedRows v loop to ops from m →
    P (load_tiles v (2 * n) loop from m ++ map (in_row v loop) (drop m ops))) →
    ((c : Columns) (from : Loaded) (m : ℕ) → IsRow v loop to c.front from m → All (IsOther ops) c.front →
    length c.front ≤ length (others ops) → AreGood v loop to ops (behind m c) → P (in_tiles v n loop to c from m)) →
    P (laned_ops v n loop (Some to) ops)
of_good_kinds P v n loop to ops can rows columns loaded_rows loaded =
    of_kinds P v n loop to ops can
    (λ h.
    let more = three_true (stride loop to.parts == 1) (list_all (is_by_lane loop to) ops) _ h in
    rows (eqb-true (stride loop to.parts) 1 more.0) more.1 more.2)
    (λ h.
    columns (plain_columns ops)
    (record {
      columns = columns_told v loop to ops (plain_columns ops) h;
      front = others_are ops;
      short = omega arith;
      factors = tt;
    }))
    (λ h. columns (factored_columns ops) (factored_good v loop to ops h))
    (λ h. of_loaded_rows P v n loop to ops h loaded_rows)
    (λ h. behind_row (plain_columns ops) h (others_are ops) (omega arith) tt)
    (λ by h. behind_row (factored_columns ops) h (factored_front ops) (factored_short ops)
    (multiplied_by v loop ops (factored_columns ops).by by))
  where
    behind_row : (c : Columns) → are_loaded v loop to ops c ≡ true → All (IsOther ops) c.front →
        length c.front ≤ length (others ops) → AreMultiplied v loop ops c.by (length c.turned) →
        P (in_loaded v n loop to c)
    behind_row c h front short factors =
        of_loaded P v n loop to ops c h (λ from m known.
        let many = front_many v loop to c.front from m known.first in
        loaded c from m known.first front short
        (record {
          columns = columns_told v loop to ops (behind m c) known.columns;
          front = All-drop (IsOther ops) m c.front front;
          short = omega (arith, short, many);
          factors = factors;
        }))
