-- Operations that are done in lanes, rows of tiles, products and loads touch words that the rounds touch, and fit.
use Rattle.std.proofs.Common.{◌≡◌, ℕ, ◌+◌, ◌-◌, ◌*◌, ◌^◌, ◌<◌, ◌≤◌, true, not, List, [], ◌∷◌, ◌++◌, All, Contains}
use Rattle.std.proofs.Common.{length, replicate, refl, sym, ap, ◌∙◌, subst, arith, eqb-true, ◌⊎◌}
use Rattle.std.specs.Prelude.{◌==◌, slice_index, slice_index_or}
use Rattle.std.specs.List.{range_with_len}
use Rattle.std.proofs.lemmas.List.Elements.{All-head}
use Rattle.icode.specs.declared.program.Array.{Array}
use Rattle.icode.specs.Actions.{Step, StepFits, array_start, lane_factors, step_of}
use Rattle.icode.specs.Expression.{sum_numbers}
use Rattle.icode.specs.Machine.{whole_lines, stored_words, touched_words}
use Rattle.icode.specs.Plain.{PlainExpr, PlainOp, PlainProgram, Sum, Load, Store, Zero, Add, Sub, Neg, MulConst}
use Rattle.icode.specs.Plain.{MulTable, Tile, PlainParts}
use Rattle.icode.proofs.Bools.{both_true}
use Rattle.icode.proofs.Lines.{Contains-nil, Contains-range}
use Rattle.nests.specs.Places.{are_linear, is_linear, stride}
use Rattle.nests.specs.Rounds.{Stored, same_array}
use Rattle.nests.proofs.Linear.{wrong, parts_equal}
use Rattle.nests.proofs.Rows.{factors_fit}
use Rattle.nests.proofs.Members.{range_item}
use Rattle.loop_lanes.specs.Rows.{widened, place_stride, is_store, is_by_lane, in_row}
use Rattle.loop_lanes.specs.Columns.{renumbered_op, Factors}
use Rattle.loop_lanes.specs.Layers.{group_at, on_lanes}
use Rattle.loop_lanes.proofs.Covered.{IsCovered, IsInGroup, in_group, group}
use Rattle.loop_lanes.proofs.Wide.{widened_value, wide_value, moved, moved_value, moved_peak}
use Rattle.loop_lanes.specs.Loads.{Loaded}

-- ---- factors

pub no_steps : (at step : ℕ) → at + step * 0 ≡ at
no_steps at step = omega arith

-- the factor of one lane fits
pub factor_fits : (m lanes : ℕ) (g : ℕ → ℕ) → lanes ≡ 1 → All (λ c. c < m) (lane_factors lanes g) → g 0 < m
factor_fits m lanes g alone all =
    All-head (λ c. c < m) (g 0) (replicate (16 - 1) 0) (subst (λ n. All (λ c. c < m) (lane_factors n g)) alone all)

-- ---- words one after the other

-- what holds of the word of each lane holds of the words from the first on
pub words_of_lanes : (P : ℕ → Type 0) (v first : ℕ) (at : ℕ → ℕ) → ((l : ℕ) → at l ≡ first + l) →
    ((l : ℕ) → l < v → (k : ℕ) → Contains (range_with_len (at l) 1) k → P k) →
    (k : ℕ) → Contains (range_with_len first v) k → P k
words_of_lanes P v first at is each k h =
    let within = range_item first v k h in
    let from = within.0 in
    let l : ℕ = k - first in
    let e : k ≡ at l = omega (arith, from, is l) in
    each l (omega (arith, within.1, from)) k (Contains-range 1 (at l) k (omega (arith, e)) (omega (arith, e)))

-- ---- what the rounds do

-- the rounds store into the word of this constant
pub record IsStored (to : Stored) (ops : List PlainOp) (constant : ℕ) : Type 0 where
  pub register : ℕ
  pub has : Contains ops (Store to.array (Sum constant to.parts) register)

-- the rounds multiply by the entry of this number
pub record IsMultiplied (by : Factors) (ops : List PlainOp) (k : ℕ) : Type 0 where
  pub register : ℕ
  pub source : ℕ
  pub step : ℕ
  pub has : Contains ops (MulTable register source by.table (Sum (by.constant + k) by.parts) step)

-- ---- operations

module _ (v : ℕ) (p : PlainProgram) (ops : List PlainOp) (vs : List ℕ) (b q : ℕ) (some : 0 < v) (alone : p.lanes ≡ 1)
    (fits : All (StepFits p) (group_at v p ops vs b q)) where
  abbrev loop : ℕ
  loop = length vs

  abbrev words : ℕ
  words = whole_lines p.size p.line

  abbrev wide_step : PlainOp → Step
  wide_step op = step_of (on_lanes v p) op (vs ++ b ∷ []) q

  abbrev pub Covered : PlainOp → Type 0
  Covered op = IsCovered v p (group v p ops vs b q) (wide_step op)

  abbrev known : (op : PlainOp) → Contains ops op → IsInGroup v p ops vs b q op
  known = in_group v p ops vs b q fits

  abbrev wide_place : PlainExpr → ℕ
  wide_place place = (sum_numbers (widened v loop place) (vs ++ b ∷ []) q).value

  peak_in : (place : PlainExpr) → is_linear place ≡ true →
      (sum_numbers place (vs ++ (v * b + 0) ∷ []) q).peak < 2 ^ 64 →
      (sum_numbers (widened v loop place) (vs ++ b ∷ []) q).peak < 2 ^ 64
  peak_in place linear h =
      let first : v * b + 0 ≡ v * b = omega arith in
      subst (λ n. n.peak < 2 ^ 64)
      (ap (λ i. sum_numbers place (vs ++ i ∷ []) q) first ∙ sym (widened_value v loop place vs b q linear refl)) h

  -- places that step by one
  place_by_one : (place : PlainExpr) (l : ℕ) → is_linear place ≡ true → place_stride loop place ≡ 1 →
      (sum_numbers place (vs ++ (v * b + l) ∷ []) q).value ≡ wide_place place + l
  place_by_one place l linear unit =
      let far : place_stride loop place * l ≡ 1 * l = ap (λ s. s * l) unit in
      omega (arith, wide_value v place vs b l q linear, far)

  -- they end within the array
  ends_within : (place : PlainExpr) (room : ℕ) → is_linear place ≡ true → place_stride loop place ≡ 1 →
      ((l : ℕ) → l < v → (sum_numbers place (vs ++ (v * b + l) ∷ []) q).value + p.lanes ≤ room) →
      wide_place place + v ≤ room
  ends_within place room linear unit each =
      let last : v - 1 < v = omega (arith, some) in
      let end = each (v - 1) last in
      omega (arith, some, end, alone, place_by_one place (v - 1) linear unit)

  -- the words of a place that steps by one are those of the rounds
  words_in : (start : ℕ) (place : PlainExpr) (P : ℕ → Type 0) → is_linear place ≡ true → place_stride loop place ≡ 1 →
      ((l : ℕ) → l < v → (k : ℕ) →
      Contains (range_with_len (start + (sum_numbers place (vs ++ (v * b + l) ∷ []) q).value) 1) k → P k) →
      (k : ℕ) → Contains (range_with_len (start + wide_place place) v) k → P k
  words_in start place P linear unit each =
      words_of_lanes P v (start + wide_place place)
      (λ l. start + (sum_numbers place (vs ++ (v * b + l) ∷ []) q).value)
      (λ l. omega (arith, place_by_one place l linear unit)) each

  -- a step that stores and touches nothing
  pub silent : (op : PlainOp) → stored_words v (wide_step op).action ≡ [] → touched_words v (wide_step op).action ≡ [] →
      StepFits (on_lanes v p) (wide_step op) → Covered op
  silent op none nothing fits =
      record {
        stored = λ k h. absurd (Contains-nil k (subst (λ ks. Contains ks k) none h));
        touched = λ k h. absurd (Contains-nil k (subst (λ ks. Contains ks k) nothing h));
        fits = fits;
      }

  -- registers are still there under other numbers
  abbrev pub AreLow : (ℕ → ℕ) → Type 0
  AreLow f = (r : ℕ) → r < p.regs → f r < 3 * p.regs

  module _ (f : ℕ → ℕ) (low : AreLow f) where
    low_two : (r x : ℕ) → (r < p.regs) × (x < p.regs) → (f r < 3 * p.regs) × (f x < 3 * p.regs)
    low_two r x h = (low r h.0, low x h.1)

    low_three : (r x y : ℕ) → (r < p.regs) × (x < p.regs) × (y < p.regs) →
        (f r < 3 * p.regs) × (f x < 3 * p.regs) × (f y < 3 * p.regs)
    low_three r x y h = (low r h.0, low x h.1, low y h.2)

    wide_load_covered : (r : ℕ) (array : Array) (place : PlainExpr) → is_linear place ≡ true →
        place_stride loop place ≡ 1 →
        Contains ops (Load r array place) → Covered (Load (f r) array (widened v loop place))
    wide_load_covered r array place linear unit has =
        let old = known (Load r array place) has in
        record {
          stored = λ k h. absurd (Contains-nil k h);
          touched = words_in (array_start words array) place _ linear unit old.touched;
          fits =
              record {
                numbers = peak_in place linear (old.fits 0 some).numbers;
                place = ends_within place words linear unit (λ l lt. (old.fits l lt).place);
                registers = low r (old.fits 0 some).registers;
                factors = tt;
              };
        }

    store_covered : (array : Array) (place : PlainExpr) (r : ℕ) → is_linear place ≡ true →
        place_stride loop place ≡ 1 →
        Contains ops (Store array place r) → Covered (Store array (widened v loop place) (f r))
    store_covered array place r linear unit has =
        let old = known (Store array place r) has in
        record {
          stored = words_in (array_start words array) place _ linear unit old.stored;
          touched = words_in (array_start words array) place _ linear unit old.touched;
          fits =
              record {
                numbers = peak_in place linear (old.fits 0 some).numbers;
                place = ends_within place words linear unit (λ l lt. (old.fits l lt).place);
                registers = low r (old.fits 0 some).registers;
                factors = tt;
              };
        }

    table_covered : (r x table : ℕ) (place : PlainExpr) (step : ℕ) → is_linear place ≡ true →
        Contains ops (MulTable r x table place step) →
        Covered (MulTable (f r) (f x) table (widened v loop place) (place_stride loop place))
    table_covered r x table place step linear has =
        let old = known (MulTable r x table place step) has in
        let entries : List ℕ = slice_index_or p.tables table [] in
        let at : ℕ → ℕ = λ l. (sum_numbers place (vs ++ (v * b + l) ∷ []) q).value in
        let entry : (l : ℕ) → l < v → slice_index entries (at l) < p.modulus =
        λ l lt. subst (λ i. slice_index entries i < p.modulus) (no_steps (at l) step)
        (factor_fits p.modulus p.lanes (λ lane. slice_index entries (at l + step * lane)) alone
        (old.fits l lt).factors) in
        let last : v - 1 < v = omega (arith, some) in
        let end = (old.fits (v - 1) last).place in
        let first = entry 0 some in
        silent (MulTable (f r) (f x) table (widened v loop place) (place_stride loop place)) refl refl
        (record {
          numbers = peak_in place linear (old.fits 0 some).numbers;
          place =
              reached (at (v - 1)) (wide_place place + place_stride loop place * (v - 1)) step p.lanes
              (length entries) (wide_value v place vs b (v - 1) q linear) end;
          registers = low_two r x (old.fits 0 some).registers;
          factors =
              factors_fit p.modulus v
              (λ lane. slice_index entries (wide_place place + place_stride loop place * lane))
              (omega (arith, first))
              (λ l lt.
              subst (λ i. slice_index entries i < p.modulus) (wide_value v place vs b l q linear) (entry l lt));
        })
      where
        reached : (a wide step lanes room : ℕ) → a ≡ wide → a + step * (lanes - 1) + 1 ≤ room → wide + 1 ≤ room
        reached a wide step lanes room same h = omega (arith, same, h)

    -- whatever is done in lanes
    pub front_covered : (to : Stored) (op : PlainOp) → are_linear 0 to.parts ≡ true →
        (is_store op ≡ true → stride loop to.parts ≡ 1) →
        is_by_lane loop to op ≡ true → Contains ops op → Covered (renumbered_op f (in_row v loop op))
    front_covered to (Load r array place) linear unit h has =
        let two =
        both_true (is_linear place) (place_stride loop place == 1)
        (both_true (not (same_array array to.array)) _ h).1 in
        wide_load_covered r array place two.0 (eqb-true (place_stride loop place) 1 two.1) has
    front_covered to (Store array (Sum constant parts) r) linear unit h has =
        let same : to.parts ≡ parts = sym (parts_equal parts to.parts (both_true (same_array array to.array) _ h).1) in
        store_covered array (Sum constant parts) r (subst (λ parts. are_linear 0 parts ≡ true) same linear)
        (subst (λ parts. stride loop parts ≡ 1) same (unit refl)) has
    front_covered to (Zero r) linear unit h has =
        let old = (known (Zero r) has).fits 0 some in
        silent (Zero (f r)) refl refl
        (record { numbers = old.numbers; place = old.place; registers = low r old.registers; factors = tt })
    front_covered to (Add r x y) linear unit h has =
        let old = (known (Add r x y) has).fits 0 some in
        silent (Add (f r) (f x) (f y)) refl refl
        (record { numbers = old.numbers; place = old.place; registers = low_three r x y old.registers; factors = tt })
    front_covered to (Sub r x y) linear unit h has =
        let old = (known (Sub r x y) has).fits 0 some in
        silent (Sub (f r) (f x) (f y)) refl refl
        (record { numbers = old.numbers; place = old.place; registers = low_three r x y old.registers; factors = tt })
    front_covered to (Neg r x) linear unit h has =
        let old = (known (Neg r x) has).fits 0 some in
        silent (Neg (f r) (f x)) refl refl
        (record { numbers = old.numbers; place = old.place; registers = low_two r x old.registers; factors = tt })
    front_covered to (MulConst r x factor) linear unit h has =
        let old = (known (MulConst r x factor) has).fits 0 some in
        let small : factor < p.modulus = factor_fits p.modulus p.lanes (λ lane. factor) alone old.factors in
        silent (MulConst (f r) (f x) factor) refl refl
        (record {
          numbers = old.numbers;
          place = old.place;
          registers = low_two r x old.registers;
          factors = factors_fit p.modulus v (λ lane. factor) (omega (arith, small)) (λ l lt. small);
        })
    front_covered to (MulTable r x table place step) linear unit h has =
        table_covered r x table place step (both_true (is_linear place) _ h).0 has
    front_covered to (Tile r x) linear unit h has = wrong h

  -- the place that is moved to a round
  abbrev place_at : ℕ → PlainParts → ℕ → ℕ
  place_at constant parts l = (sum_numbers (moved v loop constant parts l) (vs ++ b ∷ []) q).value

  -- one of a greater constant in the round
  place_behind : (constant i : ℕ) (parts : PlainParts) (l : ℕ) → are_linear 0 parts ≡ true →
      (sum_numbers (Sum (constant + i) parts) (vs ++ (v * b + l) ∷ []) q).value ≡ place_at constant parts l + i
  place_behind constant i parts l linear =
      let first = moved_value v loop constant parts vs b l q linear refl in
      omega (arith, first)

  peak_at : (constant first : ℕ) (parts : PlainParts) (l : ℕ) → are_linear 0 parts ≡ true → first ≡ constant →
      (sum_numbers (Sum first parts) (vs ++ (v * b + l) ∷ []) q).peak < 2 ^ 64 →
      (sum_numbers (moved v loop constant parts l) (vs ++ b ∷ []) q).peak < 2 ^ 64
  peak_at constant first parts l linear same h =
      less (sum_numbers (moved v loop constant parts l) (vs ++ b ∷ []) q).peak
      (sum_numbers (Sum constant parts) (vs ++ (v * b + l) ∷ []) q).peak (2 ^ 64)
      (moved_peak v loop constant parts vs b l q linear refl)
      (subst (λ c. (sum_numbers (Sum c parts) (vs ++ (v * b + l) ∷ []) q).peak < 2 ^ 64) same h)
    where
      less : (a c n : ℕ) → a ≤ c → c < n → a < n
      less a c n le lt = omega (arith, le, lt)

  -- ---- tiles

  pub tile_covered : (r x : ℕ) → r + v ≤ 3 * p.regs → x + v ≤ 3 * p.regs → (r + v ≤ x) ⊎ (x + v ≤ r) →
      Covered (Tile r x)
  tile_covered r x room more apart =
      silent (Tile r x) refl refl
      (record { numbers = omega arith; place = omega arith; registers = (room, more, apart); factors = tt })

  -- ---- rows

  -- words of an array from a constant on, in a round
  module _ (array : Array) (parts : PlainParts) (linear : are_linear 0 parts ≡ true) (constant l : ℕ) where
    abbrev place_of : ℕ → ℕ
    place_of i = (sum_numbers (Sum (constant + i) parts) (vs ++ (v * b + l) ∷ []) q).value

    words_of_row : (P : ℕ → Type 0) →
        ((i : ℕ) → i < v → (k : ℕ) → Contains (range_with_len (array_start words array + place_of i) 1) k → P k) →
        (k : ℕ) → Contains (range_with_len (array_start words array + place_at constant parts l) v) k → P k
    words_of_row P =
        words_of_lanes P v (array_start words array + place_at constant parts l)
        (λ i. array_start words array + place_of i) (λ i. omega (arith, place_behind constant i parts l linear))

  module _ (to : Stored) (linear : are_linear 0 to.parts ≡ true) (constant : ℕ) (each : (i : ℕ) → i < v →
      IsStored to ops (constant + i))
      (l : ℕ) (low : l < v) where
    pub row_covered : (r : ℕ) → r < 3 * p.regs → Covered (Store to.array (moved v loop constant to.parts l) r)
    row_covered r small =
        let last : v - 1 < v = omega (arith, some) in
        let end = ((known _ (each (v - 1) last).has).fits l low).place in
        record {
          stored =
              words_of_row to.array to.parts linear constant l _ (λ i lt. (known _ (each i lt).has).stored l low);
          touched =
              words_of_row to.array to.parts linear constant l _ (λ i lt. (known _ (each i lt).has).touched l low);
          fits =
              record {
                numbers =
                    peak_at constant (constant + 0) to.parts l linear (omega arith)
                    ((known _ (each 0 some).has).fits l low).numbers;
                place = omega (arith, some, alone, end, place_behind constant (v - 1) to.parts l linear);
                registers = small;
                factors = tt;
              };
        }

  -- ---- loads of tiles

  module _ (from : Loaded) (linear : are_linear 0 from.parts ≡ true) (constant : ℕ) (each : (i : ℕ) → i < v →
      Contains ops (Load (constant + i) from.array (Sum (constant + i) from.parts))) (l : ℕ) (low : l < v) where
    pub load_covered : (r : ℕ) → r < 3 * p.regs → Covered (Load r from.array (moved v loop constant from.parts l))
    load_covered r small =
        let last : v - 1 < v = omega (arith, some) in
        let end = ((known _ (each (v - 1) last)).fits l low).place in
        record {
          stored = λ k h. absurd (Contains-nil k h);
          touched =
              words_of_row from.array from.parts linear constant l _ (λ i lt. (known _ (each i lt)).touched l low);
          fits =
              record {
                numbers =
                    peak_at constant (constant + 0) from.parts l linear (omega arith)
                    ((known _ (each 0 some)).fits l low).numbers;
                place = omega (arith, some, alone, end, place_behind constant (v - 1) from.parts l linear);
                registers = small;
                factors = tt;
              };
        }

  -- ---- products

  -- by entries from one on, in a round
  module _ (by : Factors) (linear : are_linear 0 by.parts ≡ true) (k : ℕ) (each : (i : ℕ) → i < v →
      IsMultiplied by ops (k + i))
      (l : ℕ) (low : l < v) where
    abbrev entries : List ℕ
    entries = slice_index_or p.tables by.table []

    abbrev place_of_entry : ℕ → ℕ
    place_of_entry i = (sum_numbers (Sum (by.constant + (k + i)) by.parts) (vs ++ (v * b + l) ∷ []) q).value

    entry_behind : (i : ℕ) → place_of_entry i ≡ place_at (by.constant + k) by.parts l + i
    entry_behind i =
        let same : by.constant + (k + i) ≡ by.constant + k + i = omega arith in
        ap (λ c. (sum_numbers (Sum c by.parts) (vs ++ (v * b + l) ∷ []) q).value) same
        ∙ place_behind (by.constant + k) i by.parts l linear

    entry_fits : (i : ℕ) → i < v → slice_index entries (place_of_entry i) < p.modulus
    entry_fits i lt =
        subst (λ at. slice_index entries at < p.modulus) (no_steps (place_of_entry i) (each i lt).step)
        (factor_fits p.modulus p.lanes (λ lane. slice_index entries (place_of_entry i + (each i lt).step * lane)) alone
        ((known _ (each i lt).has).fits l low).factors)

    pub product_covered : (r : ℕ) → r < 3 * p.regs →
        Covered (MulTable r r by.table (moved v loop (by.constant + k) by.parts l) 1)
    product_covered r small =
        let last : v - 1 < v = omega (arith, some) in
        let end = ((known _ (each (v - 1) last).has).fits l low).place in
        let first = entry_fits 0 some in
        silent (MulTable r r by.table (moved v loop (by.constant + k) by.parts l) 1) refl refl
        (record {
          numbers =
              peak_at (by.constant + k) (by.constant + (k + 0)) by.parts l linear (omega arith)
              ((known _ (each 0 some).has).fits l low).numbers;
          place =
              reached (place_of_entry (v - 1)) (place_at (by.constant + k) by.parts l)
              (each (v - 1) last).step p.lanes (length entries)
              (entry_behind (v - 1)) end;
          registers = (small, small);
          factors =
              factors_fit p.modulus v
              (λ lane. slice_index entries (place_at (by.constant + k) by.parts l + 1 * lane))
              (omega (arith, first))
              (λ i lt. subst (λ at. slice_index entries at < p.modulus)
              (entry_behind i ∙ by_one (place_at (by.constant + k) by.parts l) i) (entry_fits i lt));
        })
      where
        by_one : (a i : ℕ) → a + i ≡ a + 1 * i
        by_one a i = omega arith

        reached : (old new step lanes room : ℕ) → old ≡ new + (v - 1) → old + step * (lanes - 1) + 1 ≤ room →
            new + 1 * (v - 1) + 1 ≤ room
        reached old new step lanes room same h = omega (arith, same, h)
