-- A program on lanes stands within the limits of programs.
use Rattle.nests.proofs.Bools.{three_true, both_kept, later_kept}
use Rattle.std.proofs.Common.{◌≡◌, ℕ, suc, ◌+◌, ◌*◌, ◌^◌, ◌<◌, ◌≤◌, true, not, refl, sym, ap, ap₂, ◌∙◌, arith}
use Rattle.std.proofs.Common.{eqb-true, ltb-true, lt-ltb, leb-true, mul-le-mul_left, zero, ◌/◌, ◌%◌, List, [], ◌∷◌}
use Rattle.std.proofs.Common.{All, Contains, Option, Some, None, map, drop, length, ⊎_elim}
use Rattle.std.specs.Prelude.{◌&&◌, ◌==◌, nat_lt, nat_le, max}
use Rattle.std.proofs.lemmas.Bool.{and_parts, and_from, true≢false}
use Rattle.icode.specs.Limits.{rank, next_rank, is_small, is_small_positive, is_part_within, are_parts_within}
use Rattle.icode.specs.Limits.{all_parts, part_parts, parts_depth, part_depth, is_expr_within, is_op_within}
use Rattle.icode.specs.Limits.{is_stmt_within, is_body_within, are_phases_within, IsHeaderWithin}
use Rattle.icode.specs.Plain.{PlainExpr, PlainParts, PlainOp, Sum, NoParts, AndParts, Var, Load, Store, Zero, Add, Sub}
use Rattle.icode.specs.Plain.{Neg, MulConst, MulTable, Tile, PlainStmt, PlainBody, Loop, Do, NoStmts, AndStmts}
use Rattle.icode.proofs.Bools.{both_true}
use Rattle.nests.specs.Places.{is_linear, stride}
use Rattle.nests.specs.Rounds.{Stored, same_array, are_fresh, first_store, straight, ops_in}
use Rattle.nests.proofs.Limited.{positive-product}
use Rattle.nests.proofs.Linear.{wrong, chosen, passed, by_equal, parts_equal}
use Rattle.loop_lanes.specs.Rows.{is_store, widened_parts, widened, place_stride, is_by_lane, in_row, stores}
use Rattle.loop_lanes.specs.Columns.{renumbered_op, Columns, Factors, renumbered, product_at, in_columns}
use Rattle.loop_lanes.proofs.Orders.{AreSome, are_some}
use Rattle.std.specs.List.{list_all}
use Rattle.std.proofs.Math.Nat.{div-add-mod, div-mul-le_self}
use Rattle.std.proofs.lemmas.List.Elements.{All-nil, All-cons, All-head, All-tail, All-append, All-drop, All-contains}
use Rattle.nests.specs.Nests.{counts_in, round_in, looped}
use Rattle.nests.proofs.Counts.{looped_is}
use Rattle.nests.proofs.Members.{all_of_members}
use Rattle.nests.proofs.InPlace.{all-within}
use Rattle.loop_lanes.specs.Loads.{Loaded, behind, load_tiles}
use Rattle.loop_lanes.specs.Lanes.{IsLanes, can_lane, laned_ops, laned_round, last_count, is_lanable, are_lanable}
use Rattle.loop_lanes.specs.Lanes.{narrowed, laned_nest, laned_body}
use Rattle.loop_lanes.proofs.Arrays.{step_before}
use Rattle.loop_lanes.proofs.RoundsAre.{all_lanes, all_rows, all_loads, all_columns}
use Rattle.loop_lanes.proofs.LoadsTold.{IsRow, of_good_kinds, loads_each, IsOther, stored_each, AreGood, AreMultiplied}
use Rattle.loop_lanes.proofs.Nests.{straight-is}
use Rattle.loop_lanes.proofs.Made.{tile_within}
use Rattle.loop_lanes.proofs.ColumnsAre.{renumbered_is}
use Rattle.loop_lanes.proofs.Wide.{moved}

-- ---- places

-- numbers below 2^32
pub small-less : (a c : ℕ) → a ≤ c → is_small c ≡ true → is_small a ≡ true
small-less a c le h = let bound : c < 2 ^ 32 = ltb-true c (2 ^ 32) h in lt-ltb a (2 ^ 32) (omega (arith, le, bound))

module _ (v loop : ℕ) (some : 2 ≤ v) where
  parts-within : (n least : ℕ) (parts : PlainParts) → is_small (v * stride loop parts) ≡ true →
      are_parts_within parts n least ≡ true →
      are_parts_within (widened_parts v loop parts) n least ≡ true
  parts-within n least NoParts small h = refl
  parts-within n least (AndParts (Var depth factor) rest) small h =
      let wide : PlainParts = AndParts (Var depth (v * factor)) rest in
      let kept : PlainParts = AndParts (Var depth factor) (widened_parts v loop rest) in
      by_equal (λ parts. are_parts_within parts n least ≡ true) depth loop wide kept
      (λ same.
      both_kept
      (later_kept (nat_lt depth n) (λ low.
      positive-product v factor (omega (arith, some)) low
      (ap (λ s. is_small (v * s)) (sym (chosen depth loop factor (stride loop rest) same)) ∙ small)))
      (λ ranked. ranked) h)
      (λ other.
      later_kept (nat_lt depth n && is_small_positive factor)
      (later_kept (nat_le least (1 + depth))
      (parts-within n (suc (1 + depth)) rest
      (ap (λ s. is_small (v * s)) (sym (passed depth loop factor (stride loop rest) other)) ∙ small))) h)
  parts-within n least (AndParts part rest) small h =
      later_kept (is_part_within part n)
      (later_kept (nat_le least (rank part)) (parts-within n (next_rank part) rest small)) h

  parts-same : (parts : PlainParts) →
      (all_parts (widened_parts v loop parts) ≡ all_parts parts)
      × (parts_depth (widened_parts v loop parts) ≡ parts_depth parts)
  parts-same NoParts = (refl, refl)
  parts-same (AndParts (Var depth factor) rest) =
      let more = parts-same rest in
      by_equal (λ parts. (all_parts parts ≡ 1 + all_parts rest) × (parts_depth parts ≡ max 0 (parts_depth rest))) depth
      loop (AndParts (Var depth (v * factor)) rest) (AndParts (Var depth factor) (widened_parts v loop rest))
      (λ same. (refl, refl)) (λ other. (ap (λ n. 1 + n) more.0, ap (max 0) more.1))
  parts-same (AndParts part rest) =
      let more = parts-same rest in (ap (λ n. part_parts part + n) more.0, ap (max (part_depth part)) more.1)

  -- a place of another constant, of a wide step
  pub place-within : (n c constant : ℕ) (parts : PlainParts) → is_expr_within (Sum c parts) n ≡ true →
      is_small constant ≡ true →
      is_small (v * stride loop parts) ≡ true → is_expr_within (Sum constant (widened_parts v loop parts)) n ≡ true
  place-within n c constant parts h small wide =
      let same = parts-same parts in
      both_kept (both_kept (λ old. small) (parts-within n 0 parts wide))
      (λ few. ap₂ (λ k d. nat_le k 64 && nat_le d 64) same.0 same.1 ∙ few) h

  wide-place : (n : ℕ) (place : PlainExpr) → is_expr_within place n ≡ true →
      is_small (v * place_stride loop place) ≡ true →
      is_expr_within (widened v loop place) n ≡ true
  wide-place n (Sum constant parts) h wide =
      place-within n constant constant parts h
      (and_parts (is_small constant) (are_parts_within parts n 0)
      (and_parts (is_small constant && are_parts_within parts n 0) _ h).0).0 wide

-- ---- operations

-- numbers that stay small
abbrev pub StaysSmall : (ℕ → ℕ) → Type 0
StaysSmall f = (r : ℕ) → is_small r ≡ true → is_small (f r) ≡ true

-- so few lanes are small
unit-small : (v s : ℕ) → v ≤ 16 → s ≤ 1 → is_small (v * s) ≡ true
unit-small v s few low =
    let most : v * s ≤ v * 1 = mul-le-mul_left v low in
    lt-ltb (v * s) (2 ^ 32) (omega (arith, few, most))

pub op-within : (m v loop n : ℕ) (to : Stored) (f : ℕ → ℕ) (op : PlainOp) → AreSome v → StaysSmall f →
    (is_store op ≡ true → stride loop to.parts ≡ 1) →
    is_by_lane loop to op ≡ true → is_op_within m op n ≡ true →
    is_op_within m (renumbered_op f (in_row v loop op)) n ≡ true
op-within m v loop n to f (Load r array place) lanes low unit by_lane h =
    let two =
    both_true (is_linear place) (place_stride loop place == 1)
    (both_true (not (same_array array to.array)) _ by_lane).1 in
    let one : place_stride loop place ≡ 1 = eqb-true (place_stride loop place) 1 two.1 in
    both_kept (low r) (λ within.
    wide-place v loop lanes.some n place within
    (unit-small v (place_stride loop place) lanes.few (omega (arith, one)))) h
op-within m v loop n to f (Store array (Sum constant parts) r) lanes low unit by_lane h =
    let same : parts ≡ to.parts = parts_equal parts to.parts (both_true (same_array array to.array) _ by_lane).1 in
    let one : stride loop parts ≡ 1 = ap (stride loop) same ∙ unit refl in
    both_kept (low r) (λ within.
    wide-place v loop lanes.some n (Sum constant parts) within
    (unit-small v (stride loop parts) lanes.few (omega (arith, one)))) h
op-within m v loop n to f (Zero r) lanes low unit by_lane h = low r h
op-within m v loop n to f (Neg r x) lanes low unit by_lane h = both_kept (low r) (low x) h
op-within m v loop n to f (MulConst r x factor) lanes low unit by_lane h =
    both_kept (low r) (both_kept (low x) (λ fits. fits)) h
op-within m v loop n to f (MulTable r x table place step) lanes low unit by_lane h =
    let one : place_stride loop place ≤ 1 =
    leb-true (place_stride loop place) 1 (both_true (is_linear place) _ by_lane).1 in
    both_kept (low r)
    (both_kept (low x)
    (later_kept (is_small table)
    (both_kept (λ step. lt-ltb (place_stride loop place) 2 (omega (arith, one)))
    (λ within.
    wide-place v loop lanes.some n place within (unit-small v (place_stride loop place) lanes.few one))))) h
op-within m v loop n to f (Tile r x) lanes low unit by_lane h = wrong by_lane
op-within m v loop n to f (Add r x y) lanes low unit by_lane h = both_kept (low r) (both_kept (low x) (low y)) h
op-within m v loop n to f (Sub r x y) lanes low unit by_lane h = both_kept (low r) (both_kept (low x) (low y)) h

-- ---- rounds, nests and programs on lanes stand within the limits of programs

-- ---- straight statements

abbrev IsOpWithin : ℕ → ℕ → PlainOp → Type 0
IsOpWithin m n op = is_op_within m op n ≡ true

abbrev OpsWithin : ℕ → ℕ → List PlainOp → Type 0
OpsWithin m n ops = All (IsOpWithin m n) ops

straight-within : (m n : ℕ) (ops : List PlainOp) → OpsWithin m n ops → is_body_within m (straight ops) n ≡ true
straight-within m n [] h = refl
straight-within m n (op ∷ ops) h =
    and_from (is_op_within m op n) _ (All-head (IsOpWithin m n) op ops h)
    (straight-within m n ops (All-tail (IsOpWithin m n) op ops h))

within-straight : (m n : ℕ) (ops : List PlainOp) → is_body_within m (straight ops) n ≡ true → OpsWithin m n ops
within-straight m n [] h = All-nil (IsOpWithin m n)
within-straight m n (op ∷ ops) h =
    let two = and_parts (is_op_within m op n) _ h in
    All-cons (IsOpWithin m n) op ops two.0 (within-straight m n ops two.1)

-- ---- rounds

module _ (m v loop n regs : ℕ) (to : Stored) (ops : List PlainOp) (lanes : AreSome v) (few : 3 * regs < 2 ^ 20)
    (within : OpsWithin m n ops) where
  abbrev IsFine : PlainOp → Type 0
  IsFine = IsOpWithin m n

  abbrev Within : List PlainOp → Type 0
  Within = All IsFine

  -- an operation of the round stands within the limits
  there : (op : PlainOp) → Contains ops op → is_op_within m op n ≡ true
  there op has = All-contains IsFine ops op within has

  rows_within : (rows : List PlainOp) → stride loop to.parts ≡ 1 → list_all (is_by_lane loop to) rows ≡ true →
      ((op : PlainOp) → Contains rows op → Contains ops op) → Within (map (in_row v loop) rows)
  rows_within rows unit by_lane among =
      all_rows IsFine v loop to rows by_lane (λ op has lane.
      op-within m v loop n to (λ r. r) op lanes (λ r small. small) (λ _. unit) lane (there op (among op has)))

  -- a place that is moved by fewer strides than there are lanes
  moved_far : (s l : ℕ) → l < v → s * l + s ≤ v * s
  moved_far s l lt =
      let step = step_before s l v lt in let turned : s * v ≡ v * s = omega arith in omega (arith, step, turned)

  module _ (c : Columns) (tests : AreGood v loop to ops c) where
    abbrev many : ℕ
    many = length c.turned

    -- as many registers as are turned, twice, and the program's, are small
    registers_small : (k : ℕ) → k < regs + many + many → is_small k ≡ true
    registers_small k lt =
        let room = tests.columns.turned.apart in
        let some = lanes.some in
        let double : stride loop to.parts * 2 ≤ stride loop to.parts * v =
        mul-le-mul_left (stride loop to.parts) some in
        let turned : stride loop to.parts * v ≡ v * stride loop to.parts = omega arith in
        small-less k (2 ^ 20 + v * stride loop to.parts) (omega (arith, lt, room, double, turned, few))
        tests.columns.turned.small

    low_numbers : StaysSmall (renumbered regs c.turned)
    low_numbers r small =
        ⊎_elim (λ (same : renumbered regs c.turned r ≡ r). ap is_small same ∙ small)
        (λ two. registers_small (renumbered regs c.turned r) (omega (arith, two.1))) (renumbered_is regs c.turned r)

    wide_small : is_small (v * stride loop to.parts) ≡ true
    wide_small =
        small-less (v * stride loop to.parts) (2 ^ 20 + v * stride loop to.parts) (omega arith)
        tests.columns.turned.small

    front_within : Within (map (λ op. renumbered_op (renumbered regs c.turned) (in_row v loop op)) c.front)
    front_within =
        all_lanes IsFine v loop to (renumbered regs c.turned) c.front tests.columns.front_by_lane (λ op has lane.
        let other = All-contains (IsOther ops) c.front op tests.front has in
        op-within m v loop n to (renumbered regs c.turned) op lanes low_numbers
        (λ e. absurd (true≢false (sym e ∙ other.1))) lane (there op other.0))

    store_within : (g l r : ℕ) → g < many / v → l < v → r < regs + many + many →
        IsFine (Store to.array (moved v loop (g * v) to.parts l) r)
    store_within g l r low lt small =
        let end = tile_within g v many low in
        let room = tests.columns.turned.apart in
        let some = lanes.some in
        let is_many = tests.columns.turned.many in
        let is =
        stored_each loop to ops tests.columns.turned.from tests.columns.turned.stores_by_lane (g * v)
        (omega (arith, end, some, is_many)) in
        both_kept (λ old. registers_small r small)
        (λ old.
        place-within v loop lanes.some n (g * v) (g * v + stride loop to.parts * l) to.parts old
        (small-less (g * v + stride loop to.parts * l) (v * stride loop to.parts)
        (omega (arith, end, room, moved_far (stride loop to.parts) l lt)) wide_small)
        wide_small)
        (there (Store to.array (Sum (g * v) to.parts) is.register) is.has)

    product_within : (by : Option Factors) → AreMultiplied v loop ops by many → (g l r : ℕ) → g < many / v → l < v →
        r < regs + many + many →
        Within (product_at v loop by r (g * v) l)
    product_within None factors g l r low lt small = All-nil IsFine
    product_within (Some by) factors g l r low lt small =
        let end = tile_within g v many low in
        let some = lanes.some in
        let is_many = tests.columns.turned.many in
        let s : ℕ = stride loop by.parts in
        let is = factors.each (g * v) (omega (arith, end, some)) in
        let wide : is_small (v * s) ≡ true =
        small-less (v * s) (by.constant + (length (stores ops) + v * s)) (omega arith) factors.small in
        let place : is_small (by.constant + g * v + s * l) ≡ true =
        small-less (by.constant + g * v + s * l) (by.constant + (length (stores ops) + v * s))
        (omega (arith, end, is_many, moved_far s l lt)) factors.small in
        All-cons IsFine _ []
        (both_kept (λ old. registers_small r small)
        (both_kept (λ old. registers_small r small)
        (later_kept (is_small by.table)
        (both_kept (λ old. refl)
        (λ old.
        place-within v loop lanes.some n (by.constant + g * v) (by.constant + g * v + s * l) by.parts old place wide))))
        (there (MulTable is.register is.source by.table (Sum (by.constant + g * v) by.parts) is.step) is.has))
        (All-nil IsFine)

    columns_within : Within (in_columns v regs loop to c)
    columns_within =
        all_columns IsFine v regs loop to c front_within
        (λ g low.
        let end = tile_within g v many low in
        let some = lanes.some in
        and_from (is_small (regs + many + g * v)) _ (registers_small (regs + many + g * v) (omega (arith, end, some)))
        (registers_small (regs + g * v) (omega (arith, end, some))))
        (λ g l low lt.
        let end = tile_within g v many low in
        product_within c.by tests.factors g l (regs + many + g * v + l) low lt (omega (arith, end, lt)))
        (λ g l low lt.
        let end = tile_within g v many low in
        store_within g l (regs + many + g * v + l) low lt (omega (arith, end, lt)))

  -- where a row of `words` words is loaded by operations that are among these
  loads_within : (ahead : List PlainOp) (from : Loaded) (words : ℕ) → IsRow v loop to ahead from words →
      ((op : PlainOp) → Contains ahead op → Contains ops op) → Within (load_tiles v (2 * regs) loop from words)
  loads_within ahead from words first among =
      all_loads IsFine v (2 * regs) loop from words
      (λ g l low lt.
      let end = tile_within g v words low in
      let most = lanes.few in
      let s : ℕ = stride loop from.parts in
      let wide : is_small (v * s) ≡ true = small-less (v * s) (words + v * s) (omega arith) first.small in
      and_from (is_small (2 * regs + l)) _ (lt-ltb (2 * regs + l) (2 ^ 32) (omega (arith, lt, most, few)))
      (place-within v loop lanes.some n (g * v) (g * v + s * l) from.parts (load_there g low).1
      (small-less (g * v + s * l) (words + v * s) (omega (arith, end, moved_far s l lt)) first.small) wide))
      (λ g low.
      and_from (is_small (g * v)) _ (load_there g low).0 (lt-ltb (2 * regs) (2 ^ 32) (omega (arith, few))))
    where
      load_there : (g : ℕ) → g < words / v →
          (is_small (g * v) ≡ true) × (is_expr_within (Sum (g * v) from.parts) n ≡ true)
      load_there g low =
          let end = tile_within g v words low in
          let some = lanes.some in
          and_parts (is_small (g * v)) (is_expr_within (Sum (g * v) from.parts) n)
          (there (Load (g * v) from.array (Sum (g * v) from.parts))
          (loads_each v loop to ahead from words first ops among (g * v) (omega (arith, end, some))))

  ops_within : can_lane v loop (Some to) ops ≡ true → Within (laned_ops v regs loop (Some to) ops)
  ops_within can =
      of_good_kinds Within v regs loop to ops can
      (λ unit by_lane clear. rows_within ops unit by_lane (λ op has. has))
      columns_within
      (λ from words loaded.
      let among = All-drop (Contains ops) words ops (all_of_members (Contains ops) ops (λ op has. has)) in
      All-append IsFine (load_tiles v (2 * regs) loop from words) _
      (loads_within ops from words loaded.first (λ op has. has))
      (rows_within (drop words ops) loaded.unit loaded.by_lane
      (λ op has. All-contains (Contains ops) (drop words ops) op among has)))
      (λ c from words first front short tests.
      All-append IsFine (load_tiles v (2 * regs) loop from words) _
      (loads_within c.front from words first (λ op has. (All-contains (IsOther ops) c.front op front has).0))
      (columns_within (behind words c) tests))

-- whatever they store
some-within : (m v loop n regs : ℕ) (store : Option Stored) (ops : List PlainOp) → AreSome v → 3 * regs < 2 ^ 20 →
    OpsWithin m n ops →
    can_lane v loop store ops ≡ true → OpsWithin m n (laned_ops v regs loop store ops)
some-within m v loop n regs None ops lanes few within can = wrong can
some-within m v loop n regs (Some to) ops lanes few within can = ops_within m v loop n regs to ops lanes few within can

round-within : (m v loop n regs : ℕ) (round : PlainBody) → AreSome v → 3 * regs < 2 ^ 20 → are_fresh 1 0 round ≡ true →
    can_lane v loop (first_store round) (ops_in round) ≡ true → is_body_within m round n ≡ true →
    is_body_within m (laned_round v regs loop round) n ≡ true
round-within m v loop n regs round lanes few fresh can h =
    let ops = ops_in round in
    straight-within m n (laned_ops v regs loop (first_store round) ops)
    (some-within m v loop n regs (first_store round) ops lanes few
    (within-straight m n ops (ap (λ body. is_body_within m body n) (straight-is 1 0 round fresh) ∙ h)) can)

-- ---- loops

count-within : (v count : ℕ) → 2 ≤ v → (count % v == 0) ≡ true → is_small_positive count ≡ true →
    is_small_positive (count / v) ≡ true
count-within v count some whole h =
    let two = and_parts (nat_lt 0 count) (is_small count) h in
    let positive : 0 < count = ltb-true 0 count two.0 in
    let none : count % v ≡ 0 = eqb-true (count % v) 0 whole in
    let all : v * (count / v) + count % v ≡ count = div-add-mod count v in
    let less : count / v * v ≤ count = div-mul-le_self count v in
    let least : count / v * 1 ≤ count / v * v = mul-le-mul_left (count / v) (omega (arith, some)) in
    and_from (nat_lt 0 (count / v)) (is_small (count / v))
    (lt-ltb 0 (count / v) (not-none (count / v) count v positive (omega (arith, none, all))))
    (small-less (count / v) count (omega (arith, less, least)) two.1)
  where
    not-none : (t count v : ℕ) → 0 < count → v * t ≡ count → 0 < t
    not-none zero count v positive e = let none : v * 0 ≡ 0 = omega arith in absurd (omega (arith, positive, e, none))
    not-none (suc t) count v positive e = omega arith

-- loops around a round that changes
narrowed-within : (m v n count : ℕ) (counts : List ℕ) (depth : ℕ) (old new : PlainBody) → 2 ≤ v →
    (last_count count counts % v == 0) ≡ true →
    depth + 1 + length counts ≡ n → (is_body_within m old n ≡ true → is_body_within m new n ≡ true) →
    is_stmt_within m (Loop count (looped counts old)) depth ≡ true →
    is_stmt_within m (narrowed v count counts new) depth ≡ true
narrowed-within m v n count [] depth old new some whole deep change h =
    let same : depth + 1 ≡ n = omega (arith, deep) in
    both_kept (count-within v count some whole)
    (later_kept (nat_lt depth 64)
    (λ within. ap (λ d. is_body_within m new d) same ∙ change (ap (λ d. is_body_within m old d) (sym same) ∙ within))) h
narrowed-within m v n count (inner ∷ counts) depth old new some whole deep change h =
    later_kept (is_small_positive count)
    (later_kept (nat_lt depth 64)
    (both_kept (narrowed-within m v n inner counts (depth + 1) old new some whole (omega (arith, deep)) change)
    (λ rest. rest))) h

-- ---- nests and bodies

pub nest-within : (m v regs : ℕ) (stmt : PlainStmt) → AreSome v → 3 * regs < 2 ^ 20 → is_lanable v stmt ≡ true →
    is_stmt_within m stmt 0 ≡ true → is_stmt_within m (laned_nest v regs stmt) 0 ≡ true
nest-within m v regs (Do op) lanes few h within = wrong h
nest-within m v regs (Loop count body) lanes few h within =
    let counts : List ℕ = counts_in body in
    let round : PlainBody = round_in body in
    let short = both_true (nat_le (length (stores (ops_in round))) 256) _ h in
    let more = three_true (last_count count counts % v == 0) (are_fresh 1 0 round) _ short.1 in
    narrowed-within m v (0 + 1 + length counts) count counts 0 round
    (laned_round v regs (length counts) round) lanes.some more.0 refl
    (round-within m v (length counts) (0 + 1 + length counts) regs round lanes few more.1 more.2)
    (ap (λ inside. is_stmt_within m (Loop count inside) 0) (looped_is body) ∙ within)

pub body-within : (m v regs : ℕ) (body : PlainBody) → AreSome v → 3 * regs < 2 ^ 20 → are_lanable v body ≡ true →
    is_body_within m body 0 ≡ true → is_body_within m (laned_body v regs body) 0 ≡ true
body-within m v regs NoStmts lanes few h within = refl
body-within m v regs (AndStmts stmt rest) lanes few h within =
    let both = both_true (is_lanable v stmt) (are_lanable v rest) h in
    both_kept (nest-within m v regs stmt lanes few both.0) (body-within m v regs rest lanes few both.1) within

-- ---- programs

-- the phases of a program that can be laned stay within the limits
pub phases-within : (m v regs : ℕ) (phases : List PlainBody) → IsLanes v → 3 * regs < 2 ^ 20 →
    list_all (are_lanable v) phases ≡ true →
    are_phases_within m phases ≡ true → are_phases_within m (map (laned_body v regs) phases) ≡ true
phases-within m v regs phases lanes few =
    all-within m (laned_body v regs) (are_lanable v)
    (λ body h within. body-within m v regs body (are_some v lanes) few h within) phases

-- and so does its header
pub header-within : (size modulus procs line lanes regs v : ℕ) → IsLanes v → 3 * regs < 2 ^ 20 →
    IsHeaderWithin size modulus procs line lanes regs →
    IsHeaderWithin size modulus procs line v (3 * regs)
header-within size modulus procs line lanes regs v is_lanes few header =
    let some = (are_some v is_lanes).some in
    let most = (are_some v is_lanes).few in
    record {
      of_size = header.of_size;
      of_modulus = header.of_modulus;
      of_procs = header.of_procs;
      of_line = header.of_line;
      of_lanes = (omega (arith, some), most);
      of_regs = few;
    }
