-- What code makes of lanes: numbers that it counts, and lists that grow by a row.
use Rattle.std.proofs.Common.{◌≡◌, ℕ, suc, ◌+◌, ◌*◌, ◌/◌, ◌^◌, ◌<◌, ◌≤◌, true, List, [], ◌∷◌, ◌++◌, map, flat_map}
use Rattle.std.proofs.Common.{length, refl, sym, ap, ◌∙◌, arith, add-one, drop-cons, drop, get_or}
use Rattle.std.proofs.Common.{eqb-true, leb-true, mul-le-mul_left}
use Rattle.std.specs.Prelude.{not, ◌==◌}
use Rattle.std.specs.List.{list_all, range_with_len}
use Rattle.std.proofs.Math.Nat.{div-mul-le_self}
use Rattle.std.proofs.lemmas.List.{append_assoc, flat_map_more}
use Rattle.icode.specs.declared.program.Op.{Op}
use Rattle.icode.specs.Plain.{PlainOp, PlainStmt, Sum, Load, Store, MulTable, AndStmts, body_of, plain_op}
use Rattle.icode.proofs.Bools.{both_true}
use Rattle.nests.specs.Places.{is_linear, stride}
use Rattle.nests.specs.Rounds.{Stored, same_array}
use Rattle.loop_lanes.specs.Rows.{place_stride, is_by_lane}
use Rattle.loop_lanes.specs.Views.{stride_in, plain_ops}
use Rattle.loop_lanes.specs.Lanes.{laned_nest, laned_body}
use Rattle.loop_lanes.proofs.Arrays.{step_before}
use Rattle.nests.proofs.Linear.{parts_equal}
use Rattle.nests.proofs.Straight.{range-more}

-- ---- numbers

-- a tile more does not go past the last
pub tile_within : (g v m : ℕ) → g < m / v → g * v + v ≤ m
tile_within g v m lt =
    let whole : m / v * v ≤ m = div-mul-le_self m v in
    let step = step_before v g (m / v) lt in
    let turned : v * (m / v) ≡ m / v * v = omega arith in
    let same : v * g ≡ g * v = omega arith in
    omega (arith, whole, step, turned, same)

-- a whole tile is of words below the number of registers
pub tile_low : (g m v : ℕ) → g < m / v → 1 ≤ v → g * v < m
tile_low g m v lt some = let within = tile_within g v m lt in omega (arith, within, some)

-- an operation that can be done in lanes is not wide
pub narrow : (v loop : ℕ) (to : Stored) (op : PlainOp) → v ≤ 16 → v * stride loop to.parts < 2 ^ 32 →
    is_by_lane loop to op ≡ true →
    v * stride_in loop op < 2 ^ 64
narrow v loop to (Load r array place) few wide h =
    let two =
    both_true (is_linear place) (place_stride loop place == 1) (both_true (not (same_array array to.array)) _ h).1 in
    let one : place_stride loop place ≡ 1 = eqb-true (place_stride loop place) 1 two.1 in
    let same : v * place_stride loop place ≡ v * 1 = ap (λ s. v * s) one in
    omega (arith, few, same)
narrow v loop to (Store array (Sum constant parts) r) few wide h =
    let same : v * stride loop parts ≡ v * stride loop to.parts =
    ap (λ ps. v * stride loop ps) (parts_equal parts to.parts (both_true (same_array array to.array) _ h).1) in
    omega (arith, wide, same)
narrow v loop to (MulTable r x table place step) few wide h =
    let low : place_stride loop place ≤ 1 = leb-true (place_stride loop place) 1 (both_true (is_linear place) _ h).1 in
    let most : v * place_stride loop place ≤ v * 1 = mul-le-mul_left v low in
    omega (arith, few, most)
narrow v loop to op few wide h = omega arith

-- ---- lists

-- nests, one by one
pub body_laned : (v n : ℕ) (stmts : List PlainStmt) → laned_body v n (body_of stmts)
    ≡ body_of (map (laned_nest v n) stmts)
body_laned v n [] = refl
body_laned v n (stmt ∷ stmts) = ap (AndStmts (laned_nest v n stmt)) (body_laned v n stmts)

-- ---- loops of the code

-- the first operation that is left
first_left : (i : ℕ) (ops : List Op) (op : Op) → i < length ops → op ≡ get_or ops i op →
    drop i ops ≡ op ∷ drop (i + 1) ops
first_left i ops op lt e = rw (add-one, drop-cons ops i op) (ap (λ y. y ∷ drop (suc i) ops) (sym e))

pub narrow_first : (v loop : ℕ) (to : Stored) (ops : List Op) (i : ℕ) (op copy : Op) → v ≤ 16 →
    v * stride loop to.parts < 2 ^ 32 →
    i < length ops → op ≡ get_or ops i op → plain_op copy ≡ plain_op op →
    list_all (is_by_lane loop to) (plain_ops (drop i ops)) ≡ true →
    v * stride_in loop (plain_op copy) < 2 ^ 64
narrow_first v loop to ops i op copy few wide lt e same h =
    let first = both_true (is_by_lane loop to (plain_op op)) _
    (sym (ap (λ (xs : List Op). list_all (is_by_lane loop to) (plain_ops xs)) (first_left i ops op lt e)) ∙ h) in
    narrow v loop to (plain_op copy) few wide (ap (is_by_lane loop to) same ∙ first.0)

-- a list that has grown by a row
pub grown : (f : ℕ → List PlainOp) (n : ℕ) (start front before now : List PlainOp) → now ≡ before ++ f n →
    before ≡ start ++ (front ++ flat_map f (range_with_len 0 n)) →
    now ≡ start ++ (front ++ flat_map f (range_with_len 0 (n + 1)))
grown f n start front before now e h =
    e
    ∙ ap (λ (xs : List PlainOp). xs ++ f n) h
    ∙ append_assoc start (front ++ flat_map f (range_with_len 0 n)) (f n)
    ∙ ap (λ (xs : List PlainOp). start ++ xs)
    (flat_map_more f front (range_with_len 0 n) n
    ∙ ap (λ is. front ++ flat_map f is) (sym (range-more n)))
