-- What code makes of rounds that load rows.
use Rattle.std.proofs.Common.{◌≡◌, ℕ, ◌+◌, ◌*◌, ◌^◌, ◌<◌, ◌≤◌, true, List, [], ◌∷◌, ◌++◌, Option, map, length, sym, ap}
use Rattle.std.proofs.Common.{◌∙◌, subst, arith, ltb-true, lt-ltb, mul-le-mul_left}
use Rattle.std.specs.Prelude.{◌&&◌, nat_le}
use Rattle.std.specs.List.{list_all, range_with_len}
use Rattle.std.proofs.lemmas.Bool.{and_from}
use Rattle.std.proofs.lemmas.List.{append_assoc}
use Rattle.std.proofs.lemmas.List.FromFn.{map-range_with_len_more}
use Rattle.icode.specs.Limits.{is_small}
use Rattle.icode.specs.Plain.{PlainOp}
use Rattle.icode.proofs.Bools.{both_true}
use Rattle.nests.specs.Places.{stride}
use Rattle.nests.specs.Rounds.{Stored}
use Rattle.loop_lanes.specs.Columns.{Columns, Factors}
use Rattle.loop_lanes.specs.Loads.{Loaded, are_whole, behind, are_behind}
use Rattle.loop_lanes.specs.Rows.{stores, is_by_lane}
use Rattle.loop_lanes.specs.Views.{has_entries, has_words}
use Rattle.loop_lanes.proofs.ColumnsAre.{columns_told}

-- ---- lists

-- a list that has grown by an item
pub item_more : (f : ℕ → PlainOp) (n : ℕ) (start before now : List PlainOp) → now ≡ before ++ f n ∷ [] →
    before ≡ start ++ map f (range_with_len 0 n) → now ≡ start ++ map f (range_with_len 0 (n + 1))
item_more f n start before now e h =
    let last = map-range_with_len_more f 0 n n (omega arith) in
    e
    ∙ ap (λ (xs : List PlainOp). xs ++ f n ∷ []) h
    ∙ append_assoc start (map f (range_with_len 0 n)) (f n ∷ [])
    ∙ ap (λ (xs : List PlainOp). start ++ xs) (sym last)

-- ---- columns after a row

entries_same : (v loop m n : ℕ) (by : Option Factors) → m ≡ n → has_entries v loop m by ≡ true →
    has_entries v loop n by ≡ true
entries_same v loop m n by e h = subst (λ k. has_entries v loop k by ≡ true) e h

-- what the test tells the code
pub behind_told : (v loop : ℕ) (to : Stored) (ops : List PlainOp) (c : Columns) (from : Loaded) (m : ℕ) → 1 ≤ v →
    are_behind v loop to ops c from m ≡ true → has_entries v loop (length (stores ops)) c.by ≡ true →
    (has_words v loop (length c.turned) (stride loop to.parts) c.by ≡ true)
    × (list_all (is_by_lane loop to) (behind m c).front ≡ true)
behind_told v loop to ops c from m some h entries =
    let n : ℕ = length c.turned in
    let s : ℕ = stride loop to.parts in
    let columns = (both_true (list_all (nat_le m) c.turned) _ (both_true (are_whole v loop to from m) _ h).1).1 in
    let told = columns_told v loop to ops (behind m c) columns in
    let few = told.turned.apart in
    let small : 2 ^ 20 + v * s < 2 ^ 32 = ltb-true (2 ^ 20 + v * s) (2 ^ 32) told.turned.small in
    let wide : s * 1 ≤ s * v = mul-le-mul_left s some in
    let turned : s * v ≡ v * s = omega arith in (
      and_from (is_small n && is_small (v * s)) (has_entries v loop n c.by)
          (and_from (is_small n) (is_small (v * s)) (lt-ltb n (2 ^ 32) (omega (arith, few, small, wide, turned)))
          (lt-ltb (v * s) (2 ^ 32) (omega (arith, small))))
          (entries_same v loop (length (stores ops)) n c.by told.turned.many entries),
      told.front_by_lane,
    )
