-- Rounds that load rows: of each of v rounds, v words one after the other are loaded, and a tile turns them, so that
-- each round has its words in a lane of its own.
use Rattle.std.specs.Prelude.{ℕ, suc, ◌+◌, ◌*◌, ◌/◌, ◌%◌, ◌==◌, ◌&&◌, ◌||◌, Bool, false, not, nat_le, nat_lt, List, []}
use Rattle.std.specs.Prelude.{◌∷◌, ◌++◌, map, drop, flat_map, Option, Some, None, if◌then◌else◌}
use Rattle.std.specs.List.{list_all, range_with_len}
use Rattle.icode.specs.Limits.{is_small}
use Rattle.icode.specs.Plain.{PlainOp, Sum, Load, Tile}
use Rattle.nests.specs.Places.{are_linear, stride, same_parts}
use Rattle.nests.specs.Rounds.{Stored, same_array}
use Rattle.loop_lanes.specs.Rows.{stored_constants, widened_parts, is_by_lane, are_clear, in_row}
use Rattle.loop_lanes.specs.Columns.{Columns, plain_columns, factored_columns, are_by, are_columns, in_columns}

-- ---- rows

-- what a round loads, as what it stores: from which array, and by which parts of its places
abbrev pub Loaded : Type 0
Loaded = Stored

-- where the first operation loads from, if it is a load
abbrev pub first_load : List PlainOp → Option Loaded
first_load (Load r array (Sum constant parts) ∷ ops) = Some (record { array = array; parts = parts })
first_load _ = None

-- a load of the word of this number, into the register of this number
abbrev pub is_loaded : Loaded → ℕ → PlainOp → Bool
is_loaded from k (Load r array (Sum constant parts)) =
    (r == k) && ((constant == k) && (same_array array from.array && same_parts parts from.parts))
is_loaded from k op = false

-- how many such loads, one after the other from this number on, the operations begin with
abbrev pub row_length : Loaded → ℕ → List PlainOp → ℕ
row_length from k [] = 0
row_length from k (op ∷ ops) = if is_loaded from k op then suc (row_length from (k + 1) ops) else 0

-- a row of some whole tiles, from another array than the stores. Numbers of places stay small
abbrev pub are_whole : ℕ → ℕ → Stored → Loaded → ℕ → Bool
are_whole v loop to from m =
    (nat_lt 0 m && ((m % v == 0) && not (same_array from.array to.array)))
    && (are_linear 0 from.parts && is_small (m + v * stride loop from.parts))

-- ---- what stands after a number of loads

-- rows: stores are of words one after the other
abbrev pub are_rows_behind : ℕ → ℕ → Stored → List PlainOp → Loaded → ℕ → Bool
are_rows_behind v loop to ops from m =
    are_whole v loop to from m
    && ((stride loop to.parts == 1)
    && (list_all (is_by_lane loop to) (drop m ops) && are_clear v (stored_constants ops)))

abbrev pub are_rows_from : ℕ → ℕ → Stored → List PlainOp → Option Loaded → Bool
are_rows_from v loop to ops None = false
are_rows_from v loop to ops (Some from) = are_rows_behind v loop to ops from (row_length from 0 ops)

abbrev pub are_loaded_rows : ℕ → ℕ → Stored → List PlainOp → Bool
are_loaded_rows v loop to ops = are_rows_from v loop to ops (first_load ops)

-- columns without the first of their operations, of a given number
abbrev pub behind : ℕ → Columns → Columns
behind m c = record c { front = drop m c.front }

-- columns of other registers than those that are loaded
abbrev pub are_behind : ℕ → ℕ → Stored → List PlainOp → Columns → Loaded → ℕ → Bool
are_behind v loop to ops c from m =
    are_whole v loop to from m && (list_all (nat_le m) c.turned && are_columns v loop to ops (behind m c))

abbrev pub are_loaded_from : ℕ → ℕ → Stored → List PlainOp → Columns → Option Loaded → Bool
are_loaded_from v loop to ops c None = false
are_loaded_from v loop to ops c (Some from) = are_behind v loop to ops c from (row_length from 0 c.front)

abbrev pub are_loaded : ℕ → ℕ → Stored → List PlainOp → Columns → Bool
are_loaded v loop to ops c = are_loaded_from v loop to ops c (first_load c.front)

-- rows, plain columns, or factored ones
abbrev pub can_load : ℕ → ℕ → Stored → List PlainOp → Bool
can_load v loop to ops =
    are_loaded_rows v loop to ops
    || (are_loaded v loop to ops (plain_columns ops)
    || (are_by v loop ops (factored_columns ops).by && are_loaded v loop to ops (factored_columns ops)))

-- ---- what becomes of v rounds

-- in round l, the words from the word k on
abbrev pub load_at : ℕ → ℕ → ℕ → Loaded → ℕ → ℕ → PlainOp
load_at v loop x from k l =
    Load (x + l) from.array (Sum (k + stride loop from.parts * l) (widened_parts v loop from.parts))

-- they go into the registers from x on, and are turned into those from k on
abbrev pub load_tile : ℕ → ℕ → ℕ → Loaded → ℕ → List PlainOp
load_tile v loop x from k = map (load_at v loop x from k) (range_with_len 0 v) ++ Tile k x ∷ []

abbrev pub load_tiles : ℕ → ℕ → ℕ → Loaded → ℕ → List PlainOp
load_tiles v x loop from m = flat_map (λ g. load_tile v loop x from (g * v)) (range_with_len 0 (m / v))

-- after them is what comes after loads by lane. The loads go through registers that columns put only later
abbrev pub in_loaded_rows_from : ℕ → ℕ → ℕ → List PlainOp → Option Loaded → List PlainOp
in_loaded_rows_from v n loop ops None = ops
in_loaded_rows_from v n loop ops (Some from) =
    let m = row_length from 0 ops in load_tiles v (2 * n) loop from m ++ map (in_row v loop) (drop m ops)

abbrev pub in_loaded_rows : ℕ → ℕ → ℕ → List PlainOp → List PlainOp
in_loaded_rows v n loop ops = in_loaded_rows_from v n loop ops (first_load ops)

abbrev pub in_tiles : ℕ → ℕ → ℕ → Stored → Columns → Loaded → ℕ → List PlainOp
in_tiles v n loop to c from m = load_tiles v (2 * n) loop from m ++ in_columns v n loop to (behind m c)

abbrev pub in_loaded_from : ℕ → ℕ → ℕ → Stored → Columns → Option Loaded → List PlainOp
in_loaded_from v n loop to c None = in_columns v n loop to c
in_loaded_from v n loop to c (Some from) = in_tiles v n loop to c from (row_length from 0 c.front)

abbrev pub in_loaded : ℕ → ℕ → ℕ → Stored → Columns → List PlainOp
in_loaded v n loop to c = in_loaded_from v n loop to c (first_load c.front)

abbrev pub loaded_ops : ℕ → ℕ → ℕ → Stored → List PlainOp → List PlainOp
loaded_ops v n loop to ops =
    if are_loaded_rows v loop to ops then in_loaded_rows v n loop ops
    else if are_loaded v loop to ops (plain_columns ops) then in_loaded v n loop to (plain_columns ops)
    else in_loaded v n loop to (factored_columns ops)
