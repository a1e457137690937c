-- What the code's values are among the definitions.
use Rattle.std.specs.Prelude.{ℕ, ◌+◌, ◌*◌, ◌/◌, ◌==◌, ◌&&◌, ◌||◌, Bool, true, false, nat_lt, List, map, flat_map}
use Rattle.std.specs.Prelude.{length, Option, Some, None, option_map, Vec, if◌then◌else◌}
use Rattle.std.proofs.Common.{Global}
use Rattle.std.specs.List.{list_all, range_with_len}
use Rattle.icode.specs.declared.program.Op.{Op}
use Rattle.icode.specs.declared.program.Stmt.{Stmt}
use Rattle.icode.specs.Plain.{PlainOp, PlainStmt, PlainBody, Sum, Load, Store, Zero, Add, Sub, Neg, MulConst, MulTable}
use Rattle.icode.specs.Plain.{Tile, plain_op, plain_body, plain_phases}
use Rattle.icode.specs.Limits.{is_small}
use Rattle.nests.specs.Places.{are_linear, same_parts, stride}
use Rattle.nests.specs.Rounds.{Stored, first_store, ops_in}
use Rattle.nests.specs.Views.{plain_parts, stored_into}
use Rattle.loop_lanes.specs.declared.columns.Columns.{Columns as SpecColumns}
use Rattle.loop_lanes.specs.declared.columns.Factors.{Factors as SpecFactors}
use Rattle.loop_lanes.specs.declared.columns.Group.{Group}
use Rattle.loop_lanes.specs.declared.columns.ArrayReference.{ArrayReference}
use Rattle.loop_lanes.specs.declared.tiles.Tiles.{Tiles}
use Rattle.loop_lanes.specs.Columns.{Columns, Factors, renumbered, renumbered_op, are_products, are_by}
use Rattle.loop_lanes.specs.Columns.{are_factored_columns, plain_columns, factored_columns, product_at, row_at}
use Rattle.loop_lanes.specs.Columns.{tile_at, in_columns}
use Rattle.loop_lanes.specs.Lanes.{can_by_lane, by_lane_ops, can_lane, laned_ops, laned_round, is_lanable, laned_nest}
use Rattle.loop_lanes.specs.Lanes.{are_lanable, laned_body}
use Rattle.loop_lanes.specs.Loads.{are_loaded_rows, are_loaded, can_load, load_at, load_tile, load_tiles}
use Rattle.loop_lanes.specs.Loads.{in_loaded_rows, in_loaded, loaded_ops}
use Rattle.loop_lanes.specs.Rows.{are_from, place_stride, in_row}

-- how far the place of an operation goes in a step of the loop at this depth
abbrev pub stride_in : ℕ → PlainOp → ℕ
stride_in loop (Load r array place) = place_stride loop place
stride_in loop (Store array place r) = place_stride loop place
stride_in loop (Zero r) = 0
stride_in loop (Add r x y) = 0
stride_in loop (Sub r x y) = 0
stride_in loop (Neg r x) = 0
stride_in loop (MulConst r x factor) = 0
stride_in loop (MulTable r x table place step) = place_stride loop place
stride_in loop (Tile r x) = 0

abbrev pub plain_ops : List Op → List PlainOp
plain_ops ops = map plain_op ops

abbrev pub plain_factors : SpecFactors → Factors
plain_factors by = record { table = by.table; constant = by.constant; parts = plain_parts by.parts.now }

abbrev pub columns_of : SpecColumns → Columns
columns_of c = record { front = plain_ops c.front.now; turned = c.turned.now; by = option_map plain_factors c.by }

-- a product of a register below this one, by the entry k of these factors
abbrev pub is_product : Factors → ℕ → ℕ → PlainOp → Bool
is_product by bound k (MulTable r x table (Sum constant parts) step) =
    nat_lt x bound && ((table == by.table) && ((constant == by.constant + k) && same_parts parts by.parts))
is_product by bound k op = false

-- ---- tiles

-- operations before the tiles, where these registers are turned
abbrev pub laned_front : ℕ → ℕ → ℕ → List ℕ → List PlainOp → List PlainOp
laned_front v n loop turned ops = map (λ op. renumbered_op (renumbered n turned) (in_row v loop op)) ops

-- the entries for this number of words have small numbers
abbrev pub has_entries : ℕ → ℕ → ℕ → Option Factors → Bool
has_entries v loop m None = true
has_entries v loop m (Some by) = is_small (by.constant + (m + v * stride loop by.parts))

-- the numbers in tiles of this number of registers are small
abbrev pub has_words : ℕ → ℕ → ℕ → ℕ → Option Factors → Bool
has_words v loop m step by = (is_small m && is_small (v * step)) && has_entries v loop m by

abbrev pub has_room : Tiles → Bool
has_room t =
    has_words t.group.lanes t.group.depth t.count (stride t.group.depth (plain_parts t.parts.now))
    (option_map plain_factors t.by)

abbrev pub product_of : Tiles → ℕ → ℕ → ℕ → List PlainOp
product_of t r k l = product_at t.group.lanes t.group.depth (option_map plain_factors t.by) r k l

abbrev pub row_of : Tiles → ℕ → ℕ → ℕ → List PlainOp
row_of t r k l =
    row_at t.group.lanes t.group.depth (stored_into t.array t.parts.now) (option_map plain_factors t.by) r k l

abbrev pub tile_of : Tiles → ℕ → ℕ → ℕ → List PlainOp
tile_of t r x k =
    tile_at t.group.lanes t.group.depth (stored_into t.array t.parts.now) (option_map plain_factors t.by) r x k

-- of the registers from n on
abbrev pub tile_number : Tiles → ℕ → ℕ → List PlainOp
tile_number t n g = let v = t.group.lanes in tile_of t (n + t.count + g * v) (n + g * v) (g * v)

abbrev pub tiles_of : Tiles → ℕ → List PlainOp
tiles_of t n = flat_map (tile_number t n) (range_with_len 0 (t.count / t.group.lanes))

abbrev pub can_tile : Group → ArrayReference → SpecColumns → Bool
can_tile group target c =
    has_words group.lanes group.depth (length c.turned.now) (stride group.depth (plain_parts target.parts.now))
    (option_map plain_factors c.by)

abbrev pub laned_columns : Group → ℕ → ArrayReference → SpecColumns → List PlainOp
laned_columns group n target c =
    in_columns group.lanes n group.depth (stored_into target.array target.parts.now) (columns_of c)

-- loads of tiles, by the same record as stores
abbrev pub load_of : Tiles → ℕ → ℕ → ℕ → PlainOp
load_of t x k l = load_at t.group.lanes t.group.depth x (stored_into t.array t.parts.now) k l

abbrev pub load_tile_of : Tiles → ℕ → ℕ → List PlainOp
load_tile_of t x k = load_tile t.group.lanes t.group.depth x (stored_into t.array t.parts.now) k

abbrev pub loads_of : Tiles → ℕ → List PlainOp
loads_of t x = load_tiles t.group.lanes x t.group.depth (stored_into t.array t.parts.now) t.count

-- ---- what is made, if it can be laned

abbrev pub stored_reference : ArrayReference → Stored
stored_reference target = stored_into target.array target.parts.now

abbrev pub ops_made : Option (Vec Op Global) → Option (List PlainOp)
ops_made made = option_map (λ (ops : Vec Op Global). plain_ops ops.items) made

abbrev pub body_made : Option (Vec Stmt Global) → Option PlainBody
body_made made = option_map (λ (body : Vec Stmt Global). plain_body body.items) made

abbrev pub phases_made : Option (Vec (Vec Stmt Global) Global) → Option (List PlainBody)
phases_made made = option_map (λ (phases : Vec (Vec Stmt Global) Global). plain_phases phases.items) made

-- rounds in rows
abbrev pub rows_of : ℕ → ℕ → List PlainOp → List PlainOp
rows_of v loop ops = map (in_row v loop) ops

-- products by the factors of registers below the bound, stored in their order, and as many as asked for
abbrev pub are_factors : ℕ → ℕ → Factors → ℕ → ℕ → List PlainOp → List ℕ → Bool
are_factors v loop by bound m products stored =
    (are_linear 0 by.parts && is_small (by.constant + (m + v * stride loop by.parts)))
    && (are_products by bound 0 products && are_from bound stored)

abbrev pub factored_if : ℕ → ℕ → ℕ → Stored → List PlainOp → Option (List PlainOp)
factored_if v n loop to ops =
    if are_factored_columns v loop to ops then Some (in_columns v n loop to (factored_columns ops)) else None

abbrev pub by_lane_if : ℕ → ℕ → ℕ → Stored → List PlainOp → Option (List PlainOp)
by_lane_if v n loop to ops = if can_by_lane v loop to ops then Some (by_lane_ops v n loop to ops) else None

-- rounds that load rows
abbrev pub in_loaded_if : ℕ → ℕ → ℕ → Stored → List PlainOp → Columns → Option (List PlainOp)
in_loaded_if v n loop to ops c = if are_loaded v loop to ops c then Some (in_loaded v n loop to c) else None

abbrev pub loaded_rows_if : ℕ → ℕ → ℕ → Stored → List PlainOp → Option (List PlainOp)
loaded_rows_if v n loop to ops = if are_loaded_rows v loop to ops then Some (in_loaded_rows v n loop ops) else None

-- columns
abbrev pub loaded_columns_if : ℕ → ℕ → ℕ → Stored → List PlainOp → Option (List PlainOp)
loaded_columns_if v n loop to ops =
    if (are_loaded v loop to ops (plain_columns ops)
    || (are_by v loop ops (factored_columns ops).by && are_loaded v loop to ops (factored_columns ops)))
    then Some (if are_loaded v loop to ops (plain_columns ops)
    then in_loaded v n loop to (plain_columns ops)
    else in_loaded v n loop to (factored_columns ops))
    else None

abbrev pub loaded_factored_if : ℕ → ℕ → ℕ → Stored → List PlainOp → Option (List PlainOp)
loaded_factored_if v n loop to ops =
    if are_by v loop ops (factored_columns ops).by then in_loaded_if v n loop to ops (factored_columns ops) else None

abbrev pub loaded_if : ℕ → ℕ → ℕ → Stored → List PlainOp → Option (List PlainOp)
loaded_if v n loop to ops = if can_load v loop to ops then Some (loaded_ops v n loop to ops) else None

abbrev pub ops_if : ℕ → ℕ → ℕ → Stored → List PlainOp → Option (List PlainOp)
ops_if v n loop to ops = if can_lane v loop (Some to) ops then Some (laned_ops v n loop (Some to) ops) else None

abbrev pub round_if : ℕ → ℕ → ℕ → PlainBody → Option PlainBody
round_if v n loop round =
    if can_lane v loop (first_store round) (ops_in round) then Some (laned_round v n loop round) else None

abbrev pub nest_if : ℕ → ℕ → PlainStmt → Option PlainStmt
nest_if v n stmt = if is_lanable v stmt then Some (laned_nest v n stmt) else None

abbrev pub body_if : ℕ → ℕ → PlainBody → Option PlainBody
body_if v n body = if are_lanable v body then Some (laned_body v n body) else None

abbrev pub phases_if : ℕ → ℕ → List PlainBody → Option (List PlainBody)
phases_if v n phases = if list_all (are_lanable v) phases then Some (map (laned_body v n) phases) else None
