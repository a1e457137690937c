-- Rounds that store columns: v registers of v lanes are turned by a tile, and are then stored row by row.
use Rattle.std.specs.Prelude.{ℕ, ◌+◌, ◌-◌, ◌*◌, ◌/◌, ◌%◌, ◌^◌, ◌==◌, ◌&&◌, Bool, true, false, not, nat_le, nat_lt}
use Rattle.std.specs.Prelude.{List, [], ◌∷◌, ◌++◌, map, length, take, drop, flat_map, Option, Some, None}
use Rattle.std.specs.Prelude.{if◌then◌else◌}
use Rattle.std.specs.List.{list_all, range_with_len}
use Rattle.icode.specs.Limits.{is_small}
use Rattle.icode.specs.Plain.{PlainParts, PlainOp, Sum, Load, Store, Zero, Add, Sub, Neg, MulConst, MulTable, Tile}
use Rattle.nests.specs.Places.{are_linear, stride, same_parts}
use Rattle.nests.specs.Rounds.{Stored}
use Rattle.loop_lanes.specs.Rows.{stores, others, stored_registers, stored_constants, are_from, widened_parts}
use Rattle.loop_lanes.specs.Rows.{is_by_lane, in_row}

-- ---- registers

-- a register that is to be turned is numbered from this number on, in their order
abbrev pub renumbered : ℕ → List ℕ → ℕ → ℕ
renumbered at [] r = r
renumbered at (x ∷ turned) r = if r == x then at else renumbered (at + 1) turned r

abbrev pub renumbered_op : (ℕ → ℕ) → PlainOp → PlainOp
renumbered_op to (Load r array place) = Load (to r) array place
renumbered_op to (Store array place r) = Store array place (to r)
renumbered_op to (Zero r) = Zero (to r)
renumbered_op to (Add r x y) = Add (to r) (to x) (to y)
renumbered_op to (Sub r x y) = Sub (to r) (to x) (to y)
renumbered_op to (Neg r x) = Neg (to r) (to x)
renumbered_op to (MulConst r x factor) = MulConst (to r) (to x) factor
renumbered_op to (MulTable r x table place step) = MulTable (to r) (to x) table place step
renumbered_op to (Tile r x) = Tile (to r) (to x)

-- none twice
abbrev pub are_distinct : List ℕ → Bool
are_distinct [] = true
are_distinct (x ∷ xs) = list_all (λ y. not (x == y)) xs && are_distinct xs

-- ---- products that are done after the tile

-- what products are by: a table, and where their entries begin
pub record Factors : Type 0 where
  pub table : ℕ
  pub constant : ℕ
  pub parts : PlainParts

abbrev pub first_factors : List PlainOp → Option Factors
first_factors (MulTable r x table (Sum constant parts) step ∷ ops) =
    Some (record { table = table; constant = constant; parts = parts })
first_factors _ = None

-- products of registers below this one, by entries one after the other from this one on
abbrev pub are_products : Factors → ℕ → ℕ → List PlainOp → Bool
are_products by bound k [] = true
are_products by bound k (MulTable r x table (Sum constant parts) step ∷ ops) =
    (nat_lt x bound && ((table == by.table) && ((constant == by.constant + k) && same_parts parts by.parts)))
    && are_products by bound (k + 1) ops
are_products by bound k (op ∷ ops) = false

abbrev pub factored_registers : List PlainOp → List ℕ
factored_registers [] = []
factored_registers (MulTable r x table place step ∷ ops) = x ∷ factored_registers ops
factored_registers (op ∷ ops) = factored_registers ops

-- ---- what becomes of v rounds

-- the operations before the tiles, the registers that are turned, and what they are then multiplied by, if by anything
pub record Columns : Type 0 where
  pub front : List PlainOp
  pub turned : List ℕ
  pub by : Option Factors

-- the products that are done after the tile are as many as the stores
abbrev pub front_length : List PlainOp → ℕ
front_length ops = length (others ops) - length (stores ops)

abbrev pub last_products : List PlainOp → List PlainOp
last_products ops = drop (front_length ops) (others ops)

abbrev pub plain_columns : List PlainOp → Columns
plain_columns ops = record { front = others ops; turned = stored_registers ops; by = None }

abbrev pub factored_columns : List PlainOp → Columns
factored_columns ops =
    record {
      front = take (front_length ops) (others ops);
      turned = factored_registers (last_products ops);
      by = first_factors (last_products ops);
    }

-- whole tiles are stored in their order, of no more registers than are put, and into words of their own. Numbers of
-- places stay small, and so do those of registers: fewer than 2 ^ 20, and two more for each that is turned
abbrev pub are_tiles : ℕ → ℕ → Stored → List PlainOp → Columns → Bool
are_tiles v loop to ops c =
    let m = length c.turned in
    ((length (stores ops) == m) && ((m % v == 0) && nat_le m (length c.front)))
    && (are_from 0 (stored_constants ops)
    && (nat_le m (stride loop to.parts) && is_small (2 ^ 20 + v * stride loop to.parts)))

abbrev pub are_columns : ℕ → ℕ → Stored → List PlainOp → Columns → Bool
are_columns v loop to ops c =
    are_tiles v loop to ops c
    && (list_all (is_by_lane loop to) (stores ops)
    && (list_all (is_by_lane loop to) c.front && are_distinct c.turned))

-- the last operations are products by these factors, and what they put is stored in their order
abbrev pub are_by : ℕ → ℕ → List PlainOp → Option Factors → Bool
are_by v loop ops None = false
are_by v loop ops (Some by) =
    (are_linear 0 by.parts && is_small (by.constant + (length (stores ops) + v * stride loop by.parts)))
    && (are_products by (front_length ops) 0 (last_products ops) && are_from (front_length ops) (stored_registers ops))

abbrev pub are_plain_columns : ℕ → ℕ → Stored → List PlainOp → Bool
are_plain_columns v loop to ops = are_columns v loop to ops (plain_columns ops)

abbrev pub are_factored_columns : ℕ → ℕ → Stored → List PlainOp → Bool
are_factored_columns v loop to ops =
    are_by v loop ops (first_factors (last_products ops)) && are_columns v loop to ops (factored_columns ops)

-- ---- the tiles

-- in round l, the product by entries one after the other, from that of the word k on
abbrev pub product_at : ℕ → ℕ → Option Factors → ℕ → ℕ → ℕ → List PlainOp
product_at v loop None r k l = []
product_at v loop (Some by) r k l =
    let place = Sum (by.constant + k + stride loop by.parts * l) (widened_parts v loop by.parts) in
    MulTable r r by.table place 1 ∷ []

-- row l of the tile from the word k on
abbrev pub row_at : ℕ → ℕ → Stored → Option Factors → ℕ → ℕ → ℕ → List PlainOp
row_at v loop to by r k l =
    product_at v loop by (r + l) k l
    ++ Store to.array (Sum (k + stride loop to.parts * l) (widened_parts v loop to.parts)) (r + l) ∷ []

-- the registers from x on are turned into those from r on, and are stored from the word k on
abbrev pub tile_at : ℕ → ℕ → Stored → Option Factors → ℕ → ℕ → ℕ → List PlainOp
tile_at v loop to by r x k = Tile r x ∷ flat_map (row_at v loop to by r k) (range_with_len 0 v)

-- registers from n on are turned into those after them
abbrev pub in_columns : ℕ → ℕ → ℕ → Stored → Columns → List PlainOp
in_columns v n loop to c =
    let m = length c.turned in
    map (λ op. renumbered_op (renumbered n c.turned) (in_row v loop op)) c.front
    ++ flat_map (λ g. tile_at v loop to c.by (n + m + g * v) (n + g * v) (g * v)) (range_with_len 0 (m / v))
