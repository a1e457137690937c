-- Lanes from loops: of loops, one in the other, of one lane, v rounds of the innermost become one round of v lanes.
use Rattle.std.specs.Prelude.{ℕ, ◌≡◌, ◌⊎◌, ◌*◌, ◌/◌, ◌%◌, ◌^◌, ◌==◌, ◌&&◌, ◌||◌, Bool, true, false, nat_lt, nat_le}
use Rattle.std.specs.Prelude.{List, [], ◌∷◌, length, map, Option, Some, None, if◌then◌else◌}
use Rattle.std.specs.List.{list_all}
use Rattle.icode.specs.Plain.{PlainOp, PlainStmt, PlainBody, PlainProgram, Loop, Do, NoStmts, AndStmts}
use Rattle.nests.specs.Places.{are_linear}
use Rattle.nests.specs.Rounds.{Stored, are_fresh, first_store, straight, ops_in}
use Rattle.nests.specs.Nests.{counts_in, round_in}
use Rattle.loop_lanes.specs.Rows.{stores, are_rows, in_row}
use Rattle.loop_lanes.specs.Columns.{plain_columns, factored_columns, are_plain_columns, are_factored_columns}
use Rattle.loop_lanes.specs.Columns.{in_columns}
use Rattle.loop_lanes.specs.Loads.{can_load, loaded_ops}

abbrev pub IsLanes : ℕ → Type 0
IsLanes v = (v ≡ 2) ⊎ (v ≡ 4) ⊎ (v ≡ 8) ⊎ (v ≡ 16)

-- ---- rounds of the loop at this depth

-- where all loads are by lane
abbrev pub can_by_lane : ℕ → ℕ → Stored → List PlainOp → Bool
can_by_lane v loop to ops =
    are_rows v loop to ops || (are_plain_columns v loop to ops || are_factored_columns v loop to ops)

abbrev pub by_lane_ops : ℕ → ℕ → ℕ → Stored → List PlainOp → List PlainOp
by_lane_ops v n loop to ops =
    if are_rows v loop to ops then map (in_row v loop) ops
    else if are_plain_columns v loop to ops then in_columns v n loop to (plain_columns ops)
    else in_columns v n loop to (factored_columns ops)

-- or else rows are loaded
abbrev pub can_lane : ℕ → ℕ → Option Stored → List PlainOp → Bool
can_lane v loop None ops = false
can_lane v loop (Some to) ops =
    are_linear 0 to.parts && (can_by_lane v loop to ops || can_load v loop to ops)

-- v rounds that store as the record says, on registers below n
abbrev pub laned_ops : ℕ → ℕ → ℕ → Option Stored → List PlainOp → List PlainOp
laned_ops v n loop None ops = ops
laned_ops v n loop (Some to) ops =
    if can_by_lane v loop to ops then by_lane_ops v n loop to ops else loaded_ops v n loop to ops

abbrev pub laned_round : ℕ → ℕ → ℕ → PlainBody → PlainBody
laned_round v n loop round = straight (laned_ops v n loop (first_store round) (ops_in round))

-- ---- nests

-- the count of the innermost of loops, of which the outermost has this one
abbrev pub last_count : ℕ → List ℕ → ℕ
last_count count [] = count
last_count outer (count ∷ counts) = last_count count counts

-- its rounds are straight, store not too often, read no register of another round, and go v at a time
abbrev pub is_lanable : ℕ → PlainStmt → Bool
is_lanable v (Loop count body) =
    nat_le (length (stores (ops_in (round_in body)))) 256
    && ((last_count count (counts_in body) % v == 0) && (are_fresh 1 0 (round_in body)
    && can_lane v (length (counts_in body)) (first_store (round_in body)) (ops_in (round_in body))))
is_lanable v (Do op) = false

abbrev pub are_lanable : ℕ → PlainBody → Bool
are_lanable v NoStmts = true
are_lanable v (AndStmts stmt rest) = is_lanable v stmt && are_lanable v rest

-- loops of these counts, where the innermost goes v rounds at a time
abbrev pub narrowed : ℕ → ℕ → List ℕ → PlainBody → PlainStmt
narrowed v count [] round = Loop (count / v) round
narrowed v outer (count ∷ counts) round = Loop outer (AndStmts (narrowed v count counts round) NoStmts)

abbrev pub laned_nest : ℕ → ℕ → PlainStmt → PlainStmt
laned_nest v n (Loop count body) =
    narrowed v count (counts_in body) (laned_round v n (length (counts_in body)) (round_in body))
laned_nest v n (Do op) = Do op

abbrev pub laned_body : ℕ → ℕ → PlainBody → PlainBody
laned_body v n NoStmts = NoStmts
laned_body v n (AndStmts stmt rest) = AndStmts (laned_nest v n stmt) (laned_body v n rest)

-- ---- programs

abbrev pub can_be_laned : ℕ → PlainProgram → Bool
can_be_laned v p = (p.lanes == 1) && (nat_lt (3 * p.regs) (2 ^ 20) && list_all (are_lanable v) p.phases)

-- the program on v lanes, if it is of one and all its statements can be laned. For each register there may be one
-- that is to be turned, and one that it is turned into
abbrev pub laned : ℕ → PlainProgram → PlainProgram
laned v p =
    if can_be_laned v p
    then record p { lanes = v; regs = 3 * p.regs; phases = map (laned_body v p.regs) p.phases }
    else p
