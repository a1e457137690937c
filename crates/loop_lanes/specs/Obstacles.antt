-- Why a program stays at one lane: what about it, or about the first of its statements that cannot be laned.
use Rattle.std.specs.Prelude.{◌≡◌, ◌↔◌, ℕ, ◌+◌, ◌*◌, ◌%◌, ◌^◌, ◌==◌, Bool, true, false, not, nat_le, nat_lt}
use Rattle.std.specs.Prelude.{List, [], ◌∷◌, length, Option, Some, None, if◌then◌else◌}
use Rattle.std.specs.Option.{option_map_or}
use Rattle.icode.specs.Plain.{PlainStmt, PlainBody, PlainProgram, Loop, Do, NoStmts, AndStmts}
use Rattle.nests.specs.Rounds.{are_fresh, first_store, ops_in}
use Rattle.nests.specs.Nests.{counts_in, round_in}
use Rattle.loop_lanes.specs.Rows.{stores}
use Rattle.loop_lanes.specs.Lanes.{last_count, can_lane, can_be_laned}
use Rattle.loop_lanes.specs.declared.obstacles.NestFault.{NestFault}
use Rattle.loop_lanes.specs.declared.obstacles.NestFault.TheVariants as nest
use Rattle.loop_lanes.specs.declared.obstacles.Obstacle.{Obstacle}
use Rattle.loop_lanes.specs.declared.obstacles.Obstacle.TheVariants as obstacle

-- no loop stands among them
abbrev pub are_straight : PlainBody → Bool
are_straight NoStmts = true
are_straight (AndStmts (Do op) rest) = are_straight rest
are_straight (AndStmts (Loop count body) rest) = false

-- what about rounds of the loop at this depth, of a given number, in the order in which it is told
abbrev pub fault_of_rounds : ℕ → ℕ → ℕ → PlainBody → Option NestFault
fault_of_rounds v count loop round =
    if not (are_straight round) then Some nest.Loops
    else if not (nat_le (length (stores (ops_in round))) 256) then Some nest.Stores
    else if not (count % v == 0) then Some nest.Rounds
    else if not (are_fresh 1 0 round) then Some nest.Registers
    else if can_lane v loop (first_store round) (ops_in round) then None else Some nest.Places

abbrev pub fault_of : ℕ → PlainStmt → Option NestFault
fault_of v (Loop count body) =
    fault_of_rounds v (last_count count (counts_in body)) (length (counts_in body)) (round_in body)
fault_of v (Do op) = Some nest.NoLoop

-- of the statements of a phase, from this number on, the first that cannot be laned
abbrev pub obstacle_of_body : ℕ → ℕ → ℕ → PlainBody → Option Obstacle
obstacle_of_body v phase number NoStmts = None
obstacle_of_body v phase number (AndStmts stmt rest) =
    option_map_or (λ fault. Some (obstacle.Statement phase number fault)) (fault_of v stmt)
    (obstacle_of_body v phase (number + 1) rest)

-- of the phases from this number on
abbrev pub obstacle_of_phases : ℕ → ℕ → List PlainBody → Option Obstacle
obstacle_of_phases v phase [] = None
obstacle_of_phases v phase (body ∷ phases) =
    option_map_or Some (obstacle_of_body v phase 0 body) (obstacle_of_phases v (phase + 1) phases)

abbrev pub first_obstacle : ℕ → PlainProgram → Option Obstacle
first_obstacle v p =
    if not (p.lanes == 1) then Some obstacle.Lanes
    else if nat_lt (3 * p.regs) (2 ^ 20) then obstacle_of_phases v 0 p.phases else Some obstacle.Registers

-- There is none exactly where the program can be laned
abbrev pub ObstaclesAreAll : Type 0
ObstaclesAreAll = (v : ℕ) (p : PlainProgram) → (first_obstacle v p ≡ None) ↔ (can_be_laned v p ≡ true)
