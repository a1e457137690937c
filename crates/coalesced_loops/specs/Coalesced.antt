-- Loop coalescing (Polychronopoulos, 1987): an innermost loop and the one in which it stands alone become one loop of
-- as many rounds as both have, where each place goes on from the last round of the inner loop to the first of its next
-- time.
use Rattle.std.specs.Prelude.{ℕ, ◌+◌, ◌-◌, ◌*◌, ◌%◌, ◌==◌, ◌&&◌, Bool, true, not, false, nat_lt, map, Option, Some}
use Rattle.std.specs.Prelude.{None, if◌then◌else◌}
use Rattle.std.specs.Option.{unwrap_or}
use Rattle.icode.specs.Limits.{is_small}
use Rattle.icode.specs.Plain.{PlainExpr, PlainParts, PlainOp, PlainStmt, PlainBody, PlainProgram, Sum, NoParts}
use Rattle.icode.specs.Plain.{AndParts, Var, Load, Store, MulTable, Loop, Do, NoStmts, AndStmts}
use Rattle.nests.specs.Places.{are_linear, stride, placed_op}
use Rattle.nests.specs.Rounds.{straight, ops_in}

-- ---- where it can be done

-- a linear place goes in a step of the loop at this depth as far as in a given number of steps of the next loop
abbrev pub place_goes_on : ℕ → ℕ → PlainExpr → Bool
place_goes_on loop inner (Sum constant parts) =
    are_linear 0 parts && (stride loop parts == inner * stride (loop + 1) parts)

abbrev pub op_goes_on : ℕ → ℕ → PlainOp → Bool
op_goes_on loop inner (Load register array place) = place_goes_on loop inner place
op_goes_on loop inner (Store array place register) = place_goes_on loop inner place
op_goes_on loop inner (MulTable register source table place step) = place_goes_on loop inner place
op_goes_on loop inner op = true

-- these are operations alone, in which no loop stands
abbrev pub body_goes_on : ℕ → ℕ → PlainBody → Bool
body_goes_on loop inner NoStmts = true
body_goes_on loop inner (AndStmts (Do op) rest) = op_goes_on loop inner op && body_goes_on loop inner rest
body_goes_on loop inner (AndStmts (Loop count body) rest) = false

-- ---- statements with one loop less around them

-- the loop at this depth is no more: those in it stand one higher
abbrev pub lifted_depth : ℕ → ℕ → ℕ
lifted_depth loop depth = if nat_lt loop depth then depth - 1 else depth

abbrev pub lifted_parts : ℕ → PlainParts → PlainParts
lifted_parts loop NoParts = NoParts
lifted_parts loop (AndParts (Var depth factor) rest) =
    if depth == loop
    then lifted_parts loop rest
    else AndParts (Var (lifted_depth loop depth) factor) (lifted_parts loop rest)
lifted_parts loop (AndParts part rest) = AndParts part (lifted_parts loop rest)

abbrev pub lifted_place : ℕ → PlainExpr → PlainExpr
lifted_place loop (Sum constant parts) = Sum constant (lifted_parts loop parts)

abbrev pub lifted_op : ℕ → PlainOp → PlainOp
lifted_op loop op = placed_op (lifted_place loop) op

-- operations alone
abbrev pub lifted_body : ℕ → PlainBody → PlainBody
lifted_body loop body = straight (map (lifted_op loop) (ops_in body))

-- ---- loops

-- two loops as one, of which the outer one is at this depth and the inner one is the innermost, as long as its rounds
-- are no multiple of 16, the greatest number of lanes
abbrev pub both_as_one : ℕ → ℕ → ℕ → PlainBody → Option PlainStmt
both_as_one loop count inner body =
    if not (inner % 16 == 0) && (is_small (count * inner) && body_goes_on loop inner body)
    then Some (Loop (count * inner) (lifted_body loop body))
    else None

-- a loop of a number of rounds of this body as one with the loop that the body is
abbrev pub as_one : ℕ → ℕ → PlainBody → Option PlainStmt
as_one loop count (AndStmts (Loop inner body) NoStmts) = both_as_one loop count inner body
as_one loop count body = None

-- from the innermost loops to the outermost
abbrev mutual
  pub coalesced_stmt : ℕ → PlainStmt → PlainStmt
  coalesced_stmt loop (Loop count body) =
      let inside = coalesced_body (loop + 1) body in unwrap_or (as_one loop count inside) (Loop count inside)
  coalesced_stmt loop (Do op) = Do op

  pub coalesced_body : ℕ → PlainBody → PlainBody
  coalesced_body loop NoStmts = NoStmts
  coalesced_body loop (AndStmts stmt rest) = AndStmts (coalesced_stmt loop stmt) (coalesced_body loop rest)

abbrev pub coalesced : PlainProgram → PlainProgram
coalesced p = record p { phases = map (coalesced_body 0) p.phases }
