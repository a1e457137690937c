-- What becomes of places, operations and rounds where two loops, one in the other, are interchanged.
use Rattle.std.specs.Prelude.{ℕ, ◌+◌, ◌==◌, if◌then◌else◌}
use Rattle.icode.specs.Plain.{PlainExpr, PlainParts, PlainOp, PlainBody, Sum, NoParts, AndParts, Var}
use Rattle.icode.specs.Plain.{Do, NoStmts, AndStmts}
use Rattle.nests.specs.Places.{placed_op}

-- the multiple of the loop at this depth, in front of the others, becomes one of the next loop, and the other way round
abbrev pub exchanged_first : ℕ → ℕ → PlainParts → PlainParts
exchanged_first loop factor (AndParts (Var depth inner) rest) =
    if depth == loop + 1
    then AndParts (Var loop inner) (AndParts (Var (loop + 1) factor) rest)
    else AndParts (Var (loop + 1) factor) (AndParts (Var depth inner) rest)
exchanged_first loop factor rest = AndParts (Var (loop + 1) factor) rest

-- linear parts where the loops at this depth and the next are interchanged
abbrev pub exchanged_parts : ℕ → PlainParts → PlainParts
exchanged_parts loop NoParts = NoParts
exchanged_parts loop (AndParts (Var depth factor) rest) =
    if depth == loop then exchanged_first loop factor rest
    else if depth == loop + 1 then AndParts (Var loop factor) rest
    else AndParts (Var depth factor) (exchanged_parts loop rest)
exchanged_parts loop (AndParts part rest) = AndParts part (exchanged_parts loop rest)

abbrev pub exchanged_place : ℕ → PlainExpr → PlainExpr
exchanged_place loop (Sum constant parts) = Sum constant (exchanged_parts loop parts)

-- ---- operations with other places

abbrev pub exchanged_op : ℕ → PlainOp → PlainOp
exchanged_op loop op = placed_op (exchanged_place loop) op

-- straight statements
abbrev pub exchanged_round : ℕ → PlainBody → PlainBody
exchanged_round loop NoStmts = NoStmts
exchanged_round loop (AndStmts (Do op) rest) = AndStmts (Do (exchanged_op loop op)) (exchanged_round loop rest)
exchanged_round loop (AndStmts stmt rest) = AndStmts stmt (exchanged_round loop rest)
