-- What code makes of a nest where loops are interchanged.
use Rattle.std.specs.Prelude.{ℕ, ◌==◌, ◌&&◌, Bool, true, nat_lt, Option}
use Rattle.std.specs.Prelude.{Some, None, if◌then◌else◌}
use Rattle.icode.specs.Plain.{PlainPart, Var, PlainStmt, PlainBody, Loop, Do, NoStmts, AndStmts}
use Rattle.interchange.specs.Exchanged.{exchanged_op, exchanged_round}
use Rattle.nests.specs.Nests.{counts_in, round_in, looped}
use Rattle.interchange.specs.Interchanged.{nest_stmt, sunk, ordered}
use Rattle.nests.specs.Views.{loops_in}

-- the factor of a multiple of the value of the loop at this depth
abbrev pub factor_at : ℕ → PlainPart → Option ℕ
factor_at loop (Var depth factor) = if depth == loop then Some factor else None
factor_at loop _ = None

-- a straight statement where the loops at this depth and the next are interchanged
abbrev pub exchanged_stmt : ℕ → PlainStmt → PlainStmt
exchanged_stmt loop (Do op) = Do (exchanged_op loop op)
exchanged_stmt loop (Loop count body) = Loop count body

-- ---- the body of a loop, with the loops in it

-- the same loops, with a round where those at this depth and the next are interchanged
abbrev pub exchanged_in : ℕ → PlainBody → PlainBody
exchanged_in loop body = looped (counts_in body) (exchanged_round loop (round_in body))

-- the loop at this depth of a number of rounds of this body, gone into the others as far as is asked for
abbrev pub sunk_loop : ℕ → ℕ → PlainBody → PlainStmt
sunk_loop loop count body = nest_stmt (sunk loop count (counts_in body) (round_in body))

-- loops from this depth on in their order
abbrev pub ordered_loop : ℕ → ℕ → PlainBody → PlainStmt
ordered_loop loop count body = nest_stmt (ordered loop count (counts_in body) (round_in body))

-- ---- how many loops are one in the other

abbrev pub is_shallow : PlainStmt → Bool
is_shallow (Loop count body) = nat_lt (loops_in body) 64
is_shallow (Do op) = true

abbrev pub are_shallow : PlainBody → Bool
are_shallow NoStmts = true
are_shallow (AndStmts stmt rest) = is_shallow stmt && are_shallow rest
