-- What the code's values are among the definitions, and the loops in a body as code sees them.
use Rattle.std.specs.Prelude.{ℕ, ◌+◌, ◌*◌, ◌&&◌, Bool, true, false, nat_le, List, length, map, Option}
use Rattle.std.specs.Prelude.{Some, None}
use Rattle.icode.specs.declared.program.Array.{Array}
use Rattle.icode.specs.declared.program.Part.{Part}
use Rattle.icode.specs.Plain.{PlainParts, PlainBody, Loop, NoStmts, AndStmts, parts_of}
use Rattle.icode.specs.Plain.{plain_part}
use Rattle.nests.specs.Places.{are_linear, stride}
use Rattle.nests.specs.Nests.{counts_in}
use Rattle.nests.specs.Rounds.{Stored, are_placed}

abbrev pub plain_parts : List Part → PlainParts
plain_parts parts = parts_of (map plain_part parts)

-- a round that stores into the array, by these parts
abbrev pub stored_into : Array → List Part → Stored
stored_into array parts = record { array = array; parts = plain_parts parts }

-- ---- the body of a loop, with the loops in it

-- how many loops stand one in the other
abbrev pub loops_in : PlainBody → ℕ
loops_in body = length (counts_in body)

-- a step of the loop at this depth, of this body, is as wide as all rounds of the next, and so on inward
abbrev pub are_nested_in : ℕ → PlainBody → PlainParts → Bool
are_nested_in loop (AndStmts (Loop inner body) NoStmts) parts =
    nat_le (inner * stride (loop + 1) parts) (stride loop parts) && are_nested_in (loop + 1) body parts
are_nested_in loop body parts = true

-- how far a linear place goes in a round of the innermost loop, from this depth on
abbrev pub last_stride_in : ℕ → PlainBody → PlainParts → ℕ
last_stride_in loop (AndStmts (Loop inner body) NoStmts) parts = last_stride_in (loop + 1) body parts
last_stride_in loop body parts = stride loop parts

-- the rounds of the outermost loop, of this body, and of those in it, store into words of their own
abbrev pub are_apart_in : ℕ → PlainBody → Stored → PlainBody → Bool
are_apart_in lanes body to round =
    are_linear 0 to.parts
    && (are_nested_in 0 body to.parts && are_placed lanes to (last_stride_in 0 body to.parts) round)

abbrev pub are_independent_in : ℕ → PlainBody → Option Stored → PlainBody → Bool
are_independent_in lanes body None round = false
are_independent_in lanes body (Some to) round = are_apart_in lanes body to round

-- one loop and nothing else
abbrev pub one_loop : ℕ → PlainBody → PlainBody
one_loop count body = AndStmts (Loop count body) NoStmts
