-- Rounds of a loop: straight statements. What makes rounds independent of one another.
use Rattle.std.specs.Prelude.{ℕ, ◌+◌, ◌*◌, ◌==◌, ◌&&◌, Bool, true, false, not, nat_le, List, [], ◌∷◌}
use Rattle.std.specs.Prelude.{nat_lt, Option, Some, None}
use Rattle.icode.specs.Plain.{PlainParts, PlainOp, PlainBody, Sum, Load, Store}
use Rattle.icode.specs.Plain.{Zero, Add, Sub, Neg, MulConst, MulTable, Tile, Loop, Do, NoStmts, AndStmts}
use Rattle.nests.specs.Places.{is_linear, stride, same_parts, are_linear}
use Rattle.icode.specs.Actions.{array_start}
use Rattle.icode.specs.declared.program.Array.{Array}

-- ---- registers

-- the operation puts the next register, or those from it on, and reads registers before it
abbrev pub is_fresh : ℕ → ℕ → PlainOp → Bool
is_fresh lanes next (Load r array place) = r == next
is_fresh lanes next (Store array place r) = nat_lt r next
is_fresh lanes next (Zero r) = r == next
is_fresh lanes next (Add r x y) = (r == next) && (nat_lt x next && nat_lt y next)
is_fresh lanes next (Sub r x y) = (r == next) && (nat_lt x next && nat_lt y next)
is_fresh lanes next (Neg r x) = (r == next) && nat_lt x next
is_fresh lanes next (MulConst r x factor) = (r == next) && nat_lt x next
is_fresh lanes next (MulTable r x table place step) = (r == next) && nat_lt x next
is_fresh lanes next (Tile r x) = (r == next) && nat_le (x + lanes) next

-- how many registers have been put after it
abbrev pub put_after : ℕ → ℕ → PlainOp → ℕ
put_after lanes next (Store array place r) = next
put_after lanes next (Tile r x) = next + lanes
put_after lanes next op = next + 1

-- straight statements, which read no register that they have not put
abbrev pub are_fresh : ℕ → ℕ → PlainBody → Bool
are_fresh lanes next NoStmts = true
are_fresh lanes next (AndStmts (Do op) rest) = is_fresh lanes next op && are_fresh lanes (put_after lanes next op) rest
are_fresh lanes next (AndStmts (Loop count body) rest) = false

-- ---- places

abbrev pub same_array : Array → Array → Bool
same_array a b = array_start 1 a == array_start 1 b

-- what a round stores: into which array, and by which parts of its places
pub record Stored : Type 0 where
  pub array : Array
  pub parts : PlainParts

-- where the first store of the statements goes
abbrev pub first_store : PlainBody → Option Stored
first_store NoStmts = None
first_store (AndStmts (Do (Store array (Sum constant parts) register)) rest) =
    Some (record { array = array; parts = parts })
first_store (AndStmts stmt rest) = first_store rest

-- the parts of the place of the first load
abbrev pub first_load : PlainBody → Option PlainParts
first_load NoStmts = None
first_load (AndStmts (Do (Load register array (Sum constant parts))) rest) = Some parts
first_load (AndStmts stmt rest) = first_load rest

-- places are linear, loads are from another array than the stores, and these are all by the same parts, within a step
abbrev pub is_placed : ℕ → Stored → ℕ → PlainOp → Bool
is_placed lanes to step (Load r array place) = not (same_array array to.array) && is_linear place
is_placed lanes to step (Store array (Sum constant parts) r) =
    same_array array to.array && (same_parts parts to.parts && nat_le (constant + lanes) step)
is_placed lanes to step (MulTable r x table place entries) = is_linear place
is_placed lanes to step op = true

abbrev pub are_placed : ℕ → Stored → ℕ → PlainBody → Bool
are_placed lanes to step NoStmts = true
are_placed lanes to step (AndStmts (Do op) rest) = is_placed lanes to step op && are_placed lanes to step rest
are_placed lanes to step (AndStmts (Loop count body) rest) = false

-- the counts of loops one in the other, from this depth on: a step of each is as wide as all rounds of the next
abbrev pub are_nested : ℕ → List ℕ → PlainParts → Bool
are_nested loop [] parts = true
are_nested loop (count ∷ []) parts = true
are_nested loop (count ∷ inner ∷ counts) parts =
    nat_le (inner * stride (loop + 1) parts) (stride loop parts) && are_nested (loop + 1) (inner ∷ counts) parts

-- how far a linear place goes in a round of the innermost of loops from this depth on
abbrev pub last_stride : ℕ → List ℕ → PlainParts → ℕ
last_stride loop [] parts = 0
last_stride loop (count ∷ []) parts = stride loop parts
last_stride loop (count ∷ inner ∷ counts) parts = last_stride (loop + 1) (inner ∷ counts) parts

-- the rounds of loops of these counts, one in the other, store into words of their own
abbrev pub are_apart : ℕ → List ℕ → Stored → PlainBody → Bool
are_apart lanes counts to round =
    are_linear 0 to.parts && (are_nested 0 counts to.parts && are_placed lanes to (last_stride 0 counts to.parts) round)

abbrev pub are_independent : ℕ → List ℕ → Option Stored → PlainBody → Bool
are_independent lanes counts None round = false
are_independent lanes counts (Some to) round = are_apart lanes counts to round

-- ---- straight statements

abbrev pub straight : List PlainOp → PlainBody
straight [] = NoStmts
straight (op ∷ ops) = AndStmts (Do op) (straight ops)

abbrev pub ops_in : PlainBody → List PlainOp
ops_in NoStmts = []
ops_in (AndStmts (Do op) rest) = op ∷ ops_in rest
ops_in (AndStmts (Loop count body) rest) = ops_in rest
