-- Places that are linear in the values of the open loops.
use Rattle.std.specs.Prelude.{ℕ, ◌+◌, ◌==◌, ◌&&◌, Bool, true, false, nat_le, if◌then◌else◌}
use Rattle.icode.specs.Plain.{PlainExpr, PlainParts, PlainPart, PlainOp, Sum, NoParts, AndParts, Proc, Var}
use Rattle.icode.specs.Plain.{Load, Store, MulTable}

-- multiples of the processor's number, and after them of loops' values alone, by rising depth from the least on
abbrev pub are_linear : ℕ → PlainParts → Bool
are_linear least NoParts = true
are_linear least (AndParts (Proc factor) rest) = (least == 0) && are_linear least rest
are_linear least (AndParts (Var depth factor) rest) = nat_le least depth && are_linear (depth + 1) rest
are_linear least (AndParts _ rest) = false

abbrev pub is_linear : PlainExpr → Bool
is_linear (Sum constant parts) = are_linear 0 parts

-- how far a linear place goes in a step of the loop at this depth
abbrev pub stride : ℕ → PlainParts → ℕ
stride loop NoParts = 0
stride loop (AndParts (Var depth factor) rest) = if depth == loop then factor else stride loop rest
stride loop (AndParts _ rest) = stride loop rest

abbrev pub same_part : PlainPart → PlainPart → Bool
same_part (Proc a) (Proc b) = a == b
same_part (Var v a) (Var w b) = (v == w) && (a == b)
same_part _ _ = false

-- the same linear parts
abbrev pub same_parts : PlainParts → PlainParts → Bool
same_parts NoParts NoParts = true
same_parts (AndParts a more) (AndParts b others) = same_part a b && same_parts more others
same_parts _ _ = false

-- ---- operations with other places

-- the operation, with what becomes of its place
abbrev pub placed_op : (PlainExpr → PlainExpr) → PlainOp → PlainOp
placed_op to (Load register array place) = Load register array (to place)
placed_op to (Store array place register) = Store array (to place) register
placed_op to (MulTable register source table place step) = MulTable register source table (to place) step
placed_op to op = op
