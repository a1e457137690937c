-- Kinds of operations.
use Rattle.icode.specs.Plain.{PlainOp, Load, Store, MulTable}

-- the operation names no place of an array or of a table
abbrev pub HasNoPlace : PlainOp → Type 0
HasNoPlace (Load register array place) = ⊥
HasNoPlace (Store array place register) = ⊥
HasNoPlace (MulTable register source table place step) = ⊥
HasNoPlace _ = Unit {0}
