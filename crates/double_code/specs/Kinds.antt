-- Kinds of operations.
use Rattle.icode.specs.Plain.{PlainOp, Store, Add, Sub, MulConst, MulTable}

-- the bounds of what it reads need not be small
abbrev pub NeedsNoReductions : PlainOp → Type 0
NeedsNoReductions (Store array place register) = ⊥
NeedsNoReductions (Add register left right) = ⊥
NeedsNoReductions (Sub register left right) = ⊥
NeedsNoReductions (MulConst register source factor) = ⊥
NeedsNoReductions (MulTable register source table place step) = ⊥
NeedsNoReductions _ = Unit {0}
