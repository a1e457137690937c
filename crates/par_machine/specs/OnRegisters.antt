-- Operations on registers.
use Rattle.std.specs.Prelude.{ℕ, ◌+◌}
use Rattle.icode.specs.declared.action.Counts.{Counts}
use Rattle.icode.specs.Plain.{PlainOp, Load, Store, Zero, MulConst, MulTable, Tile}

-- the operation loads and stores nothing
abbrev pub IsOnRegisters : PlainOp → Type 0
IsOnRegisters (Load register array place) = ⊥
IsOnRegisters (Store array place register) = ⊥
IsOnRegisters _ = Unit {0}

-- how many operations on words it counts as
abbrev pub operations_of : ℕ → PlainOp → ℕ
operations_of lanes (Load register array place) = 0
operations_of lanes (Store array place register) = 0
operations_of lanes (Zero register) = 0
operations_of lanes (Tile register source) = 0
operations_of lanes _ = lanes

-- how many multiplications of words are among them
abbrev pub muls_of : ℕ → PlainOp → ℕ
muls_of lanes (MulConst register source factor) = lanes
muls_of lanes (MulTable register source table place step) = lanes
muls_of lanes _ = 0

-- what it leaves of the counts
abbrev pub counted_op : ℕ → PlainOp → Counts → Counts
counted_op lanes (Load register array place) c = record c { loads = c.loads + lanes }
counted_op lanes (Store array place register) c = record c { stores = c.stores + lanes }
counted_op lanes (Zero register) c = c
counted_op lanes (Tile register source) c = c
counted_op lanes (MulConst register source factor) c = record c { operations = c.operations + lanes; muls = c.muls + lanes }
counted_op lanes (MulTable register source table place step) c = record c { operations = c.operations + lanes; muls = c.muls + lanes }
counted_op lanes _ c = record c { operations = c.operations + lanes }
