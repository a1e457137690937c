-- What an instruction keeps.
use Rattle.std.specs.Prelude.{ℕ, ◌<◌, ◌≤◌, IsTrue}
use Rattle.icode.specs.Plain.{plain_op}
use Rattle.icode.specs.Limits.{is_op_within}
use Rattle.par_machine.specs.declared.cursor.Instruction.{Instruction}
use Rattle.par_machine.specs.declared.cursor.Instruction.TheVariants.{Act, Again}

-- its loop has a counter
abbrev pub IsClosed : Instruction → Type 0
IsClosed (Act op depth) = depth ≤ 64
IsClosed (Again start last depth) = depth < 64

-- its operation is within the limits of a program of this modulus
abbrev pub IsWithin : ℕ → Instruction → Type 0
IsWithin m (Act op depth) = IsTrue (is_op_within m (plain_op op) depth)
IsWithin m (Again start last depth) = Unit {0}
