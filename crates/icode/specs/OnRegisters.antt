-- Actions on registers alone.
use Rattle.std.specs.Prelude.{ℕ, List, []}
use Rattle.icode.specs.declared.action.Action.{Action}
use Rattle.icode.specs.declared.action.Action.TheVariants.{Load, Store}
use Rattle.icode.specs.Machine.{effect}

-- the action loads and stores nothing
abbrev pub ChangesRegisters : Action → Type 0
ChangesRegisters (Load r address) = ⊥
ChangesRegisters (Store address r) = ⊥
ChangesRegisters _ = Unit {0}

-- what it leaves of the registers, which memory does not change
abbrev pub registers_after : ℕ → ℕ → Action → List ℕ → List ℕ
registers_after m lanes action registers = (effect m lanes action (record { memory = []; registers = registers })).registers
