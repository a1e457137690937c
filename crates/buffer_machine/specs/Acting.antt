-- The registers of a processor that does an action.
use Rattle.std.specs.Prelude.{ℕ, List}
use Rattle.icode.specs.declared.action.Action.{Action}
use Rattle.icode.specs.Machine.{effect}

-- what it leaves of them, on this memory
abbrev pub registers_on : ℕ → ℕ → Action → List ℕ → List ℕ → List ℕ
registers_on m lanes action memory registers = (effect m lanes action (record { memory = memory; registers = registers })).registers
