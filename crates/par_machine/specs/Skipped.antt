-- A turn whose action somebody else does.
use Rattle.std.specs.Prelude.{ℕ}
use Rattle.icode.specs.Machine.{Code, State, turn}

-- memory and registers stay, and all else is as after the turn
abbrev pub skipped : Code → State → ℕ → State
skipped code s q =
    record (turn code s q) { memory = s.memory; registers = s.registers }
