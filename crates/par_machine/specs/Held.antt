-- What a machine's memory and registers hold.
use Rattle.std.specs.Prelude.{◌≡◌, ℕ, ◌*◌, ◌<◌, List, [], length, slice_index, slice_index_or, slice_set}
use Rattle.icode.specs.Machine.{Code, State}

-- the registers of all processors, whose words are residues
pub record AreFiles (code : Code) (registers : List (List ℕ)) : Type 0 where
  pub count : length registers ≡ code.procs
  pub size : (q : ℕ) → q < code.procs → length (slice_index_or registers q []) ≡ code.regs * code.lanes
  pub below : (q k : ℕ) → slice_index (slice_index_or registers q []) k < code.modulus

-- other words in memory, or in the registers of processor q
abbrev pub with_memory : List ℕ → State → State
with_memory words s = record s { memory = words }

abbrev pub with_file : ℕ → List ℕ → State → State
with_file q words s = record s { registers = slice_set s.registers q words }
