-- What a machine without buffers is lent, and what it gives back.
use Rattle.std.specs.Prelude.{◌≡◌, ℕ, ◌*◌, ◌<◌, List, length, map, replicate, slice_index}
use Rattle.icode.specs.Machine.{Code, State, padded}
use Rattle.par_machine.specs.Held.{AreFiles}
use Rattle.buffer_machine.specs.Stand.{Stand, cleared}

abbrev pub with_files : List (List ℕ) → State → State
with_files files s = record s { registers = files }

-- it goes on with this memory and these registers
abbrev pub lent : Stand → State → State
lent t s = record s { memory = t.memory; registers = t.registers }

-- its state is given back, in which nothing is done of the phase; no store waits
abbrev pub back_from : State → Stand → Stand
back_from s t =
    record {
      memory = s.memory;
      registers = s.registers;
      queues = map cleared t.queues;
      phase = s.phase;
      done = replicate (length t.done) 0;
    }

-- memory and registers that a machine can have
pub record IsHeld (code : Code) (memory : List ℕ) (registers : List (List ℕ)) : Type 0 where
  pub words : length memory ≡ 4 * padded code
  pub below : (k : ℕ) → slice_index memory k < code.modulus
  pub files : AreFiles code registers
