-- The parts of a new machine.
use Rattle.std.specs.Prelude.{ℕ, ◌*◌, [], replicate}
use Rattle.buffer_machine.specs.Backlog.{Backlog}
use Rattle.buffer_machine.specs.Stand.{Stand}

-- no store waits: how many there is room for, how many words each has, and how many the memory has
abbrev pub empty_queue : ℕ → ℕ → ℕ → Backlog
empty_queue lanes most span = record { lanes = lanes; waiting = []; room = most; most = most; span = span }

-- all words 0, nothing done, and queues with room for a number of stores
abbrev pub zero_stand : ℕ → ℕ → ℕ → ℕ → ℕ → Stand
zero_stand room procs words lanes most =
    record {
      memory = replicate (4 * room) 0;
      registers = replicate procs (replicate words 0);
      queues = replicate procs (empty_queue lanes most (4 * room));
      phase = 0;
      done = replicate procs 0;
    }
