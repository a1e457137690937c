-- What a drain changes before the phase moves on.
use Rattle.std.specs.Prelude.{◌≡◌, ℕ, slice_set}
use Rattle.buffer_machine.specs.Backlog.{Backlog}
use Rattle.buffer_machine.specs.Stand.{Stand, backlog_at}
use Rattle.buffer_machine.specs.Waits.{IsDrained}

pub record IsWritten (q : ℕ) (before after : Stand) (address : ℕ) : Type 0 where
  pub queue : Backlog
  pub drained : IsDrained (backlog_at before.queues q) queue before.memory after.memory address
  pub queues : after.queues ≡ slice_set before.queues q queue
  pub registers : after.registers ≡ before.registers
  pub phase : after.phase ≡ before.phase
  pub done : after.done ≡ before.done
