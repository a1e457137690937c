-- What an action of a processor needs.
use Rattle.std.specs.Prelude.{◌≡◌, ℕ, ◌+◌, ◌*◌, ◌^◌, ◌<◌, ◌≤◌, [], ◌∷◌, length, slice_index, slice_index_or}
use Rattle.icode.specs.declared.action.Action.{Action}
use Rattle.icode.specs.Actions.{RegistersFit, FactorsFit}
use Rattle.icode.specs.Buffers.{stores_among}
use Rattle.icode.specs.Operation.{AddressFits}
use Rattle.buffer_machine.specs.Stand.{Stand, backlog_at}

-- processor q can do the action, whose registers, factors and address are there; its queue has room
pub record CanAct (m lanes regs q : ℕ) (a : Action) (t : Stand) : Type 0 where
  pub registers : q < length t.registers
  pub queues : q < length t.queues
  pub dones : q < length t.done
  pub few : slice_index t.done q + 1 < 2 ^ 64
  pub named : RegistersFit regs lanes a
  pub factors : FactorsFit m a
  pub address : AddressFits lanes (length t.memory) a
  pub file : length (slice_index_or t.registers q []) ≡ regs * lanes
  pub residues : (k : ℕ) → slice_index (slice_index_or t.registers q []) k < m
  pub room : stores_among (a ∷ []) ≤ (backlog_at t.queues q).room
  pub span : (backlog_at t.queues q).span ≡ length t.memory
  pub lanes_are : (backlog_at t.queues q).lanes ≡ lanes
