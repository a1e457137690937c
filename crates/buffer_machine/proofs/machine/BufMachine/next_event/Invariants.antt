use Rattle.std.proofs.Common.{ℕ, ◌<◌}
use Rattle.icode.specs.Buffers.{IsIdle}
use Rattle.buffer_machine.specs.Stand.{buffered_of}
use Rattle.buffer_machine.proofs.machine.BufMachine.next_event.Given as goal

abbrev pub invariant-loop-proc : goal.invariant-loop-proc
invariant-loop-proc l = (q : ℕ) → q < l.proc → IsIdle l.self-inside.walker.code (buffered_of l.self-inside.values) q
