use Rattle.std.proofs.Common.{◌≡◌, drop}
use Rattle.icode.specs.Buffers.{some_wait}
use Rattle.buffer_machine.specs.Stand.{waits_of}
use Rattle.buffer_machine.proofs.settle.some_wait.Given as goal

abbrev pub invariant-loop-queue : goal.invariant-loop-queue
invariant-loop-queue l = some_wait (waits_of (drop l.queue-index l.queues)) ≡ some_wait (waits_of l.queues)
