use Rattle.std.proofs.Common.{◌≡◌, ◌++◌, drop, take, map, length}
use Rattle.buffer_machine.specs.Stand.{cleared}
use Rattle.buffer_machine.proofs.settle.clear_queues.Given as goal

abbrev pub invariant-loop-queue : goal.invariant-loop-queue
invariant-loop-queue l = record {
  same : length l.queues ≡ length l.fn.queues;
  so_far : l.queues ≡ map cleared (take l.queue-index l.fn.queues) ++ drop l.queue-index l.fn.queues;
}
