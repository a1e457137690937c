use Rattle.std.proofs.Common.{◌≡◌, ◌-◌, ◌≤◌, length, replicate}
use Rattle.buffer_machine.specs.Fresh.{empty_queue}
use Rattle.buffer_machine.proofs.make.make_queues.Given as goal

abbrev pub invariant-loop-alloc : goal.invariant-loop-alloc
invariant-loop-alloc l = record {
  alike : l.queues.items ≡ replicate (length l.queues.items) (empty_queue l.lanes l.most l.span);
  few : length l.queues.items ≤ l.procs;
}

abbrev pub decreases-loop-alloc : goal.decreases-loop-alloc
decreases-loop-alloc l = l.procs - length l.queues.items
