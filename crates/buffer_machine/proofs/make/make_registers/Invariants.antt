use Rattle.std.proofs.Common.{◌≡◌, ◌-◌, ◌≤◌, length, replicate}
use Rattle.buffer_machine.proofs.make.make_registers.Given as goal

abbrev pub invariant-loop-alloc : goal.invariant-loop-alloc
invariant-loop-alloc l = record {
  zeros : l.files.items ≡ replicate (length l.files.items) (replicate l.count 0);
  few : length l.files.items ≤ l.procs;
}

abbrev pub decreases-loop-alloc : goal.decreases-loop-alloc
decreases-loop-alloc l = l.procs - length l.files.items
