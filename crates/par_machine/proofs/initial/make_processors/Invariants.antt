use Rattle.std.proofs.Common.{◌≡◌, ◌-◌, ◌≤◌, length, replicate}
use Rattle.par_machine.specs.Processors.{fresh}
use Rattle.par_machine.proofs.initial.make_processors.Given as goal

abbrev pub invariant-loop-alloc : goal.invariant-loop-alloc
invariant-loop-alloc l = record {
  as_new : l.processors.items ≡ replicate (length l.processors.items) (fresh l.words);
  few : length l.processors.items ≤ l.procs;
}

abbrev pub decreases-loop-alloc : goal.decreases-loop-alloc
decreases-loop-alloc l = l.procs - length l.processors.items
