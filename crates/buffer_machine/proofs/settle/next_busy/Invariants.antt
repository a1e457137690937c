use Rattle.std.proofs.Common.{◌≡◌, ◌-◌, ◌≤◌, length}
use Rattle.buffer_machine.specs.Stand.{first_busy}
use Rattle.buffer_machine.proofs.settle.next_busy.Given as goal

abbrev pub invariant-loop-phase : goal.invariant-loop-phase
invariant-loop-phase l = record {
  within : l.phase ≤ length l.lens;
  same : first_busy l.lens (length l.lens - l.phase) l.phase ≡ first_busy l.lens (length l.lens - l.from) l.from;
}

abbrev pub decreases-loop-phase : goal.decreases-loop-phase
decreases-loop-phase l = length l.lens - l.phase
