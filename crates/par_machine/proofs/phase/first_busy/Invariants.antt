use Rattle.std.proofs.Common.{◌≡◌, ◌-◌, ◌<◌, ◌≤◌, length}
use Rattle.icode.specs.Machine.{Code, first_open}
use Rattle.par_machine.specs.Lengths.{HasLengths}
use Rattle.par_machine.proofs.phase.first_busy.Given as goal

abbrev pub invariant-loop-phase : goal.invariant-loop-phase
invariant-loop-phase l = record {
  within : l.phase ≤ length l.phases;
  same : (code : Code) → HasLengths code l.phases → 0 < code.procs →
      first_open code (length l.phases - l.phase) l.phase ≡ first_open code (length l.phases - l.from) l.from;
}

abbrev pub decreases-loop-phase : goal.decreases-loop-phase
decreases-loop-phase l = length l.phases - l.phase
