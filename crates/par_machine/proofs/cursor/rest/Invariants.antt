use Rattle.std.proofs.Common.{◌≡◌, ◌-◌, ◌≤◌, drop, length}
use Rattle.par_machine.specs.Position.{resting}
use Rattle.par_machine.proofs.cursor.rest.Given as goal

abbrev pub invariant-loop-at : goal.invariant-loop-at
invariant-loop-at l = record {
  within : l.at ≤ length l.code;
  counters : length l.values ≡ 64;
  same : resting (drop l.at l.code) l.at l.values ≡ resting (drop l.from l.code) l.from l.fn.values;
}

abbrev pub decreases-loop-at : goal.decreases-loop-at
decreases-loop-at l = length l.code - l.at
