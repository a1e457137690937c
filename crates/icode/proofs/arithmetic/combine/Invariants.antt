use Rattle.std.proofs.Common.{◌≡◌, take, length}
use Rattle.icode.specs.Machine.{lane_by_lane}
use Rattle.icode.specs.Operation.{operated}
use Rattle.icode.proofs.arithmetic.combine.Given as goal

abbrev pub invariant-loop-lane : goal.invariant-loop-lane
invariant-loop-lane l = record {
  whole : length l.values ≡ 16;
  combined : take l.lane l.values ≡ lane_by_lane (operated l.operation l.modulus) (take l.lane l.left)
      (take l.lane l.right);
}
