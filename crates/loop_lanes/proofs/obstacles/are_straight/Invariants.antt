use Rattle.std.proofs.Common.{◌≡◌, drop}
use Rattle.icode.specs.Plain.{plain_body}
use Rattle.loop_lanes.specs.Obstacles.{are_straight}
use Rattle.loop_lanes.proofs.obstacles.are_straight.Given as goal

abbrev pub invariant-loop-stmt : goal.invariant-loop-stmt
invariant-loop-stmt l = are_straight (plain_body (drop l.stmt-index l.round)) ≡ are_straight (plain_body l.round)
