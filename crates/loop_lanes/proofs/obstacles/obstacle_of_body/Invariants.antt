use Rattle.std.proofs.Common.{◌≡◌, drop}
use Rattle.icode.specs.Plain.{plain_body}
use Rattle.loop_lanes.specs.Obstacles.{obstacle_of_body}
use Rattle.loop_lanes.proofs.obstacles.obstacle_of_body.Given as goal

abbrev pub invariant-loop-number : goal.invariant-loop-number
invariant-loop-number l =
    obstacle_of_body l.lanes l.phase l.number (plain_body (drop l.number l.body))
    ≡ obstacle_of_body l.lanes l.phase 0 (plain_body l.body)
