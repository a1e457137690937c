use Rattle.std.proofs.Common.{◌≡◌, drop}
use Rattle.icode.specs.Plain.{plain_phases}
use Rattle.loop_lanes.specs.Obstacles.{obstacle_of_phases}
use Rattle.loop_lanes.proofs.obstacles.obstacle_of_phases.Given as goal

abbrev pub invariant-loop-phase : goal.invariant-loop-phase
invariant-loop-phase l =
    obstacle_of_phases l.lanes l.phase (plain_phases (drop l.phase l.phases))
    ≡ obstacle_of_phases l.lanes 0 (plain_phases l.phases)
