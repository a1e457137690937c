use Rattle.std.proofs.Common.{◌≡◌, ◌++◌, map, drop}
use Rattle.std.specs.List.{list_all}
use Rattle.icode.specs.Plain.{plain_phases}
use Rattle.loop_lanes.specs.Lanes.{are_lanable, laned_body}
use Rattle.loop_lanes.proofs.lanes.laned_phases.Given as goal

abbrev pub invariant-loop-phase : goal.invariant-loop-phase
invariant-loop-phase l = record {
  tests : list_all (are_lanable l.lanes) (plain_phases (drop l.phase-index l.phases)) ≡ list_all (are_lanable l.lanes)
      (plain_phases l.phases);
  so_far : plain_phases l.bodies.items ++ map (laned_body l.lanes l.regs) (plain_phases (drop l.phase-index l.phases))
      ≡ map (laned_body l.lanes l.regs) (plain_phases l.phases);
}
