use Rattle.std.proofs.Common.{◌≡◌, ◌<◌, ◌^◌, drop}
use Rattle.icode.specs.Plain.{plain_phases}
use Rattle.renumbered_registers.specs.Renumbered.{numbered_phases, registers_for}
use Rattle.renumbered_registers.proofs.Steps.{front_phases}
use Rattle.renumbered_registers.proofs.programs.numbered_phases.Given as goal

abbrev pub invariant-loop-body : goal.invariant-loop-body
invariant-loop-body l = record {
  so_far : front_phases (plain_phases l.made.items)
      (numbered_phases l.lanes (plain_phases (drop l.body-index l.phases)))
      ≡ numbered_phases l.lanes (plain_phases l.phases);
  room : registers_for l.lanes (plain_phases (drop l.body-index l.phases)) < 2 ^ 20;
}
