use Rattle.std.proofs.Common.{◌≡◌, drop}
use Rattle.std.specs.List.{list_all}
use Rattle.icode.specs.Plain.{plain_phases}
use Rattle.two_tables.specs.Factored.{is_short}
use Rattle.two_tables.proofs.room.are_short.Given as goal

abbrev pub invariant-loop-phase : goal.invariant-loop-phase
invariant-loop-phase l = list_all is_short (plain_phases (drop l.phase l.program.phases.items)) ≡ list_all is_short (plain_phases l.program.phases.items)
