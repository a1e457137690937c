use Rattle.std.proofs.Common.{◌≡◌, drop}
use Rattle.std.specs.List.{list_all}
use Rattle.icode.specs.Plain.{plain_phases}
use Rattle.nests.specs.Nests.{are_nests}
use Rattle.interchange.proofs.programs.are_all_nests.Given as goal

abbrev pub invariant-loop-body : goal.invariant-loop-body
invariant-loop-body l = list_all (are_nests l.lanes) (plain_phases (drop l.body-index l.phases)) ≡ list_all (are_nests l.lanes) (plain_phases l.phases)
