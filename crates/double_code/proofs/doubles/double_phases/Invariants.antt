use Rattle.std.proofs.Common.{◌≡◌, take, map}
use Rattle.icode.specs.Plain.{plain_phases}
use Rattle.double_code.specs.Setting.{doubled_phase_in}
use Rattle.double_code.specs.Views.{plain_double_phases}
use Rattle.double_code.proofs.doubles.double_phases.Given as goal

abbrev pub invariant-loop-body : goal.invariant-loop-body
invariant-loop-body l =
    plain_double_phases l.made.items ≡ map (doubled_phase_in l.setting) (plain_phases (take l.body-index l.phases))
