use Rattle.std.proofs.Common.{◌≡◌, take, map}
use Rattle.icode.specs.Plain.{plain_phases}
use Rattle.two_tables.specs.Factored.{factored_body}
use Rattle.two_tables.specs.Views.{plain_split}
use Rattle.two_tables.proofs.split.split_phases.Given as goal

abbrev pub invariant-loop-body : goal.invariant-loop-body
invariant-loop-body l = plain_phases l.made.items ≡ map (factored_body (plain_split l.split)) (plain_phases (take l.body-index l.phases))
