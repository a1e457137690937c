use Rattle.std.proofs.Common.{◌≡◌, drop}
use Rattle.std.specs.List.{list_all}
use Rattle.icode.specs.Plain.{plain_phases}
use Rattle.two_tables.specs.Factored.{is_body_even}
use Rattle.two_tables.proofs.even.are_phases_even.Given as goal

abbrev pub invariant-loop-body : goal.invariant-loop-body
invariant-loop-body l = list_all (is_body_even l.lanes l.table) (plain_phases (drop l.body-index l.phases)) ≡ list_all (is_body_even l.lanes l.table) (plain_phases l.phases)
