use Rattle.std.proofs.Common.{◌≡◌, drop}
use Rattle.icode.specs.Plain.{plain_body}
use Rattle.two_tables.specs.Factored.{is_body_even}
use Rattle.two_tables.proofs.even.+even.Given as goal

abbrev pub invariant-is_body_even-loop-stmt : goal.invariant-is_body_even-loop-stmt
invariant-is_body_even-loop-stmt l = is_body_even l.lanes l.table (plain_body (drop l.stmt-index l.body)) ≡ is_body_even l.lanes l.table (plain_body l.body)
