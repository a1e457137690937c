use Rattle.std.proofs.Common.{◌≡◌, drop}
use Rattle.icode.specs.Plain.{plain_body}
use Rattle.nests.specs.Nests.{are_nests}
use Rattle.interchange.proofs.programs.are_nests.Given as goal

abbrev pub invariant-loop-stmt : goal.invariant-loop-stmt
invariant-loop-stmt l = are_nests l.lanes (plain_body (drop l.stmt-index l.body)) ≡ are_nests l.lanes (plain_body l.body)
