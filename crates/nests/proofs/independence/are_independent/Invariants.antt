use Rattle.std.proofs.Common.{◌≡◌, drop}
use Rattle.icode.specs.Plain.{plain_body}
use Rattle.nests.specs.Rounds.{first_store}
use Rattle.nests.proofs.independence.are_independent.Given as goal

abbrev pub invariant-loop-stmt : goal.invariant-loop-stmt
invariant-loop-stmt l = first_store (plain_body (drop l.stmt-index l.round)) ≡ first_store (plain_body l.round)
