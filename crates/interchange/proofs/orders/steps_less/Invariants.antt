use Rattle.std.proofs.Common.{◌≡◌, drop}
use Rattle.icode.specs.Plain.{plain_body}
use Rattle.nests.specs.Rounds.{first_load}
use Rattle.interchange.proofs.orders.steps_less.Given as goal

abbrev pub invariant-loop-stmt : goal.invariant-loop-stmt
invariant-loop-stmt l = first_load (plain_body (drop l.stmt-index l.round)) ≡ first_load (plain_body l.round)
