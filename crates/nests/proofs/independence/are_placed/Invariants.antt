use Rattle.std.proofs.Common.{◌≡◌, drop}
use Rattle.icode.specs.Plain.{plain_body}
use Rattle.nests.specs.Rounds.{are_placed}
use Rattle.nests.specs.Views.{stored_into}
use Rattle.nests.proofs.independence.are_placed.Given as goal

abbrev pub invariant-loop-stmt : goal.invariant-loop-stmt
invariant-loop-stmt l = are_placed l.lanes (stored_into l.array l.parts) l.step (plain_body (drop l.stmt-index l.round)) ≡ are_placed l.lanes (stored_into l.array l.parts) l.step (plain_body l.round)
