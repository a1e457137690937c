use Rattle.std.proofs.Common.{◌≡◌, ◌++◌, drop}
use Rattle.icode.specs.Plain.{plain_body}
use Rattle.nests.specs.Rounds.{ops_in}
use Rattle.loop_lanes.specs.Rows.{stored_constants}
use Rattle.loop_lanes.proofs.rows.stored_constants.Given as goal

abbrev pub invariant-loop-stmt : goal.invariant-loop-stmt
invariant-loop-stmt l =
    l.constants.items ++ stored_constants (ops_in (plain_body (drop l.stmt-index l.round))) ≡ stored_constants (ops_in (plain_body l.round))
