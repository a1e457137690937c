use Rattle.std.proofs.Common.{◌≡◌, ◌≤◌, drop}
use Rattle.icode.specs.Plain.{plain_body}
use Rattle.nests.specs.Rounds.{ops_in}
use Rattle.loop_lanes.specs.Rows.{stored_constants, are_from}
use Rattle.loop_lanes.proofs.columns.are_stored_in_order.Given as goal

abbrev pub invariant-loop-stmt : goal.invariant-loop-stmt
invariant-loop-stmt l =
    (l.next ≤ l.stmt-index)
    × (are_from l.next (stored_constants (ops_in (plain_body (drop l.stmt-index l.round))))
    ≡ are_from 0 (stored_constants (ops_in (plain_body l.round))))
