use Rattle.std.proofs.Common.{◌≡◌, ◌≤◌, ◌+◌, drop, length}
use Rattle.icode.specs.Plain.{plain_body}
use Rattle.nests.specs.Rounds.{ops_in}
use Rattle.loop_lanes.specs.Rows.{stores}
use Rattle.loop_lanes.proofs.columns.count_stores.Given as goal

abbrev pub invariant-loop-stmt : goal.invariant-loop-stmt
invariant-loop-stmt l =
    (l.count ≤ l.stmt-index)
    × (l.count + length (stores (ops_in (plain_body (drop l.stmt-index l.round)))) ≡ length (stores (ops_in (plain_body l.round))))
