use Rattle.std.proofs.Common.{◌≡◌, drop}
use Rattle.std.specs.List.{list_all}
use Rattle.icode.specs.Plain.{plain_body}
use Rattle.nests.specs.Views.{stored_into}
use Rattle.loop_lanes.specs.Rows.{is_by_lane, stores}
use Rattle.nests.specs.Rounds.{ops_in}
use Rattle.loop_lanes.proofs.columns.are_stores_by_lane.Given as goal

abbrev pub invariant-loop-stmt : goal.invariant-loop-stmt
invariant-loop-stmt l =
    list_all (is_by_lane l.depth (stored_into l.array l.parts)) (stores (ops_in (plain_body (drop l.stmt-index l.round))))
    ≡ list_all (is_by_lane l.depth (stored_into l.array l.parts)) (stores (ops_in (plain_body l.round)))
