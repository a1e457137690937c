use Rattle.std.proofs.Common.{◌≡◌, drop}
use Rattle.std.specs.List.{list_all}
use Rattle.nests.specs.Views.{stored_into}
use Rattle.loop_lanes.specs.Rows.{is_by_lane}
use Rattle.loop_lanes.specs.Views.{plain_ops}
use Rattle.loop_lanes.proofs.columns.are_ops_by_lane.Given as goal

abbrev pub invariant-loop-op : goal.invariant-loop-op
invariant-loop-op l =
    list_all (is_by_lane l.depth (stored_into l.array l.parts)) (plain_ops (drop l.op-index l.ops))
    ≡ list_all (is_by_lane l.depth (stored_into l.array l.parts)) (plain_ops l.ops)
