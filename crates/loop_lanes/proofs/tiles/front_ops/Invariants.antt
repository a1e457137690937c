use Rattle.std.proofs.Common.{◌≡◌, ◌++◌, true, drop}
use Rattle.std.specs.List.{list_all}
use Rattle.nests.specs.Views.{stored_into}
use Rattle.loop_lanes.specs.Rows.{is_by_lane}
use Rattle.loop_lanes.specs.Views.{plain_ops, laned_front}
use Rattle.loop_lanes.proofs.tiles.front_ops.Given as goal

abbrev pub invariant-loop-op : goal.invariant-loop-op
invariant-loop-op l = record {
  by_lane : list_all (is_by_lane l.group.depth (stored_into l.target.array l.target.parts.now))
      (plain_ops (drop l.op-index l.columns.front.now)) ≡ true;
  so_far : plain_ops l.ops.items ++ laned_front l.group.lanes l.from l.group.depth l.columns.turned.now
      (plain_ops (drop l.op-index l.columns.front.now))
      ≡ laned_front l.group.lanes l.from l.group.depth l.columns.turned.now (plain_ops l.columns.front.now);
}
