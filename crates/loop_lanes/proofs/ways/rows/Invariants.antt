use Rattle.std.proofs.Common.{◌≡◌, ◌++◌, true, drop}
use Rattle.std.specs.List.{list_all}
use Rattle.loop_lanes.specs.Rows.{is_by_lane}
use Rattle.loop_lanes.specs.Views.{plain_ops, rows_of, stored_reference}
use Rattle.loop_lanes.proofs.ways.rows.Given as goal

abbrev pub invariant-loop-op : goal.invariant-loop-op
invariant-loop-op l = record {
  by_lane : list_all (is_by_lane l.group.depth (stored_reference l.target)) (plain_ops (drop l.op-index l.ops)) ≡ true;
  so_far : plain_ops l.rows.items ++ rows_of l.group.lanes l.group.depth (plain_ops (drop l.op-index l.ops))
      ≡ rows_of l.group.lanes l.group.depth (plain_ops l.ops);
}
