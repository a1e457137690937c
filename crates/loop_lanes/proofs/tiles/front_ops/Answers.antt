use Rattle.loop_lanes.specs.Views.{stored_reference}
use Rattle.loop_lanes.proofs.Made.{narrow_first}
use Rattle.loop_lanes.proofs.tiles.front_ops.Goals as goal

pub put_in_row-requires : goal.put_in_row-requires
put_in_row-requires c =
    narrow_first c.args.group.lanes c.args.group.depth (stored_reference c.args.target) c.args.columns.front.now c.loop-op.op-index c.op-item.result _
    c.requires.few c.requires.wide c.loop-op-test.true c.op-item.is c.in_ok-copy.ensures c.loop-op.invariant.by_lane
