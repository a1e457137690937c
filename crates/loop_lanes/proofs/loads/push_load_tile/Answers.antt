use Rattle.loop_lanes.specs.Views.{plain_ops, load_of}
use Rattle.loop_lanes.proofs.LoadsMade.{item_more}
use Rattle.loop_lanes.proofs.loads.push_load_tile.Goals as goal

pub loop-lane-preserved : goal.loop-lane-preserved
loop-lane-preserved c =
    item_more (load_of c.args.tiles c.args.register c.args.word) c.loop-lane.lane (plain_ops c.args.ops.now.items)
    (plain_ops c.loop-lane.ops.items) (plain_ops c.push_load.new.ops.items) c.in_ok-push_load.ensures
    c.loop-lane.invariant
