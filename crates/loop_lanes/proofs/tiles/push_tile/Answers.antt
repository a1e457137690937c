use Rattle.std.proofs.Common.{[], ◌∷◌}
use Rattle.icode.specs.Plain.{Tile}
use Rattle.loop_lanes.specs.Views.{plain_ops, row_of}
use Rattle.loop_lanes.proofs.Made.{grown}
use Rattle.loop_lanes.proofs.tiles.push_tile.Goals as goal

pub loop-lane-preserved : goal.loop-lane-preserved
loop-lane-preserved c =
    grown (row_of c.args.tiles c.args.register c.args.word) c.loop-lane.lane (plain_ops c.args.ops.now.items) (Tile c.args.register c.args.source ∷ [])
    (plain_ops c.loop-lane.ops.items) (plain_ops c.push_row.new.ops.items) c.in_ok-push_row.ensures c.loop-lane.invariant
