use Rattle.std.proofs.Common.{[]}
use Rattle.loop_lanes.specs.Views.{plain_ops, tile_number}
use Rattle.loop_lanes.proofs.Made.{grown}
use Rattle.loop_lanes.proofs.tiles.push_tiles.Goals as goal

pub loop-tile-preserved : goal.loop-tile-preserved
loop-tile-preserved c =
    grown (tile_number c.args.tiles c.args.from) c.loop-tile.tile (plain_ops c.args.ops.now.items) [] (plain_ops c.loop-tile.ops.items) (plain_ops c.push_tile.new.ops.items)
    c.in_ok-push_tile.ensures c.loop-tile.invariant
