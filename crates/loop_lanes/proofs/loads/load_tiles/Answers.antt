use Rattle.std.proofs.Common.{◌*◌, []}
use Rattle.loop_lanes.specs.Views.{plain_ops, load_tile_of}
use Rattle.loop_lanes.proofs.Made.{grown}
use Rattle.loop_lanes.proofs.loads.load_tiles.Goals as goal

pub loop-tile-preserved : goal.loop-tile-preserved
loop-tile-preserved c =
    grown (λ g. load_tile_of c.args.tiles c.args.register (g * c.args.tiles.group.lanes)) c.loop-tile.tile [] []
    (plain_ops c.loop-tile.ops.items) (plain_ops c.push_load_tile.new.ops.items) c.in_ok-push_load_tile.ensures
    c.loop-tile.invariant
