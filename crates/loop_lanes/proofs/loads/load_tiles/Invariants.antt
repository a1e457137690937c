use Rattle.std.proofs.Common.{◌≡◌, ◌*◌, flat_map}
use Rattle.std.specs.List.{range_with_len}
use Rattle.loop_lanes.specs.Views.{plain_ops, load_tile_of}
use Rattle.loop_lanes.proofs.loads.load_tiles.Given as goal

abbrev pub invariant-loop-tile : goal.invariant-loop-tile
invariant-loop-tile l =
    plain_ops l.ops.items
    ≡ flat_map (λ g. load_tile_of l.tiles l.register (g * l.tiles.group.lanes)) (range_with_len 0 l.tile)
