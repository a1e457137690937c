use Rattle.std.proofs.Common.{◌≡◌, ◌++◌, flat_map}
use Rattle.std.specs.List.{range_with_len}
use Rattle.loop_lanes.specs.Views.{plain_ops, tile_number}
use Rattle.loop_lanes.proofs.tiles.push_tiles.Given as goal

abbrev pub invariant-loop-tile : goal.invariant-loop-tile
invariant-loop-tile l =
    plain_ops l.ops.items ≡ plain_ops l.fn.ops.items ++ flat_map (tile_number l.tiles l.from) (range_with_len 0 l.tile)
