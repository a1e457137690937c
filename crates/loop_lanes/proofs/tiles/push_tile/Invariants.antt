use Rattle.std.proofs.Common.{◌≡◌, ◌++◌, ◌∷◌, flat_map}
use Rattle.std.specs.List.{range_with_len}
use Rattle.icode.specs.Plain.{Tile}
use Rattle.loop_lanes.specs.Views.{plain_ops, row_of}
use Rattle.loop_lanes.proofs.tiles.push_tile.Given as goal

abbrev pub invariant-loop-lane : goal.invariant-loop-lane
invariant-loop-lane l =
    plain_ops l.ops.items ≡ plain_ops l.fn.ops.items ++ Tile l.register l.source ∷ flat_map (row_of l.tiles l.register l.word) (range_with_len 0 l.lane)
