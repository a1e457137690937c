use Rattle.std.proofs.Common.{◌≡◌, ◌++◌, map}
use Rattle.std.specs.List.{range_with_len}
use Rattle.loop_lanes.specs.Views.{plain_ops, load_of}
use Rattle.loop_lanes.proofs.loads.push_load_tile.Given as goal

abbrev pub invariant-loop-lane : goal.invariant-loop-lane
invariant-loop-lane l =
    plain_ops l.ops.items
    ≡ plain_ops l.fn.ops.items ++ map (load_of l.tiles l.register l.word) (range_with_len 0 l.lane)
