use Rattle.std.proofs.Common.{◌≡◌, ◌+◌, drop}
use Rattle.loop_lanes.specs.Loads.{row_length}
use Rattle.loop_lanes.specs.Views.{plain_ops, stored_reference}
use Rattle.loop_lanes.proofs.loads.row_length.Given as goal

abbrev pub invariant-loop-op : goal.invariant-loop-op
invariant-loop-op l =
    (l.count ≡ l.op-index)
    × (l.count + row_length (stored_reference l.from) l.count (plain_ops (drop l.op-index l.ops))
    ≡ row_length (stored_reference l.from) 0 (plain_ops l.ops))
