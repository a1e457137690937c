use Rattle.std.proofs.Common.{◌≡◌, drop}
use Rattle.loop_lanes.specs.Columns.{are_products}
use Rattle.loop_lanes.specs.Views.{plain_factors, plain_ops}
use Rattle.loop_lanes.proofs.columns.are_products.Given as goal

abbrev pub invariant-loop-op : goal.invariant-loop-op
invariant-loop-op l =
    (l.number ≡ l.op-index)
    × (are_products (plain_factors l.by) l.bound l.number (plain_ops (drop l.op-index l.ops))
    ≡ are_products (plain_factors l.by) l.bound 0 (plain_ops l.ops))
