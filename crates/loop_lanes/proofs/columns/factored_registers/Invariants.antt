use Rattle.std.proofs.Common.{◌≡◌, ◌++◌, drop}
use Rattle.loop_lanes.specs.Columns.{factored_registers}
use Rattle.loop_lanes.specs.Views.{plain_ops}
use Rattle.loop_lanes.proofs.columns.factored_registers.Given as goal

abbrev pub invariant-loop-op : goal.invariant-loop-op
invariant-loop-op l =
    l.registers.items ++ factored_registers (plain_ops (drop l.op-index l.ops)) ≡ factored_registers (plain_ops l.ops)
