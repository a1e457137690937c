use Rattle.std.proofs.Common.{◌≡◌, ◌++◌, map, drop}
use Rattle.icode.specs.Plain.{plain_stmt, Do}
use Rattle.loop_lanes.specs.Views.{plain_ops}
use Rattle.loop_lanes.proofs.loops.straight.Given as goal

abbrev pub invariant-loop-op : goal.invariant-loop-op
invariant-loop-op l =
    map plain_stmt l.stmts.items ++ map Do (plain_ops (drop l.op-index l.ops)) ≡ map Do (plain_ops l.ops)
