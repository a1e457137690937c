use Rattle.std.proofs.Common.{◌≡◌, ◌++◌, drop}
use Rattle.icode.specs.Plain.{plain_body}
use Rattle.nests.specs.Rounds.{ops_in}
use Rattle.loop_lanes.specs.Rows.{stored_registers}
use Rattle.loop_lanes.proofs.rows.stored_registers.Given as goal

abbrev pub invariant-loop-stmt : goal.invariant-loop-stmt
invariant-loop-stmt l =
    l.registers.items ++ stored_registers (ops_in (plain_body (drop l.stmt-index l.round))) ≡ stored_registers (ops_in (plain_body l.round))
