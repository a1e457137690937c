use Rattle.std.proofs.Common.{◌≡◌, ◌++◌, drop}
use Rattle.icode.specs.Plain.{plain_body}
use Rattle.nests.specs.Rounds.{ops_in}
use Rattle.loop_lanes.specs.Views.{plain_ops}
use Rattle.loop_lanes.proofs.ways.copied_ops.Given as goal

abbrev pub invariant-loop-stmt : goal.invariant-loop-stmt
invariant-loop-stmt l =
    plain_ops l.ops.items ++ ops_in (plain_body (drop l.stmt-index l.round)) ≡ ops_in (plain_body l.round)
