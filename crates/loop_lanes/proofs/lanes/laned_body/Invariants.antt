use Rattle.std.proofs.Common.{◌≡◌, ◌++◌, map, drop}
use Rattle.icode.specs.Plain.{plain_stmt, plain_body}
use Rattle.loop_lanes.specs.Lanes.{are_lanable, laned_nest}
use Rattle.loop_lanes.proofs.lanes.laned_body.Given as goal

abbrev pub invariant-loop-stmt : goal.invariant-loop-stmt
invariant-loop-stmt l = record {
  tests : are_lanable l.lanes (plain_body (drop l.stmt-index l.body)) ≡ are_lanable l.lanes (plain_body l.body);
  so_far : map plain_stmt l.stmts.items ++ map (laned_nest l.lanes l.regs) (map plain_stmt (drop l.stmt-index l.body))
      ≡ map (laned_nest l.lanes l.regs) (map plain_stmt l.body);
}
