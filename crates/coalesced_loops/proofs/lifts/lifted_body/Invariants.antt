use Rattle.std.proofs.Common.{◌≡◌, ◌++◌, drop, map}
use Rattle.icode.specs.Plain.{plain_stmt, plain_body, Do}
use Rattle.coalesced_loops.specs.Coalesced.{lifted_op}
use Rattle.nests.specs.Rounds.{ops_in}
use Rattle.coalesced_loops.proofs.lifts.lifted_body.Given as goal

abbrev pub invariant-loop-stmt : goal.invariant-loop-stmt
invariant-loop-stmt l =
    map plain_stmt l.made.items ++ map Do (map (lifted_op l.depth) (ops_in (plain_body (drop l.stmt-index l.body))))
    ≡ map Do (map (lifted_op l.depth) (ops_in (plain_body l.body)))
