use Rattle.std.proofs.Common.{◌∙◌, List, map, refl, sym, ap, arith}
use Rattle.icode.specs.declared.program.Stmt.{Stmt}
use Rattle.icode.specs.Plain.{plain_stmt, plain_body, body_of, Do}
use Rattle.coalesced_loops.specs.Coalesced.{lifted_op}
use Rattle.nests.specs.Rounds.{ops_in}
use Rattle.nests.proofs.Straight.{straight_is, whole}
use Rattle.coalesced_loops.proofs.lifts.lifted_body.Goals as goal

pub returns : goal.returns
returns c =
    let depth = c.args.depth in
    let body = c.args.body.now in
    ap body_of
    (whole (λ (stmts : List Stmt). map Do (map (lifted_op depth) (ops_in (plain_body stmts)))) c.loop-stmt.stmt-index body
    (map plain_stmt c.loop-stmt.made.items) (omega (arith, c.loop-stmt-test.false)) c.loop-stmt.invariant refl)
    ∙ sym (straight_is (map (lifted_op depth) (ops_in (plain_body body))))
