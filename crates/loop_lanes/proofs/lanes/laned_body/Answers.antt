use Rattle.std.proofs.Common.{◌∙◌, refl, sym, ap, arith, List}
use Rattle.std.specs.Prelude.{map}
use Rattle.std.proofs.lemmas.List.{drop_all}
use Rattle.icode.specs.declared.program.Stmt.{Stmt}
use Rattle.icode.specs.Plain.{plain_stmt, plain_body, body_of}
use Rattle.loop_lanes.specs.Lanes.{are_lanable, laned_nest, laned_body}
use Rattle.loop_lanes.proofs.Choices.{held}
use Rattle.loop_lanes.proofs.Made.{body_laned}
use Rattle.nests.proofs.Straight.{whole}
use Rattle.loop_lanes.proofs.lanes.laned_body.Goals as goal

pub returns : goal.returns
returns c =
    let v = c.args.lanes in
    let n = c.args.regs in
    let body = c.args.body.now in
    held (are_lanable v (plain_body body)) (laned_body v n (plain_body body)) (plain_body c.loop-stmt.stmts.items)
    (sym c.loop-stmt.invariant.tests ∙ ap (λ (xs : List Stmt). are_lanable v (plain_body xs)) (drop_all c.loop-stmt.stmt-index body (omega (arith, c.loop-stmt-test.false))))
    (ap body_of (whole (λ (xs : List Stmt). map (laned_nest v n) (map plain_stmt xs)) c.loop-stmt.stmt-index body (map plain_stmt c.loop-stmt.stmts.items) (omega (arith, c.loop-stmt-test.false)) c.loop-stmt.invariant.so_far refl)
    ∙ sym (body_laned v n (map plain_stmt body)))
