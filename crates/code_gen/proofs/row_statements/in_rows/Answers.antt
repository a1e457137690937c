use Rattle.std.proofs.Common.{◌+◌, List, [], ◌∷◌, ap, ap₂, ◌∙◌}
use Rattle.icode.specs.declared.program.Stmt.{Stmt}
use Rattle.icode.specs.Plain.{PlainBody, NoStmts, AndStmts, Do, Zero, plain_body}
use Rattle.code_gen.specs.PassCode.Statements.{finish_body, followed_by, nested}
use Rattle.sigma_spl.specs.Views.{plain_nest}
use Rattle.code_gen.specs.Views.{plain_frame}
use Rattle.code_gen.proofs.PlainRules.{plain-append}
use Rattle.code_gen.proofs.row_statements.in_rows.Goals as goal

pub returns : goal.returns
returns c =
    let size = c.args.size in
    let s = c.args.site in
    let z = plain_nest c.args.nest.now in
    let sum : List Stmt = c.in_ok-sum.sum.items in
    let finish : PlainBody = finish_body (plain_frame s.frame) 0 z.multiplier z.scatters (s.open_loops + 1) s.table s.target 0 0 3 in
    c.in_ok-rows.ensures
    ∙ ap (nested (size ∷ []))
    (c.in_ok-put_output.ensures
    ∙ ap (λ (b : PlainBody). followed_by b finish)
    (ap plain_body c.in_ok-append.ensures.items
    ∙ plain-append c.put_op.new.out.items sum
    ∙ ap₂ followed_by (c.in_ok-put_op.ensures ∙ ap (λ (xs : List Stmt). followed_by (plain_body xs) (AndStmts (Do (Zero 0)) NoStmts)) c.new-row.ensures.items) c.in_ok-sum.ensures))
