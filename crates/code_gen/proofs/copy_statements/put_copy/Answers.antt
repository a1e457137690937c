use Rattle.std.proofs.Common.{List, map, ap, ◌∙◌}
use Rattle.icode.specs.Plain.{PlainBody, PlainExpr, AndStmts, Do, Load, plain_expr}
use Rattle.code_gen.specs.PassCode.Statements.{followed_by, place_at}
use Rattle.perm_algebra.specs.Views.{plain_sum}
use Rattle.perm_algebra.specs.declared.Affine.{Affine}
use Rattle.code_gen.specs.Bodies.{stored_at}
use Rattle.code_gen.specs.Views.{body_in, plain_frame}
use Rattle.code_gen.proofs.PlainRules.{followed-one}
use Rattle.code_gen.proofs.copy_statements.put_copy.Goals as goal

pub returns : goal.returns
returns c =
    let s = c.args.site in
    let f = plain_frame s.frame in
    let old = body_in c.args.out.now in
    let finish : PlainBody = stored_at s 0 c.args.nest.now c.args.number 0 1 in
    c.in_ok-put_output.ensures
    ∙ ap (λ (b : PlainBody). followed_by b finish) c.in_ok-put_op.ensures
    ∙ followed-one old finish (Do (Load 0 s.source (plain_expr c.in_ok-place.place)))
    ∙ ap (λ (e : PlainExpr). followed_by old (AndStmts (Do (Load 0 s.source e)) finish))
    (c.in_ok-place.ensures ∙ ap (λ (xs : List Affine). place_at f s.open_loops (map plain_sum xs) c.args.number) c.deref.ensures.value)
