use Rattle.std.proofs.Common.{◌≡◌, List, ap, subst, ◌∙◌, arith}
use Rattle.icode.specs.declared.program.Stmt.{Stmt}
use Rattle.icode.specs.Plain.{Loop, plain_stmt, plain_body}
use Rattle.icode.proofs.Views.{plain_stmt-Loop}
use Rattle.two_tables.specs.Factored.{factored_body}
use Rattle.two_tables.specs.Views.{plain_split}
use Rattle.two_tables.proofs.Pushed.{body-pushed, loop-pushed}
use Rattle.two_tables.proofs.split.+push_stmt.Goals as goal

pub returns-in_ok-push-in-Loop : goal.returns-in_ok-push-in-Loop
returns-in_ok-push-in-Loop t c =
    let is : plain_stmt c.args.stmt.now ≡ Loop c.in-Loop.count (plain_body c.in-Loop.body.items) = ap plain_stmt c.in-Loop.is ∙ plain_stmt-Loop c.in-Loop.count c.in-Loop.body in
    loop-pushed (plain_split c.args.split) c.in-Loop.count c.loop-inner.inside c.in-Loop.body c.args.stmt.now c.args.made.now.items c.push.new.self.items is
    (subst (λ (xs : List Stmt). plain_body c.loop-inner.inside.items ≡ factored_body (plain_split c.args.split) (plain_body xs)) c.deref-inner-items.ensures.value
    (body-pushed (plain_split c.args.split) c.loop-inner.inner-index c.deref-inner-items.result.now c.loop-inner.inside.items (omega arith) c.loop-inner.invariant))
    c.in_ok-push-in-Loop.ensures.items
