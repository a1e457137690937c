use Rattle.std.proofs.Common.{◌≡◌, ap, sym, ◌∙◌}
use Rattle.std.specs.Prelude.{◌==◌}
use Rattle.icode.specs.Plain.{Loop, Do, plain_stmt, plain_body, plain_op}
use Rattle.icode.proofs.Views.{plain_stmt-Loop, plain_stmt-Do}
use Rattle.code_check.specs.Live.{plain_lives, pruned}
use Rattle.code_check.proofs.Lives.{keep_loop, keep_nothing, keep_op, keeps_on, keeps_all}
use Rattle.code_check.proofs.live.+live.Goals as goal

pub keep-returns-in_ok-push-in-Loop : goal.keep-returns-in_ok-push-in-Loop
keep-returns-in_ok-push-in-Loop t c =
    let is : plain_stmt c.args.stmt.now ≡ Loop c.in-Loop.count (plain_body c.in-Loop.body.items) = ap plain_stmt c.in-Loop.is ∙ plain_stmt-Loop c.in-Loop.count c.in-Loop.body in
    let inner = c.in_ok-body-in-Loop.ensures ∙ ap (λ items. pruned (plain_body items)) c.deref.ensures.value in
    keep_loop c.args.kept.now.items c.push.new.self.items c.in-Loop.count c.in_ok-body-in-Loop.body (plain_body c.in-Loop.body.items) (plain_stmt c.args.stmt.now)
    c.in_ok-push-in-Loop.ensures.items is inner
    (ap (λ n. n == 0) (sym c.in_ok-body-in-Loop.body.ok.0) ∙ (sym c.is_empty.ensures ∙ c.if-not-is_empty.true))

pub keep-returns-else-not-is_empty : goal.keep-returns-else-not-is_empty
keep-returns-else-not-is_empty t c =
    let is : plain_stmt c.args.stmt.now ≡ Loop c.in-Loop.count (plain_body c.in-Loop.body.items) = ap plain_stmt c.in-Loop.is ∙ plain_stmt-Loop c.in-Loop.count c.in-Loop.body in
    let inner = c.in_ok-body-in-Loop.ensures ∙ ap (λ items. pruned (plain_body items)) c.deref.ensures.value in
    keep_nothing c.args.kept.now.items c.in_ok-body-in-Loop.body.items c.in-Loop.count (plain_body c.in-Loop.body.items) (plain_stmt c.args.stmt.now) is inner
    (ap (λ n. n == 0) (sym c.in_ok-body-in-Loop.body.ok.0) ∙ (sym c.is_empty.ensures ∙ c.if-not-is_empty.false))

pub keep-returns-in_ok-push-in-Do : goal.keep-returns-in_ok-push-in-Do
keep-returns-in_ok-push-in-Do t c =
    let is : plain_stmt c.args.stmt.now ≡ Do (plain_op c.in-Do.op) = ap plain_stmt c.in-Do.is ∙ plain_stmt-Do c.in-Do.op in
    keep_op c.args.kept.now.items c.push-in-Do.new.self.items _ (plain_stmt c.args.stmt.now) c.in_ok-push-in-Do.ensures.items is

pub live_of-loop-stmt-preserved : goal.live_of-loop-stmt-preserved
live_of-loop-stmt-preserved t c =
    keeps_on c.args.body.now c.loop-stmt.stmt-index c.stmt-item.result (plain_lives c.loop-stmt.kept.items) (plain_lives c.keep.new.kept.items) c.loop-stmt-test.true c.stmt-item.is c.loop-stmt.invariant c.in_ok-keep.ensures

pub live_of-returns : goal.live_of-returns
live_of-returns t c = keeps_all c.args.body.now c.loop-stmt.stmt-index (plain_lives c.loop-stmt.kept.items) c.loop-stmt-test.false c.loop-stmt.invariant
