use Rattle.std.proofs.Common.{◌≡◌, ◌+◌, ◌-◌, ◌++◌, ◌∷◌, [], List, ap, sym, ◌∙◌, subst, arith, length, rules, true}
use Rattle.std.proofs.lemmas.Grind.{common_steps}
use Rattle.icode.specs.declared.program.Stmt.{Stmt, the_lemmas}
use Rattle.icode.specs.Plain.{Loop, Do, plain_stmt, plain_body, plain_op}
use Rattle.icode.specs.Limits.{is_body_within}
use Rattle.icode.proofs.Views.{plain_stmt-Loop, plain_stmt-Do}
use Rattle.par_machine.specs.declared.cursor.Instruction.TheVariants.{Again}
use Rattle.par_machine.proofs.Compiles.{DoesBody, loop_parts, item_within, take_whole, compiled_none, compiled_more}
use Rattle.par_machine.proofs.Compiles.{compiled_do, compiled_loop, compiled_empty}
use Rattle.par_machine.proofs.compile.+compile.Goals as goal

pub loop-inner-init : goal.loop-inner-init
loop-inner-init t c = compiled_none c.args.modulus (c.args.depth + 1) c.args.code.now.items

pub compile-requires : goal.compile-requires
compile-requires t c =
    let is : plain_stmt c.args.stmt.now ≡ Loop c.in-Loop.count (plain_body c.in-Loop.body.items) = ap plain_stmt c.in-Loop.is ∙ plain_stmt-Loop c.in-Loop.count c.in-Loop.body in
    let parts = loop_parts c.args.modulus c.args.depth c.in-Loop.count (plain_body c.in-Loop.body.items) (plain_stmt c.args.stmt.now) is c.requires.within in
    let items = c.deref-inner-items.ensures.value in
    let d = c.decreases in
    let w = c.in-Loop.is in (
      search (rules, the_lemmas, common_steps) depth 8,
      (
        omega (arith, parts.1),
        item_within c.args.modulus (c.args.depth + 1) c.loop-inner.inner-index c.deref-inner-items.result.now c.inner-item.result
            (subst (λ (xs : List Stmt). is_body_within c.args.modulus (plain_body xs) (c.args.depth + 1) ≡ true) (sym items) parts.2) (omega arith) c.inner-item.is,
      ),
    )

pub loop-inner-preserved : goal.loop-inner-preserved
loop-inner-preserved t c =
    compiled_more c.args.modulus (c.args.depth + 1) c.loop-inner.inner-index c.deref-inner-items.result.now c.inner-item.result c.args.code.now.items c.loop-inner.code.items c.compile.new.code.items (omega arith) c.inner-item.is c.loop-inner.invariant c.in_ok-compile-in-Loop.ensures

pub returns-in_ok-push-in-Loop : goal.returns-in_ok-push-in-Loop
returns-in_ok-push-in-Loop t c =
    let is : plain_stmt c.args.stmt.now ≡ Loop c.in-Loop.count (plain_body c.in-Loop.body.items) = ap plain_stmt c.in-Loop.is ∙ plain_stmt-Loop c.in-Loop.count c.in-Loop.body in
    let parts = loop_parts c.args.modulus c.args.depth c.in-Loop.count (plain_body c.in-Loop.body.items) (plain_stmt c.args.stmt.now) is c.requires.within in
    let items = c.deref-inner-items.ensures.value in
    let all = subst (λ (xs : List Stmt). DoesBody c.args.modulus (c.args.depth + 1) xs c.args.code.now.items c.loop-inner.code.items) (take_whole c.loop-inner.inner-index c.deref-inner-items.result.now (omega arith) ∙ items) c.loop-inner.invariant in
    let start : c.len-start.result ≡ length c.args.code.now.items = omega (arith, c.len-start.ensures, c.args.code.now.ok.0) in
    compiled_loop c.args.modulus c.args.depth c.in-Loop.count (plain_body c.in-Loop.body.items) (plain_stmt c.args.stmt.now) c.args.code.now.items c.loop-inner.code.items c.push.new.self.items is parts.0 parts.1 all
    (omega (arith, c.if-len-start.true, c.len.ensures, c.loop-inner.code.ok.0, start))
    (c.in_ok-push-in-Loop.ensures.items ∙ ap (λ n. c.loop-inner.code.items ++ Again n (c.in-Loop.count - 1) c.args.depth ∷ []) start)

pub returns-else-len-start : goal.returns-else-len-start
returns-else-len-start t c =
    let is : plain_stmt c.args.stmt.now ≡ Loop c.in-Loop.count (plain_body c.in-Loop.body.items) = ap plain_stmt c.in-Loop.is ∙ plain_stmt-Loop c.in-Loop.count c.in-Loop.body in
    let items = c.deref-inner-items.ensures.value in
    let all = subst (λ (xs : List Stmt). DoesBody c.args.modulus (c.args.depth + 1) xs c.args.code.now.items c.loop-inner.code.items) (take_whole c.loop-inner.inner-index c.deref-inner-items.result.now (omega arith) ∙ items) c.loop-inner.invariant in
    compiled_empty c.args.modulus c.args.depth c.in-Loop.count (plain_body c.in-Loop.body.items) (plain_stmt c.args.stmt.now) c.args.code.now.items c.loop-inner.code.items is all
    (omega (arith, c.if-len-start.false, c.len.ensures, c.loop-inner.code.ok.0, c.len-start.ensures, c.args.code.now.ok.0))

pub returns-in_ok-push-in-Do : goal.returns-in_ok-push-in-Do
returns-in_ok-push-in-Do t c =
    let is : plain_stmt c.args.stmt.now ≡ Do (plain_op c.in-Do.op) = ap plain_stmt c.in-Do.is ∙ plain_stmt-Do c.in-Do.op in
    compiled_do c.args.modulus c.args.depth (plain_op c.in-Do.op) c.in_ok-op-in-Do.op (plain_stmt c.args.stmt.now) c.args.code.now.items c.push-in-Do.new.self.items is c.in_ok-op-in-Do.ensures c.requires.depth c.requires.within c.in_ok-push-in-Do.ensures.items
