use Rattle.std.proofs.Common.{◌≡◌, ◌+◌, List, refl, ap, sym, ◌∙◌, subst, arith, rules, true}
use Rattle.std.proofs.lemmas.Grind.{common_steps}
use Rattle.icode.specs.declared.program.Stmt.{Stmt, the_lemmas}
use Rattle.icode.specs.Plain.{Loop, plain_stmt, plain_body}
use Rattle.icode.specs.Limits.{is_body_within}
use Rattle.icode.proofs.Views.{plain_stmt-Loop}
use Rattle.code_check.proofs.Walking.{within_loop}
use Rattle.double_code.specs.Doubled.{loosest, doubled_stmt, doubled_body}
use Rattle.double_code.specs.Setting.{AreBoundsWithin, header_in}
use Rattle.double_code.proofs.Making.{made-more, loop_made, stmt_sane}
use Rattle.double_code.proofs.doubles.+double_stmt.Goals as goal
use Rattle.nests.proofs.Limited.{item-within}

pub double_stmt-requires : goal.double_stmt-requires
double_stmt-requires t c =
    let is : plain_stmt c.args.stmt.now ≡ Loop c.in-Loop.count (plain_body c.in-Loop.body.items) =
    ap plain_stmt c.in-Loop.is ∙ plain_stmt-Loop c.in-Loop.count c.in-Loop.body in
    let parts = within_loop c.args.setting.modulus c.args.depth c.in-Loop.count (plain_body c.in-Loop.body.items)
    (plain_stmt c.args.stmt.now) is c.requires.within in
    let items = c.deref-inner-items.ensures.value in
    let d = c.decreases in
    let w = c.in-Loop.is in (
      search (rules, the_lemmas, common_steps) depth 8,
      (
        item-within c.args.setting.modulus (c.args.depth + 1) c.loop-inner.inner-index c.deref-inner-items.result.now
            c.inner-item.result
            (subst (λ (xs : List Stmt).
            is_body_within c.args.setting.modulus (plain_body xs) (c.args.depth + 1) ≡ true) (sym items) parts.1)
            (omega arith) c.inner-item.is,
        (c.requires.setting, (search rules, (omega (arith, parts.0), c.loop-inner.invariant.sane))),
      ),
    )

pub loop-inner-preserved : goal.loop-inner-preserved
loop-inner-preserved t c =
    let h = header_in c.args.setting in
    let ends = c.in_ok-inner-in-Loop.ensures.after in
    record {
      is =
          made-more (doubled_body h) c.loop-inner.inner-index c.deref-inner-items.result.now (loosest h)
          c.inner-item.result
          (doubled_stmt h (plain_stmt c.inner-item.result) c.loop-inner.bounds) c.loop-inner.made.items
          c.push.new.self.items
          c.in_ok-inner-in-Loop.inner c.loop-inner.bounds c.double_stmt.new.bounds (omega arith) c.inner-item.is refl
          c.loop-inner.invariant.is c.in_ok-inner-in-Loop.ensures.stmt ends c.in_ok-push-in-Loop.ensures.items;
      sane =
          subst (AreBoundsWithin c.args.setting) (sym ends)
          (stmt_sane c.args.setting.modulus c.requires.setting.some c.requires.setting.below c.args.setting.lanes
          c.args.setting.regs (plain_stmt c.inner-item.result) c.loop-inner.bounds c.loop-inner.invariant.sane);
    }

pub returns-after-loop-inner-clause-stmt : goal.returns-after-loop-inner-clause-stmt
returns-after-loop-inner-clause-stmt t c =
    let h = header_in c.args.setting in
    let is : plain_stmt c.args.stmt.now ≡ Loop c.in-Loop.count (plain_body c.in-Loop.body.items) =
    ap plain_stmt c.in-Loop.is ∙ plain_stmt-Loop c.in-Loop.count c.in-Loop.body in
    loop_made h c.in-Loop.count c.loop-inner.inner-index c.in-Loop.body.items c.deref-inner-items.result.now
    c.args.stmt.now
    c.args.bounds.now c.loop-inner.made c.loop-inner.bounds is c.deref-inner-items.ensures.value (omega arith)
    c.loop-inner.invariant.is
