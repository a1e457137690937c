use Rattle.std.proofs.Common.{refl, ap, subst, sym, ◌∙◌, arith}
use Rattle.icode.specs.Plain.{plain_stmt}
use Rattle.double_code.specs.Doubled.{DoubledBody, loosest, doubled_stmt, doubled_body}
use Rattle.double_code.specs.Setting.{AreBoundsWithin, header_in}
use Rattle.double_code.proofs.Making.{made-more, made-all, stmt_sane}
use Rattle.double_code.proofs.doubles.double_phase.Goals as goal
use Rattle.nests.proofs.Limited.{item-within}

pub double_stmt-requires-clause-within : goal.double_stmt-requires-clause-within
double_stmt-requires-clause-within c =
    item-within c.args.setting.modulus 0 c.loop-stmt.stmt-index c.args.body.now c.stmt-item.result
    c.requires.within (omega arith) c.stmt-item.is

pub loop-stmt-preserved : goal.loop-stmt-preserved
loop-stmt-preserved c =
    let h = header_in c.args.setting in
    let ends = c.in_ok-stmt.ensures.after in
    record {
      is =
          made-more (doubled_body h) c.loop-stmt.stmt-index c.args.body.now (loosest h) c.stmt-item.result
          (doubled_stmt h (plain_stmt c.stmt-item.result) c.loop-stmt.bounds) c.loop-stmt.made.items
          c.push.new.self.items
          c.in_ok-stmt.stmt c.loop-stmt.bounds c.double_stmt.new.bounds (omega arith) c.stmt-item.is refl
          c.loop-stmt.invariant.is c.in_ok-stmt.ensures.stmt ends c.in_ok-push.ensures.items;
      sane =
          subst (AreBoundsWithin c.args.setting) (sym ends)
          (stmt_sane c.args.setting.modulus c.requires.setting.some c.requires.setting.below c.args.setting.lanes
          c.args.setting.regs (plain_stmt c.stmt-item.result) c.loop-stmt.bounds c.loop-stmt.invariant.sane);
      long = c.double_stmt.auto.bounds ∙ c.loop-stmt.invariant.long;
    }

pub returns : goal.returns
returns c =
    let h = header_in c.args.setting in
    ap (λ (b : DoubledBody). b.body)
    (sym (made-all (doubled_body h) c.loop-stmt.stmt-index c.args.body.now (loosest h) c.loop-stmt.made.items
    c.loop-stmt.bounds
    (omega arith) refl c.loop-stmt.invariant.is))
