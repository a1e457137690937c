use Rattle.std.proofs.Common.{refl, ap, subst, sym, ◌∙◌, arith}
use Rattle.icode.specs.Plain.{plain_stmt}
use Rattle.word_code.specs.Quicken.{QuickBody, loosest, quick_stmt, quick_body}
use Rattle.word_code.specs.Setting.{AreBoundsWithin, header_in}
use Rattle.word_code.specs.Views.{lazy_of}
use Rattle.word_code.proofs.Emitting.{made-more, made-all, stmt_sane}
use Rattle.word_code.proofs.quicken.quicken_phase.Goals as goal
use Rattle.nests.proofs.Limited.{item-within}

pub quicken_stmt-requires-clause-within : goal.quicken_stmt-requires-clause-within
quicken_stmt-requires-clause-within c =
    item-within c.args.setting.modulus 0 c.loop-stmt.stmt-index c.args.body.now c.stmt-item.result c.requires.within (omega arith) c.stmt-item.is

pub loop-stmt-preserved : goal.loop-stmt-preserved
loop-stmt-preserved c =
    let z = lazy_of c.args.setting.laziness in
    let h = header_in c.args.setting in
    let ends = c.in_ok-stmt.ensures.after in
    record {
      is =
          made-more (quick_body z h) c.loop-stmt.stmt-index c.args.body.now (loosest z h) c.stmt-item.result
          (quick_stmt z h (plain_stmt c.stmt-item.result) c.loop-stmt.bounds) c.loop-stmt.made.items
          c.push.new.self.items
          c.in_ok-stmt.stmt c.loop-stmt.bounds c.quicken_stmt.new.bounds (omega arith) c.stmt-item.is refl
          c.loop-stmt.invariant.is c.in_ok-stmt.ensures.stmt ends c.in_ok-push.ensures.items;
      sane =
          subst (AreBoundsWithin c.args.setting) (sym ends)
          (stmt_sane z c.requires.setting.some c.requires.setting.keep_a c.requires.setting.keep_b
          c.requires.setting.product h
          (plain_stmt c.stmt-item.result) c.loop-stmt.bounds c.loop-stmt.invariant.sane);
      long = c.quicken_stmt.auto.bounds ∙ c.loop-stmt.invariant.long;
    }

pub returns : goal.returns
returns c =
    let z = lazy_of c.args.setting.laziness in
    let h = header_in c.args.setting in
    ap (λ (b : QuickBody). b.body)
    (sym (made-all (quick_body z h) c.loop-stmt.stmt-index c.args.body.now (loosest z h) c.loop-stmt.made.items
    c.loop-stmt.bounds
    (omega arith) refl c.loop-stmt.invariant.is))
