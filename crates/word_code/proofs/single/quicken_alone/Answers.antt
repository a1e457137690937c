use Rattle.std.proofs.Common.{◌≡◌, length, get_or, refl, ap, subst, sym, ◌∙◌, arith}
use Rattle.icode.specs.Plain.{plain_stmt, plain_body}
use Rattle.word_code.specs.Needs.{needs_of_each}
use Rattle.word_code.specs.Quicken.{QuickBody, loosest, loosened, quick_stmt, quick_alone}
use Rattle.word_code.specs.Setting.{AreBoundsWithin, header_in}
use Rattle.word_code.specs.Views.{lazy_of}
use Rattle.word_code.proofs.Emitting.{made-more, made-all}
use Rattle.word_code.proofs.Needing.{length-each}
use Rattle.word_code.proofs.Loosening.{alone_splits, needed_sane}
use Rattle.word_code.proofs.single.quicken_alone.Goals as goal
use Rattle.nests.proofs.Limited.{item-within}

pub index-requires : goal.index-requires
index-requires c =
    omega (arith, c.loop-index-test.true, length-each c.args.body.now, ap length c.in_ok-each.ensures, c.in_ok-each.each.ok.0)

pub quicken_needed-requires-clause-within : goal.quicken_needed-requires-clause-within
quicken_needed-requires-clause-within c =
    item-within c.args.setting.modulus 0 c.loop-index.index c.args.body.now c.index-body-index.result c.requires.within c.loop-index-test.true c.index-body-index.is

pub loop-index-preserved : goal.loop-index-preserved
loop-index-preserved c =
    let z = lazy_of c.args.setting.laziness in
    let h = header_in c.args.setting in
    let ends = c.in_ok-stmt.ensures.after in
    let needed : c.index.result.now ≡ get_or (needs_of_each (plain_body c.args.body.now)) c.loop-index.index c.index.result.now =
    c.index.ensures ∙ ap (λ ns. get_or ns c.loop-index.index c.index.result.now) c.in_ok-each.ensures in
    record {
      is =
          made-more (quick_alone z h) c.loop-index.index c.args.body.now (loosest z h) c.index-body-index.result
          (quick_stmt (loosened z c.index.result.now) h (plain_stmt c.index-body-index.result) c.loop-index.bounds)
          c.loop-index.made.items c.push.new.self.items c.in_ok-stmt.stmt c.loop-index.bounds
          c.quicken_needed.new.bounds
          c.loop-index-test.true c.index-body-index.is
          (alone_splits z h c.loop-index.index c.args.body.now c.index-body-index.result c.index.result.now
          c.loop-index.bounds
          c.loop-index-test.true c.index-body-index.is needed)
          c.loop-index.invariant.is c.in_ok-stmt.ensures.stmt ends c.in_ok-push.ensures.items;
      sane =
          subst (AreBoundsWithin c.args.setting) (sym ends)
          (needed_sane z h c.index.result.now (plain_stmt c.index-body-index.result) c.loop-index.bounds c.requires.setting.some c.requires.setting.keep_a c.requires.setting.keep_b c.requires.setting.product c.loop-index.invariant.sane);
      long = c.quicken_needed.auto.bounds ∙ c.loop-index.invariant.long;
    }

pub returns : goal.returns
returns c =
    let z = lazy_of c.args.setting.laziness in
    let h = header_in c.args.setting in
    ap (λ (b : QuickBody). b.body)
    (sym (made-all (quick_alone z h) c.loop-index.index c.args.body.now (loosest z h) c.loop-index.made.items
    c.loop-index.bounds
    c.loop-index-test.false refl c.loop-index.invariant.is))
