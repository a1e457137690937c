use Rattle.word_code.specs.Quicken.{loosest, quick_body}
use Rattle.word_code.specs.Setting.{AreBoundsWithin, header_in}
use Rattle.word_code.specs.Views.{lazy_of}
use Rattle.word_code.proofs.Emitting.{AreMade}
use Rattle.word_code.proofs.quicken.+quicken_stmt.Given as goal

abbrev pub decreases-quicken_stmt : goal.decreases-quicken_stmt
decreases-quicken_stmt l = goal.size-quicken_stmt l

abbrev pub invariant-loop-inner : goal.invariant-loop-inner
invariant-loop-inner l = record {
  is : AreMade (quick_body (lazy_of l.setting.laziness) (header_in l.setting)) l.inner-index l.inner-items
      (loosest (lazy_of l.setting.laziness) (header_in l.setting)) l.made.items l.bounds;
  sane : AreBoundsWithin l.setting l.bounds;
}
