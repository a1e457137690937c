use Rattle.std.proofs.Common.{◌≡◌, length}
use Rattle.word_code.specs.Quicken.{loosest, quick_alone}
use Rattle.word_code.specs.Setting.{AreBoundsWithin, header_in}
use Rattle.word_code.specs.Views.{lazy_of}
use Rattle.word_code.proofs.Emitting.{AreMade}
use Rattle.word_code.proofs.single.quicken_alone.Given as goal

abbrev pub invariant-loop-index : goal.invariant-loop-index
invariant-loop-index l = record {
  is : AreMade (quick_alone (lazy_of l.setting.laziness) (header_in l.setting)) l.index l.body
      (loosest (lazy_of l.setting.laziness) (header_in l.setting)) l.made.items l.bounds;
  sane : AreBoundsWithin l.setting l.bounds;
  long : length l.bounds ≡ l.setting.regs;
}
