use Rattle.double_code.specs.Doubled.{loosest, doubled_body}
use Rattle.double_code.specs.Setting.{AreBoundsWithin, header_in}
use Rattle.double_code.proofs.Making.{AreMade}
use Rattle.double_code.proofs.doubles.+double_stmt.Given as goal

abbrev pub decreases-double_stmt : goal.decreases-double_stmt
decreases-double_stmt l = goal.size-double_stmt l

abbrev pub invariant-loop-inner : goal.invariant-loop-inner
invariant-loop-inner l = record {
  is : AreMade (doubled_body (header_in l.setting)) l.inner-index l.inner-items
      (loosest (header_in l.setting)) l.made.items l.bounds;
  sane : AreBoundsWithin l.setting l.bounds;
}
