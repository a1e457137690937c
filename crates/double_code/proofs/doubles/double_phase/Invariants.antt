use Rattle.std.proofs.Common.{length, ◌≡◌}
use Rattle.double_code.specs.Doubled.{loosest, doubled_body}
use Rattle.double_code.specs.Setting.{AreBoundsWithin, header_in}
use Rattle.double_code.proofs.Making.{AreMade}
use Rattle.double_code.proofs.doubles.double_phase.Given as goal

abbrev pub invariant-loop-stmt : goal.invariant-loop-stmt
invariant-loop-stmt l = record {
  is : AreMade (doubled_body (header_in l.setting)) l.stmt-index l.body
      (loosest (header_in l.setting)) l.made.items l.bounds;
  sane : AreBoundsWithin l.setting l.bounds;
  long : length l.bounds ≡ l.setting.regs;
}
