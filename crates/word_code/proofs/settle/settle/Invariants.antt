use Rattle.std.proofs.Common.{◌≡◌, ◌-◌, ◌*◌}
use Rattle.word_code.specs.Quicken.{settled}
use Rattle.word_code.specs.Setting.{AreBoundsWithin, settled_in}
use Rattle.word_code.proofs.Settling.{behind}
use Rattle.word_code.proofs.settle.settle.Given as goal

abbrev pub invariant-loop : goal.invariant-loop
invariant-loop l = record {
  goes : settled_in l.setting l.left l.right l.target l.fn.bounds
      ≡ behind l.before.items (settled l.setting.modulus l.setting.laziness.limit (2 * l.setting.laziness.limit - l.counter)
      l.left l.right l.target l.bounds);
  sane : AreBoundsWithin l.setting l.bounds;
}
