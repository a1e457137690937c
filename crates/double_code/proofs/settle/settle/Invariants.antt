use Rattle.std.proofs.Common.{◌≡◌, ◌-◌}
use Rattle.double_code.specs.Doubled.{settled_to}
use Rattle.double_code.specs.Setting.{AreBoundsWithin, settled_in}
use Rattle.double_code.proofs.Emitting.{behind}
use Rattle.double_code.proofs.settle.settle.Given as goal

abbrev pub invariant-loop : goal.invariant-loop
invariant-loop l = record {
  goes : settled_in l.fn.setting l.left l.right l.target l.fn.bounds
      ≡ behind l.before.items (settled_to l.fn.setting.modulus (2 - l.counter) l.left l.right l.target l.bounds);
  sane : AreBoundsWithin l.fn.setting l.bounds;
}
