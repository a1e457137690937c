use Rattle.std.proofs.Common.{◌≡◌, ◌++◌, ◌-◌}
use Rattle.fast_text.specs.FunctionText.{each_from}
use Rattle.fast_text.specs.WordText.{declared_text}
use Rattle.fast_text.proofs.printing.put_registers.Given as goal

abbrev pub invariant-loop-register : goal.invariant-loop-register
invariant-loop-register l = l.out.items ++ each_from declared_text (l.count - l.register) l.register ≡ l.fn.out.items ++ each_from declared_text l.count 0
