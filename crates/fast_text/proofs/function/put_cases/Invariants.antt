use Rattle.std.proofs.Common.{◌≡◌, ◌++◌, ◌-◌}
use Rattle.fast_text.specs.FunctionText.{each_from, case_text}
use Rattle.fast_text.proofs.function.put_cases.Given as goal

abbrev pub invariant-loop-number : goal.invariant-loop-number
invariant-loop-number l = l.out.items ++ each_from (case_text l.name l.words) (l.phases - l.number) l.number ≡ l.fn.out.items ++ each_from (case_text l.name l.words) l.phases 0
