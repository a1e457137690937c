use Rattle.std.proofs.Common.{◌≡◌, ◌++◌, ◌-◌}
use Rattle.fast_text.specs.FunctionText.{each_from, turns_text}
use Rattle.fast_text.proofs.function.put_all_turns.Given as goal

abbrev pub invariant-loop-number : goal.invariant-loop-number
invariant-loop-number l = l.out.items ++ each_from (turns_text l.name l.words l.procs) (l.phases - l.number) l.number ≡ l.fn.out.items ++ each_from (turns_text l.name l.words l.procs) l.phases 0
