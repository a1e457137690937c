use Rattle.std.proofs.Common.{◌≡◌, ◌++◌, drop}
use Rattle.spl_text.specs.Spelling.{more_text}
use Rattle.spl_text.proofs.printing.write_more.Given as goal

abbrev pub invariant-loop-value : goal.invariant-loop-value
invariant-loop-value l = l.out.items ++ more_text (drop l.value-index l.values) ≡ l.fn.out.items ++ more_text l.values
