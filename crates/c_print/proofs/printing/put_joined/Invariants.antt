use Rattle.std.proofs.Common.{◌≡◌, ◌++◌, drop, codes, decimal, flat_map}
use Rattle.c_print.specs.CText.{joined_text}
use Rattle.c_print.proofs.printing.put_joined.Given as goal

abbrev pub invariant-loop-entry : goal.invariant-loop-entry
invariant-loop-entry l = l.out.items ++ flat_map (λ c. codes "," ++ decimal c) (drop l.entry-index l.others) ≡ l.fn.out.items ++ joined_text l.entries
