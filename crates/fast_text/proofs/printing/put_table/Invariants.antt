use Rattle.std.proofs.Common.{◌≡◌, ◌++◌, drop, codes, decimal, flat_map}
use Rattle.fast_text.specs.WordText.{word_table_text}
use Rattle.fast_text.proofs.printing.put_table.Given as goal

abbrev pub invariant-loop-entry : goal.invariant-loop-entry
invariant-loop-entry l = l.out.items ++ (flat_map (λ c. decimal c ++ codes "ULL,") (drop l.entry-index l.entries) ++ codes "};\n") ≡ l.fn.out.items ++ word_table_text l.name l.number l.entries
