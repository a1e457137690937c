use Rattle.std.proofs.Common.{◌≡◌, ◌++◌, drop}
use Rattle.icode.specs.Plain.{plain_tables}
use Rattle.fast_text.specs.WordText.{word_tables_text}
use Rattle.fast_text.proofs.printing.put_tables.Given as goal

abbrev pub invariant-loop-number : goal.invariant-loop-number
invariant-loop-number l = l.out.items ++ word_tables_text l.name l.number (plain_tables (drop l.number l.tables)) ≡ l.fn.out.items ++ word_tables_text l.name 0 (plain_tables l.tables)
