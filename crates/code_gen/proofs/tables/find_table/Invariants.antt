use Rattle.std.proofs.Common.{◌≡◌, ◌+◌, drop}
use Rattle.icode.specs.Plain.{plain_tables}
use Rattle.code_gen.specs.PassCode.Statements.{table_number}
use Rattle.code_gen.proofs.tables.find_table.Given as goal

-- none of the tables so far is the one that is looked for
abbrev pub invariant-loop-k : goal.invariant-loop-k
invariant-loop-k l = table_number (plain_tables l.tables) l.entries ≡ l.k + table_number (plain_tables (drop l.k l.tables)) l.entries
