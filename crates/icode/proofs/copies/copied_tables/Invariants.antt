use Rattle.std.proofs.Common.{◌≡◌, take}
use Rattle.icode.specs.Plain.{plain_tables}
use Rattle.icode.proofs.copies.copied_tables.Given as goal

abbrev pub invariant-loop-entries : goal.invariant-loop-entries
invariant-loop-entries l = plain_tables l.copy.items ≡ plain_tables (take l.entries-index l.tables)
