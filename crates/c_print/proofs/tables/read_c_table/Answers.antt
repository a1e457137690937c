use Rattle.std.proofs.Common.{length}
use Rattle.c_print.proofs.CTableLaws.{table_is_read, same_table, only_memory}
use Rattle.c_print.proofs.tables.read_c_table.Goals as goal

pub returns-in-Ok-clause-text : goal.returns-in-Ok-clause-text
returns-in-Ok-clause-text c = let is = table_is_read (length c.args.line.now) c.args.line.now (c.in-Ok.table.0, c.in-Ok.table.1.items) c.in-Ok.ensures in (is.0.1, is.1)

pub returns-in-Ok-clause-only : goal.returns-in-Ok-clause-only
returns-in-Ok-clause-only c = λ number entries l. (tt, same_table c.args.line.now c.in-Ok.table.0 c.in-Ok.table.1.items number entries c.in-Ok.ensures l)

pub returns-in-Err-clause-only : goal.returns-in-Err-clause-only
returns-in-Err-clause-only c = λ number entries l. (only_memory c.args.line.now c.in-Err.error number entries c.in-Err.ensures l, tt)
