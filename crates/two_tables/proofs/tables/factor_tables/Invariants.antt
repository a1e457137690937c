use Rattle.std.proofs.Common.{length}
use Rattle.icode.specs.Program.{plain_program}
use Rattle.two_tables.proofs.Programs.{AreDone}
use Rattle.two_tables.proofs.tables.factor_tables.Given as goal

abbrev pub invariant-loop-table : goal.invariant-loop-table
invariant-loop-table l =
    AreDone l.least (plain_program l.fn.program) (length l.fn.program.tables.items) l.table (plain_program l.made) (length l.made.tables.items)
