use Rattle.icode.specs.Program.{plain_program}
use Rattle.code_check.specs.MarkTables.{IsMarkTable}
use Rattle.code_check.proofs.KnownPhases.{IsInProgram}
use Rattle.code_check.proofs.fresh.program_reads_known.Given as goal

abbrev pub invariant-loop-phase : goal.invariant-loop-phase
invariant-loop-phase l = record {
  table : IsMarkTable (plain_program l.program) l.table;
  walk : IsInProgram (plain_program l.program) l.phase l.table.words.items;
}
