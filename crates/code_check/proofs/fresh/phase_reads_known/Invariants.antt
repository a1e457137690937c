use Rattle.icode.specs.Program.{plain_program}
use Rattle.code_check.specs.MarkTables.{IsMarkTable}
use Rattle.code_check.proofs.KnownPhases.{IsInPhase}
use Rattle.code_check.proofs.fresh.phase_reads_known.Given as goal

abbrev pub invariant-loop-proc : goal.invariant-loop-proc
invariant-loop-proc l = record {
  table : IsMarkTable (plain_program l.program) l.table;
  walk : IsInPhase (plain_program l.program) l.phase l.proc l.table.words.items l.fn.table.words.items;
}
