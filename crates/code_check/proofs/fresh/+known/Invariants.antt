use Rattle.std.proofs.Common.{◌≡◌, drop, length, take}
use Rattle.icode.specs.Program.{plain_program}
use Rattle.code_check.specs.Live.{plain_live, plain_lives}
use Rattle.code_check.specs.MarkTables.{marks_of, IsMarkTable}
use Rattle.code_check.proofs.Knowing.{IsInBody, IsInLoop}
use Rattle.code_check.proofs.fresh.+known.Given as goal

-- what is left leads where all of it led
abbrev pub invariant-body_reads_known-loop-stmt : goal.invariant-body_reads_known-loop-stmt
invariant-body_reads_known-loop-stmt l = record {
  values : take l.depth l.values ≡ take l.depth l.fn.values;
  table : IsMarkTable (plain_program l.worker.program.now) l.table;
  walk : IsInBody (plain_program l.worker.program.now) l.worker.proc (plain_lives l.body)
      (plain_lives (drop l.stmt-index l.body)) (take l.depth l.fn.values) l.depth (marks_of l.table)
      (marks_of l.fn.table);
}

abbrev pub invariant-stmt_reads_known-loop-turn : goal.invariant-stmt_reads_known-loop-turn
invariant-stmt_reads_known-loop-turn l = record {
  long : length l.values ≡ 64;
  values : take l.depth l.values ≡ take l.depth l.fn.values;
  table : IsMarkTable (plain_program l.worker.program.now) l.table;
  walk : IsInLoop (plain_program l.worker.program.now) l.worker.proc (plain_live l.stmt) (plain_lives l.body.items)
      (take l.depth l.fn.values) l.turn l.turn-end (marks_of l.table) (marks_of l.fn.table);
}
