use Rattle.std.proofs.Common.{drop}
use Rattle.icode.specs.Plain.{plain_body}
use Rattle.icode.specs.Program.{plain_program}
use Rattle.word_code.specs.InPlace.Accesses.{accesses_of_phase}
use Rattle.word_code.specs.InPlace.Views.{homes_of, span, IsTable}
use Rattle.word_code.proofs.InPlace.Walking.{IsInPhase}
use Rattle.word_code.proofs.in_place.walk.walk_phase.Given as goal

-- what is left leads where all of it led
abbrev pub invariant-loop-index : goal.invariant-loop-index
invariant-loop-index l = record {
  table : IsTable (span (plain_program l.program)) l.table;
  walk : IsInPhase (plain_program l.program) (accesses_of_phase (plain_program l.program) l.routes (plain_body l.body))
      (drop l.index l.routes) (plain_body (drop l.index l.body)) (homes_of l.table) (homes_of l.fn.table);
}
