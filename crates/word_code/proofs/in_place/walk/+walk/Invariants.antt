use Rattle.std.proofs.Common.{◌≡◌, drop, length, take}
use Rattle.icode.specs.Plain.{plain_stmt, plain_body}
use Rattle.icode.specs.Program.{plain_program}
use Rattle.word_code.specs.InPlace.Views.{homes_of, span, IsTable}
use Rattle.word_code.proofs.InPlace.Walking.{IsInBody, IsInLoop}
use Rattle.word_code.proofs.in_place.walk.+walk.Given as goal

-- what is left leads where all of it led
abbrev pub invariant-walk_body-loop-stmt : goal.invariant-walk_body-loop-stmt
invariant-walk_body-loop-stmt l = record {
  values : take l.depth l.values ≡ take l.depth l.fn.values;
  table : IsTable (span (plain_program l.program)) l.table;
  walk : IsInBody (plain_program l.program) l.route (plain_body l.body) (plain_body (drop l.stmt-index l.body))
      (take l.depth l.fn.values) l.depth (homes_of l.table) (homes_of l.fn.table);
}

abbrev pub invariant-walk_stmt-loop-turn : goal.invariant-walk_stmt-loop-turn
invariant-walk_stmt-loop-turn l = record {
  long : length l.values ≡ 64;
  values : take l.depth l.values ≡ take l.depth l.fn.values;
  table : IsTable (span (plain_program l.program)) l.table;
  walk : IsInLoop (plain_program l.program) l.route (plain_stmt l.stmt) (plain_body l.body.items)
      (take l.depth l.fn.values) l.turn l.turn-end (homes_of l.table) (homes_of l.fn.table);
}
