use Rattle.std.proofs.Common.{◌≡◌, drop, length, take}
use Rattle.icode.specs.Program.{plain_program}
use Rattle.code_check.specs.Live.{plain_live, plain_lives}
use Rattle.code_check.proofs.Walking.{IsInBody, IsInLoop}
use Rattle.code_check.proofs.walk.+walk.Given as goal

-- what is left leads where all of it led
abbrev pub invariant-walk_body-loop-stmt : goal.invariant-walk_body-loop-stmt
invariant-walk_body-loop-stmt l = record {
  values : take l.depth l.values ≡ take l.depth l.fn.values;
  walk : IsInBody (plain_program l.worker.program.now) l.worker.proc (plain_lives l.body)
      (plain_lives (drop l.stmt-index l.body)) (take l.depth l.fn.values) l.depth l.count l.fn.count l.lines l.fn.lines;
}

abbrev pub invariant-walk_stmt-loop-turn : goal.invariant-walk_stmt-loop-turn
invariant-walk_stmt-loop-turn l = record {
  long : length l.values ≡ 64;
  values : take l.depth l.values ≡ take l.depth l.fn.values;
  walk : IsInLoop (plain_program l.worker.program.now) l.worker.proc (plain_live l.stmt) (plain_lives l.body.items)
      (take l.depth l.fn.values) l.turn l.turn-end l.count l.fn.count l.lines l.fn.lines;
}
