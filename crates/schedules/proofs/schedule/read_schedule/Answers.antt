use Rattle.std.proofs.Common.{Ok, Err, sym}
use Rattle.schedules.specs.Schedule.{as_plan}
use Rattle.schedules.proofs.ScheduleWord.{word_judges, is_plan}
use Rattle.schedules.proofs.schedule.read_schedule.Goals as goal

pub invariant_of-result : goal.invariant_of-result
invariant_of-result c = is_plan c.args.word.now (as_plan c.in-Ok.turns) (word_judges c.args.word.now (Ok (as_plan c.in-Ok.turns)) c.in-Ok.ensures).0

pub overflow_sub-result : goal.overflow_sub-result
overflow_sub-result c = (word_judges c.args.word.now (Err c.in-Err-Stuck.stuck.left) (rw c.in-Err-Stuck.field-0-is at c.in-Err-Stuck.ensures)).0

pub returns-in-Ok-clause-answer : goal.returns-in-Ok-clause-answer
returns-in-Ok-clause-answer c = (word_judges c.args.word.now (Ok (as_plan c.in-Ok.turns)) c.in-Ok.ensures).0

pub returns-in-Ok-clause-only : goal.returns-in-Ok-clause-only
returns-in-Ok-clause-only c = λ plan l. (tt, sym ((word_judges c.args.word.now (Ok (as_plan c.in-Ok.turns)) c.in-Ok.ensures).1 plan l))

pub returns-in-Err-Stuck-clause-answer : goal.returns-in-Err-Stuck-clause-answer
returns-in-Err-Stuck-clause-answer c = (word_judges c.args.word.now (Err c.in-Err-Stuck.stuck.left) (rw c.in-Err-Stuck.field-0-is at c.in-Err-Stuck.ensures)).1

pub returns-in-Err-Stuck-clause-only : goal.returns-in-Err-Stuck-clause-only
returns-in-Err-Stuck-clause-only c = λ plan l. absurd ((word_judges c.args.word.now (Err c.in-Err-Stuck.stuck.left) (rw c.in-Err-Stuck.field-0-is at c.in-Err-Stuck.ensures)).1.nothing plan l)
