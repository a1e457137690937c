use Rattle.std.proofs.Common.{Ok, Err, sym}
use Rattle.schedules.proofs.MixWord.{mix_judges, few_events}
use Rattle.schedules.proofs.mix.read_mix.Goals as goal

pub invariant_of-result : goal.invariant_of-result
invariant_of-result c = few_events c.args.word.now c.in-Ok.events.items (mix_judges c.args.word.now (Ok c.in-Ok.events.items) c.in-Ok.ensures).0

pub overflow_sub-result : goal.overflow_sub-result
overflow_sub-result c = (mix_judges c.args.word.now (Err c.in-Err-Stuck.stuck.left) (rw c.in-Err-Stuck.field-0-is at c.in-Err-Stuck.ensures)).0

pub returns-in-Ok-clause-answer : goal.returns-in-Ok-clause-answer
returns-in-Ok-clause-answer c = (mix_judges c.args.word.now (Ok c.in-Ok.events.items) c.in-Ok.ensures).0

pub returns-in-Ok-clause-only : goal.returns-in-Ok-clause-only
returns-in-Ok-clause-only c = λ events l. (tt, sym ((mix_judges c.args.word.now (Ok c.in-Ok.events.items) c.in-Ok.ensures).1 events l))

pub returns-in-Err-Stuck-clause-answer : goal.returns-in-Err-Stuck-clause-answer
returns-in-Err-Stuck-clause-answer c = (mix_judges c.args.word.now (Err c.in-Err-Stuck.stuck.left) (rw c.in-Err-Stuck.field-0-is at c.in-Err-Stuck.ensures)).1

pub returns-in-Err-Stuck-clause-only : goal.returns-in-Err-Stuck-clause-only
returns-in-Err-Stuck-clause-only c = λ events l. absurd ((mix_judges c.args.word.now (Err c.in-Err-Stuck.stuck.left) (rw c.in-Err-Stuck.field-0-is at c.in-Err-Stuck.ensures)).1.nothing events l)
