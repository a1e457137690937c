use Rattle.std.proofs.Common.{Ok, Err}
use Rattle.spiral_words.proofs.NumberWord.{seed_judges}
use Rattle.spiral_words.proofs.number.seed_of.Goals as goal

pub returns-in-Ok-clause-ok : goal.returns-in-Ok-clause-ok
returns-in-Ok-clause-ok c = (seed_judges c.args.word.now (Ok c.in-Ok.number) c.in-Ok.ensures).0

pub returns-in-Err-clause-usage : goal.returns-in-Err-clause-usage
returns-in-Err-clause-usage c = λ _. (seed_judges c.args.word.now (Err c.in-Err.field-0.left) c.in-Err.ensures).1.nothing
