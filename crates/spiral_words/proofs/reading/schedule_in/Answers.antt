use Rattle.std.proofs.Common.{subst}
use Rattle.spiral_words.specs.Refused.{IsNoSchedule}
use Rattle.spiral_words.proofs.reading.schedule_in.Goals as goal

pub returns-clause-usage : goal.returns-clause-usage
returns-clause-usage c = λ e. subst IsNoSchedule c.text_of.ensures (c.schedule_of.ensures.usage e)
