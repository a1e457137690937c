use Rattle.std.proofs.Common.{ap, sym, ◌∙◌, arith}
use Rattle.schedules.specs.Schedule.{as_plan}
use Rattle.schedules.proofs.Turns.{length_rounds, length_seeded, few_rounds, few_seeded, few_named}
use Rattle.schedules.proofs.schedule.Schedule.len.Goals as goal

pub returns-in-Rounds-clause-value : goal.returns-in-Rounds-clause-value
returns-in-Rounds-clause-value c = length_rounds c.args.self.now c.in-Rounds.count c.args.p (sym (ap as_plan c.in-Rounds.is) ∙ c.self.view_is)

pub returns-in-Rounds-clause-few : goal.returns-in-Rounds-clause-few
returns-in-Rounds-clause-few c = few_rounds c.self.inside.turns c.in-Rounds.count c.args.p c.self.invariant c.in-Rounds.is c.requires.1

pub returns-in-Seeded-clause-value : goal.returns-in-Seeded-clause-value
returns-in-Seeded-clause-value c = length_seeded c.args.self.now c.in-Seeded.seed c.in-Seeded.count c.args.p (sym (ap as_plan c.in-Seeded.is) ∙ c.self.view_is)

pub returns-in-Seeded-clause-few : goal.returns-in-Seeded-clause-few
returns-in-Seeded-clause-few c = omega (arith, few_seeded c.self.inside.turns c.in-Seeded.seed c.in-Seeded.count c.self.invariant c.in-Seeded.is)

pub returns-in-Named-clause-few : goal.returns-in-Named-clause-few
returns-in-Named-clause-few c = omega (arith, few_named c.self.inside.turns c.in-Named.turns c.self.invariant c.in-Named.is)
