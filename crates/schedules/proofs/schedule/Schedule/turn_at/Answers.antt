use Rattle.std.proofs.Common.{ap, sym, ◌∙◌, arith}
use Rattle.schedules.specs.Schedule.{as_plan}
use Rattle.schedules.proofs.Turns.{length_seeded, few_seeded, turn_of_rounds, turn_of_seeded}
use Rattle.schedules.proofs.schedule.Schedule.turn_at.Goals as goal

pub generated-requires : goal.generated-requires
generated-requires c =
    let count = length_seeded c.args.self.now c.in-Seeded.seed c.in-Seeded.count c.args.p (sym (ap as_plan c.in-Seeded.is) ∙ c.self.view_is) in
    omega (arith, count, c.requires.place, few_seeded c.self.inside.turns c.in-Seeded.seed c.in-Seeded.count c.self.invariant c.in-Seeded.is)

pub returns-in-Rounds : goal.returns-in-Rounds
returns-in-Rounds c = turn_of_rounds c.args.self.now c.in-Rounds.count c.args.p c.args.i (sym (ap as_plan c.in-Rounds.is) ∙ c.self.view_is) (omega arith) c.requires.place

pub returns-in-Seeded : goal.returns-in-Seeded
returns-in-Seeded c = turn_of_seeded c.args.self.now c.in-Seeded.seed c.in-Seeded.count c.args.p c.args.i c.generated.result (sym (ap as_plan c.in-Seeded.is) ∙ c.self.view_is) c.generated.ensures c.requires.place
