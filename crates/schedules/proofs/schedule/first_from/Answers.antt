use Rattle.std.proofs.Common.{rules, tests, ◌∙◌, nat_le}
use Rattle.std.proofs.lemmas.Iterator.{YieldsList-from_slice}
use Rattle.std.proofs.lemmas.Iterator.Search.{find_from_yields_List}
use Rattle.schedules.proofs.schedule.first_from.Goals as goal

pub returns : goal.returns
returns c =
    c.copied.ensures
    ∙ find_from_yields_List (λ q. nat_le c.args.p q) _ _ c.find.result c.find.ensures.ran (YieldsList-from_slice c.args.turns.now cc) (λ x b q k. search (rules, tests))
