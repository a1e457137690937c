use Rattle.std.proofs.Common.{◌∙◌, sym, ap}
use Rattle.icode.specs.Plain.{plain_body}
use Rattle.nests.specs.Rounds.{first_store}
use Rattle.nests.specs.Views.{are_independent_in}
use Rattle.interchange.proofs.Sunk.{nest-ordered, nest-stays}
use Rattle.interchange.proofs.programs.interchange_loop.Goals as goal

pub returns-then-are_independent : goal.returns-then-are_independent
returns-then-are_independent c =
    c.order.ensures
    ∙ sym (nest-ordered c.args.lanes c.args.count.now (plain_body c.args.body.now)
    (ap (λ r. are_independent_in c.args.lanes (plain_body c.args.body.now) (first_store r) r) (sym c.innermost.ensures) ∙ (sym c.are_independent.ensures ∙ c.if-are_independent.true)))

pub returns-else-are_independent : goal.returns-else-are_independent
returns-else-are_independent c =
    sym (nest-stays c.args.lanes c.args.count.now (plain_body c.args.body.now)
    (ap (λ r. are_independent_in c.args.lanes (plain_body c.args.body.now) (first_store r) r) (sym c.innermost.ensures) ∙ (sym c.are_independent.ensures ∙ c.if-are_independent.false)))
