use Rattle.std.proofs.Common.{ap, sym, ◌∙◌}
use Rattle.std.specs.Prelude.{map}
use Rattle.sigma_lower.specs.Merged.{closed_phases}
use Rattle.sigma_lower.proofs.Closing.{closed_last}
use Rattle.sigma_spl.specs.Term.{product}
use Rattle.sigma_spl.specs.Views.{plain_term}
use Rattle.sigma_lower.proofs.tree.closed_phases.Goals as goal

pub returns-in_ok-push-in-Some-pop : goal.returns-in_ok-push-in-Some-pop
returns-in_ok-push-in-Some-pop c =
    let last = c.in-Some-pop.last in
    let made = c.in_ok-closed-in-Some-pop.ensures ∙ ap (product (plain_term last)) c.in_ok-products-in-Some-pop.ensures in
    closed_last c.args.size c.in-Some.value c.args.phases.items c.push.new.self.items c.pop.new.self.items last c.in_ok-closed-in-Some-pop.closed
    c.in-Some-pop.ensures.items c.in_ok-push-in-Some-pop.ensures.items made
    ∙ ap (λ closing. closed_phases c.args.size closing (map plain_term c.args.phases.items)) (sym c.in-Some.is)
