use Rattle.std.proofs.Common.{ap, ◌∙◌, []}
use Rattle.std.specs.Prelude.{map}
use Rattle.sigma_spl.specs.Merge.{multiplied}
use Rattle.loop_merge.specs.MultipliedPasses.Multiplied.{with_factors}
use Rattle.loop_merge.proofs.MultipliedPasses.InOrder.{in_order_is}
use Rattle.loop_merge.proofs.MultipliedPasses.Lasts.{changed_last}
use Rattle.sigma_spl.specs.Views.{plain_factors, plain_nest}
use Rattle.loop_merge.proofs.multiplied_passes.multiply_last_pass.Goals as goal

pub returns-in_ok-push-in-Some : goal.returns-in_ok-push-in-Some
returns-in_ok-push-in-Some c =
    let factors = plain_factors c.args.factors.now in
    changed_last (λ zs. map plain_nest zs.items) (map (with_factors factors)) c.pop.new.self.items c.args.passes.items
    c.push.new.self.items c.in-Some.last c.in_ok-multiplied_in_order-in-Some.field-0 c.in-Some.ensures.items
    c.in_ok-push-in-Some.ensures.items
    (c.in_ok-multiplied_in_order-in-Some.ensures
    ∙ ap (λ ns. multiplied factors [] (map plain_nest ns)) c.deref.ensures.value
    ∙ in_order_is factors (map plain_nest c.in-Some.last.items))
