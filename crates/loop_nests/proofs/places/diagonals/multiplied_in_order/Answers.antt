use Rattle.std.specs.Prelude.{[]}
use Rattle.sigma_spl.specs.Views.{plain_factors, plain_nest}
use Rattle.loop_nests.specs.Places.Multiplied.{nest_multiplied}
use Rattle.loop_nests.proofs.PlaceLemmas.Sums.{mapped-more}
use Rattle.loop_nests.proofs.places.diagonals.multiplied_in_order.Goals as goal

pub loop-nest-preserved : goal.loop-nest-preserved
loop-nest-preserved c =
    mapped-more _ _ _ _ plain_nest (nest_multiplied (plain_factors c.args.factors.now) []) plain_nest c.loop-nest.changed.items c.push.new.self.items c.in_ok-multiplied_by_place.field-0 c.args.nests.now c.loop-nest.nest-index c.nest-item.result
    c.loop-nest-test.true c.nest-item.is c.in_ok-push.ensures.items c.loop-nest.invariant c.in_ok-multiplied_by_place.ensures
