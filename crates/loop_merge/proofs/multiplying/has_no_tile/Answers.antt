use Rattle.std.proofs.Common.{sym, ap, ◌∙◌}
use Rattle.std.specs.Prelude.{not}
use Rattle.sigma_spl.specs.Merge.{is_tile}
use Rattle.sigma_spl.specs.Nest.{PlainNest}
use Rattle.sigma_spl.specs.Views.{plain_nest}
use Rattle.loop_nests.proofs.PlaceLemmas.Sums.{fails-at}
use Rattle.loop_merge.proofs.multiplying.has_no_tile.Goals as goal

pub returns-then-is_tile : goal.returns-then-is_tile
returns-then-is_tile c =
    sym (fails-at _ _ (λ (z : PlainNest). not (is_tile z.work)) plain_nest c.args.nests.now c.loop-nest.nest-index c.nest-item.result c.loop-nest-test.true c.nest-item.is (ap not (sym c.is_tile.ensures ∙ c.if-is_tile.true)))
