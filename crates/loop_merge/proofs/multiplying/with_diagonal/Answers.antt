use Rattle.std.proofs.Common.{sym, ap₂, ◌∙◌, subst, arith, ◌<◌}
use Rattle.sigma_spl.specs.Merge.{factor_places}
use Rattle.sigma_spl.specs.Views.{plain_factors}
use Rattle.loop_nests.specs.Places.Known.{AreSteps}
use Rattle.loop_nests.specs.Limits.Leading.{CanCarry}
use Rattle.loop_nests.specs.Places.Views.{waiting_of}
use Rattle.loop_nests.proofs.PlaceLemmas.Carries.{carry-places}
use Rattle.sigma_spl.proofs.Fitting.{has_count}
use Rattle.loop_merge.proofs.Readies.{low}
use Rattle.loop_merge.proofs.multiplying.with_diagonal.Goals as goal

pub multiplied_last-requires-clause-can : goal.multiplied_last-requires-clause-can
multiplied_last-requires-clause-can c =
    let n = c.args.limits.size in
    let factors = plain_factors c.args.factors in
    subst (CanCarry n) (sym (c.in_ok-places.ensures ∙ ap₂ (λ ws path. factor_places (waiting_of ws) path factors) c.deref.ensures.value c.deref-2.ensures.value))
    (carry-places n (waiting_of c.args.state.waiting.items) c.args.path.items factors c.requires.room.some (low c.args.limits.room n c.requires.room) c.requires.known.waiting c.requires.size)

pub factor_count-count-requires : goal.factor_count-count-requires
factor_count-count-requires c =
    let n = c.args.limits.size in
    has_count c.args.path.items (plain_factors c.args.factors) (subst (λ z. 0 < z) (sym c.requires.size) c.requires.room.some)
    (omega (arith, c.requires.size, low c.args.limits.room n c.requires.room))

pub factor_places-requires-clause-waiting : goal.factor_places-requires-clause-waiting
factor_places-requires-clause-waiting c =
    let n = c.args.limits.size in
    (n, subst (λ ws. AreSteps n (waiting_of ws)) (sym c.deref.ensures.value) c.requires.known.waiting)
