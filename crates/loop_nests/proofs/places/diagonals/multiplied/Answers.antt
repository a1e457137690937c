use Rattle.sigma_spl.specs.Nest.{factor_count}
use Rattle.sigma_spl.specs.Views.{plain_factors, plain_nest}
use Rattle.loop_nests.specs.Places.Multiplied.{functions_of, nest_can_multiply, nest_multiplied}
use Rattle.loop_nests.specs.declared.places.access.Access.TheVariants.{Stores}
use Rattle.loop_nests.proofs.PlaceLemmas.Passes.{ready-nest-at, side-within-at}
use Rattle.loop_nests.proofs.PlaceLemmas.Sums.{fails-at, grown}
use Rattle.std.proofs.Common.{◌≡◌, true, false, subst}
use Rattle.loop_nests.proofs.places.diagonals.multiplied.Goals as goal

pub multiplied_nest-requires-clause-ready : goal.multiplied_nest-requires-clause-ready
multiplied_nest-requires-clause-ready c = ready-nest-at _ plain_nest c.args.nests.now c.loop-nest.nest-index c.nest-item.result c.requires.known.ready c.loop-nest-test.true c.nest-item.is

pub multiplied_nest-requires-clause-within : goal.multiplied_nest-requires-clause-within
multiplied_nest-requires-clause-within c =
    side-within-at Stores c.args.limits.room c.args.limits.size _ plain_nest c.args.nests.now c.loop-nest.nest-index c.nest-item.result c.requires.known.within c.loop-nest-test.true c.nest-item.is

pub returns-in-None-clause-none : goal.returns-in-None-clause-none
returns-in-None-clause-none c = λ t.
    let fs = functions_of c.args.diagonal.now in
    let fails = subst (λ count. nest_can_multiply c.args.limits.room c.args.limits.size count fs (plain_nest c.nest-item.result) ≡ false) c.requires.count (c.in_ok-multiplied_nest.ensures.none c.in-None.is) in
    fails-at _ _ (nest_can_multiply c.args.limits.room c.args.limits.size (factor_count (plain_factors c.args.diagonal.now.factors)) fs) plain_nest c.args.nests.now c.loop-nest.nest-index c.nest-item.result
    c.loop-nest-test.true c.nest-item.is fails

pub loop-nest-preserved : goal.loop-nest-preserved
loop-nest-preserved c =
    let fs = functions_of c.args.diagonal.now in
    let made = c.in_ok-multiplied_nest.ensures.some c.in-Some.nest c.in-Some.is in
    let holds = subst (λ count. nest_can_multiply c.args.limits.room c.args.limits.size count fs (plain_nest c.nest-item.result) ≡ true) c.requires.count made.0 in
    grown _ _ _ _ (nest_can_multiply c.args.limits.room c.args.limits.size (factor_count (plain_factors c.args.diagonal.now.factors)) fs) plain_nest (nest_multiplied (plain_factors c.args.diagonal.now.factors) fs) plain_nest c.loop-nest.changed.items c.push.new.self.items
    c.in-Some.nest c.args.nests.now c.loop-nest.nest-index c.nest-item.result c.loop-nest-test.true c.nest-item.is c.in_ok-push-in-Some.ensures.items c.loop-nest.invariant holds made.1
