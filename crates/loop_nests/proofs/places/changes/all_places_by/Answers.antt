use Rattle.index_fn.specs.Index.{mapping_of}
use Rattle.sigma_spl.specs.Views.{plain_nest}
use Rattle.loop_nests.specs.Places.Sides.{nest_can_take, places_by}
use Rattle.loop_nests.specs.Places.Views.{plain_sums}
use Rattle.loop_nests.proofs.PlaceLemmas.Passes.{ready-nest-at, side-within-at}
use Rattle.loop_nests.proofs.PlaceLemmas.Sums.{fails-at, grown}
use Rattle.loop_nests.proofs.places.changes.all_places_by.Goals as goal

pub places_by-requires-clause-ready : goal.places_by-requires-clause-ready
places_by-requires-clause-ready c = ready-nest-at _ plain_nest c.args.nests.now c.loop-nest.nest-index c.nest-item.result c.requires.known.ready c.loop-nest-test.true c.nest-item.is

pub places_by-requires-clause-within : goal.places_by-requires-clause-within
places_by-requires-clause-within c =
    side-within-at c.args.access c.args.limits.room c.args.limits.size _ plain_nest c.args.nests.now c.loop-nest.nest-index c.nest-item.result c.requires.known.within c.loop-nest-test.true c.nest-item.is

pub returns-in-None-clause-none : goal.returns-in-None-clause-none
returns-in-None-clause-none c = λ t.
    fails-at _ _ (nest_can_take c.args.access c.args.limits.room c.args.limits.size (mapping_of c.args.f.now)) plain_nest c.args.nests.now c.loop-nest.nest-index c.nest-item.result c.loop-nest-test.true c.nest-item.is
    (c.in_ok-places_by.ensures.none c.in-None.is)

pub loop-nest-preserved : goal.loop-nest-preserved
loop-nest-preserved c =
    let f = mapping_of c.args.f.now in
    let made = c.in_ok-places_by.ensures.some c.in-Some.places c.in-Some.is in
    grown _ _ _ _ (nest_can_take c.args.access c.args.limits.room c.args.limits.size f) plain_sums (places_by c.args.access f) plain_nest c.loop-nest.all.items c.push.new.self.items c.in-Some.places c.args.nests.now
    c.loop-nest.nest-index c.nest-item.result c.loop-nest-test.true c.nest-item.is c.in_ok-push-in-Some.ensures.items c.loop-nest.invariant made.0 made.1
