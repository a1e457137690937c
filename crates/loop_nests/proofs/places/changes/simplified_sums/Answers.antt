use Rattle.std.specs.Prelude.{length, slice_index}
use Rattle.index_fn.specs.Index.{mapping_of}
use Rattle.perm_algebra.specs.Affine.{simplified}
use Rattle.perm_algebra.specs.Views.{plain_sum}
use Rattle.loop_nests.specs.Limits.Leading.{can_lead}
use Rattle.loop_nests.proofs.PlaceLemmas.Sums.{place-at, fails-at, grown, leads}
use Rattle.loop_nests.proofs.places.changes.simplified_sums.Goals as goal

pub simplify_within-requires-clause-affine : goal.simplify_within-requires-clause-affine
simplify_within-requires-clause-affine c =
    (place-at c.args.limits.room c.args.limits.size (length c.args.counts.now) (slice_index c.args.counts.now) _ plain_sum c.args.sums.now c.loop-sum.sum-index c.sum-item.result
    c.requires.leads.0 c.requires.ready c.requires.within c.loop-sum-test.true c.sum-item.is).is_affine

pub simplify_within-requires-clause-fits : goal.simplify_within-requires-clause-fits
simplify_within-requires-clause-fits c =
    (place-at c.args.limits.room c.args.limits.size (length c.args.counts.now) (slice_index c.args.counts.now) _ plain_sum c.args.sums.now c.loop-sum.sum-index c.sum-item.result
    c.requires.leads.0 c.requires.ready c.requires.within c.loop-sum-test.true c.sum-item.is).fits

pub simplify_within-requires-clause-defined : goal.simplify_within-requires-clause-defined
simplify_within-requires-clause-defined c = λ vs range.
    c.requires.leads.2 _ ((place-at c.args.limits.room c.args.limits.size (length c.args.counts.now) (slice_index c.args.counts.now) _ plain_sum c.args.sums.now c.loop-sum.sum-index c.sum-item.result
    c.requires.leads.0 c.requires.ready c.requires.within c.loop-sum-test.true c.sum-item.is).below vs range)

pub returns-in-None-clause-none : goal.returns-in-None-clause-none
returns-in-None-clause-none c = λ t.
    fails-at _ _ (can_lead c.args.limits.room c.args.limits.size (slice_index c.args.counts.now) (mapping_of c.args.f.now)) plain_sum c.args.sums.now c.loop-sum.sum-index c.sum-item.result
    c.loop-sum-test.true c.sum-item.is (c.in_ok-simplify_within.ensures.none c.in-None.is)

pub loop-sum-preserved : goal.loop-sum-preserved
loop-sum-preserved c =
    let room = c.args.limits.room in
    let n = c.args.limits.size in
    let cs = slice_index c.args.counts.now in
    let f = mapping_of c.args.f.now in
    let made = c.in_ok-simplify_within.ensures in
    let is = made.some c.in-Some.place c.in-Some.is in
    grown _ _ _ _ (can_lead room n cs f) plain_sum (simplified cs f) plain_sum c.loop-sum.places.items c.push.new.self.items c.in-Some.place c.args.sums.now c.loop-sum.sum-index c.sum-item.result
    c.loop-sum-test.true c.sum-item.is c.in_ok-push-in-Some.ensures.items c.loop-sum.invariant
    (leads room n cs f (plain_sum c.sum-item.result) (plain_sum c.in-Some.place) (made.room c.in-Some.place c.in-Some.is) (made.limited c.in-Some.place c.in-Some.is) is) is
