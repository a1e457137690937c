use Rattle.std.specs.Prelude.{length, map, slice_index}
use Rattle.index_fn.specs.Index.{mapping_of}
use Rattle.sigma_spl.specs.Merge.{all_simplified, carries_sum}
use Rattle.perm_algebra.specs.Views.{plain_sum}
use Rattle.loop_nests.proofs.PlaceLemmas.Sums.{place-at, fails-at, grown}
use Rattle.loop_nests.proofs.places.diagonals.carried_sums.Goals as goal

pub carry_within-requires-clause-affine : goal.carry_within-requires-clause-affine
carry_within-requires-clause-affine c =
    (place-at c.args.limits.room c.args.limits.size (length c.args.counts.now) (slice_index c.args.counts.now) _ plain_sum c.args.sums.now c.loop-sum.sum-index c.sum-item.result
    c.requires.size c.requires.ready c.requires.within c.loop-sum-test.true c.sum-item.is).is_affine

pub returns-in-None-clause-none : goal.returns-in-None-clause-none
returns-in-None-clause-none c = λ t.
    fails-at _ _ (carries_sum c.args.limits.room c.args.limits.size c.args.count (slice_index c.args.counts.now) (map mapping_of c.args.functions.now)) plain_sum c.args.sums.now
    c.loop-sum.sum-index c.sum-item.result c.loop-sum-test.true c.sum-item.is (c.in_ok-carry_within.ensures.none c.in-None.is)

pub loop-sum-preserved : goal.loop-sum-preserved
loop-sum-preserved c =
    let cs = slice_index c.args.counts.now in
    let fs = map mapping_of c.args.functions.now in
    let made = c.in_ok-carry_within.ensures in
    grown _ _ _ _ (carries_sum c.args.limits.room c.args.limits.size c.args.count cs fs) plain_sum (all_simplified cs fs) plain_sum c.loop-sum.places.items c.push.new.self.items c.in-Some.place
    c.args.sums.now c.loop-sum.sum-index c.sum-item.result c.loop-sum-test.true c.sum-item.is c.in_ok-push-in-Some.ensures.items c.loop-sum.invariant
    (made.carries c.in-Some.place c.in-Some.is) (made.some c.in-Some.place c.in-Some.is)
