use Rattle.std.proofs.Common.{◌≡◌, true, arith}
use Rattle.std.specs.Prelude.{length, slice_index}
use Rattle.sigma_spl.specs.Merge.{is_limited}
use Rattle.perm_algebra.specs.Views.{plain_sum}
use Rattle.loop_nests.proofs.LimitLemmas.RoomFacts.{value_inside}
use Rattle.loop_nests.proofs.limits.+carry_within.Goals as goal

pub simplify_in_room-requires-clause-fits : goal.simplify_in_room-requires-clause-fits
simplify_in_room-requires-clause-fits t c = λ vs range.
    let cs = slice_index c.args.counts.now in
    let e = plain_sum c.args.arg.now in
    let low : is_limited c.args.limits.room c.args.limits.size cs e ≡ true = c.is_within-in-Some.ensures.0 c.if-not-is_within.false in
    let below = value_inside (length c.args.counts.now) c.args.limits.room c.args.limits.size cs e c.requires.affine low vs range in
    omega (arith, below)

pub simplify_in_room-requires-clause-defined : goal.simplify_in_room-requires-clause-defined
simplify_in_room-requires-clause-defined t c = λ vs range.
    let cs = slice_index c.args.counts.now in
    let e = plain_sum c.args.arg.now in
    let low : is_limited c.args.limits.room c.args.limits.size cs e ≡ true = c.is_within-in-Some.ensures.0 c.if-not-is_within.false in
    let below = value_inside (length c.args.counts.now) c.args.limits.room c.args.limits.size cs e c.requires.affine low vs range in
    let split = c.in-Some.ensures.cases.0 in
    let can = rw split at c.requires.can in
    can.1 _ below
