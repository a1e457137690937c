use Rattle.std.proofs.Common.{◌≡◌, sym, ap, ◌∙◌}
use Rattle.std.specs.Prelude.{slice_index, length}
use Rattle.perm_algebra.specs.Affine.{mods}
use Rattle.perm_algebra.specs.Views.{plain_sum}
use Rattle.perm_algebra.proofs.Division.{affine_mods}
use Rattle.loop_nests.proofs.LimitLemmas.RoomFacts.{top_there}
use Rattle.loop_nests.proofs.limits.rooms.reduce_in_room.Goals as goal

pub top_of-requires : goal.top_of-requires
top_of-requires c = affine_mods (length c.args.counts.now) (slice_index c.args.counts.now) c.args.n (plain_sum c.args.sum.now) (plain_sum c.in_ok-small.small) c.in_ok-small.ensures c.requires.affine

pub returns-clause-some : goal.returns-clause-some
returns-clause-some c = λ a is.
    let same : c.in_ok-sum-in-Some.sum ≡ a = cc in
    let room = top_there (slice_index c.args.counts.now) (mods c.args.n (plain_sum c.args.sum.now)) (plain_sum c.in_ok-small.small) c.in_ok-small.ensures (c.top_of.ensures.room _ c.in-Some.is) in
    ap plain_sum (sym same) ∙ c.in_ok-sum-in-Some.ensures.form room
