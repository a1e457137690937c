use Rattle.std.proofs.Common.{◌≡◌, sym, ap, ◌∙◌}
use Rattle.std.specs.Prelude.{slice_index, length}
use Rattle.perm_algebra.specs.Affine.{rest_of}
use Rattle.perm_algebra.specs.Views.{plain_sum}
use Rattle.perm_algebra.specs.declared.parts.Parts.{Parts}
use Rattle.perm_algebra.proofs.Division.{affine_rest}
use Rattle.loop_nests.proofs.LimitLemmas.RoomFacts.{top_there}
use Rattle.loop_nests.proofs.limits.rooms.divide_in_room.Goals as goal

pub top_of-requires : goal.top_of-requires
top_of-requires c = affine_rest (length c.args.counts.now) (slice_index c.args.counts.now) c.args.s (plain_sum c.args.sum.now) (plain_sum c.in_ok-rest.rest) c.in_ok-rest.ensures c.requires.affine

pub returns-clause-quot_form : goal.returns-clause-quot_form
returns-clause-quot_form c = λ p is.
    let same : c.in_ok-parts-in-Some.parts ≡ p = cc in
    let room = top_there (slice_index c.args.counts.now) (rest_of c.args.s (plain_sum c.args.sum.now)) (plain_sum c.in_ok-rest.rest) c.in_ok-rest.ensures (c.top_of.ensures.room _ c.in-Some.is) in
    ap (λ (z : Parts). plain_sum z.quot) (sym same) ∙ c.in_ok-parts-in-Some.ensures.quot_form room

pub returns-clause-rem_form : goal.returns-clause-rem_form
returns-clause-rem_form c = λ p is.
    let same : c.in_ok-parts-in-Some.parts ≡ p = cc in
    let room = top_there (slice_index c.args.counts.now) (rest_of c.args.s (plain_sum c.args.sum.now)) (plain_sum c.in_ok-rest.rest) c.in_ok-rest.ensures (c.top_of.ensures.room _ c.in-Some.is) in
    ap (λ (z : Parts). plain_sum z.rem) (sym same) ∙ c.in_ok-parts-in-Some.ensures.rem_form room
