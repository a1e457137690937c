use Rattle.std.proofs.Common.{◌≡◌, ap, ◌∙◌, rules}
use Rattle.perm_algebra.specs.Affine.{scaled, value}
use Rattle.perm_algebra.specs.Contract.{IsSumOver}
use Rattle.perm_algebra.specs.Views.{plain_sum}
use Rattle.perm_algebra.proofs.AffineLaws.{value-scaled}
use Rattle.loop_nests.proofs.LimitLemmas.Constants.{made_is}
use Rattle.loop_nests.proofs.limits.rooms.scale_in_room.Goals as goal

pub returns-clause-value : goal.returns-clause-value
returns-clause-value c = λ x is vs.
    let form : plain_sum x ≡ scaled c.args.k (plain_sum c.args.sum) = search rules in
    ap (λ a. value a vs) form ∙ value-scaled c.args.k (plain_sum c.args.sum) vs

pub returns-clause-affine : goal.returns-clause-affine
returns-clause-affine c = λ counts h x is.
    made_is (IsSumOver counts) c.multiple.result x is (c.multiple.ensures.affine counts h)
