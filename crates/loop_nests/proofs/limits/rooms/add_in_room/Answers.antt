use Rattle.std.proofs.Common.{◌≡◌, ap, ◌∙◌, rules}
use Rattle.perm_algebra.specs.Affine.{added, value}
use Rattle.perm_algebra.specs.Contract.{IsSumOver}
use Rattle.perm_algebra.specs.Views.{plain_sum}
use Rattle.perm_algebra.proofs.AffineLaws.{value-added}
use Rattle.loop_nests.proofs.LimitLemmas.Constants.{made_is}
use Rattle.loop_nests.proofs.limits.rooms.add_in_room.Goals as goal

pub returns-clause-value : goal.returns-clause-value
returns-clause-value c = λ x is vs.
    let form : plain_sum x ≡ added (plain_sum c.args.a) (plain_sum c.args.b) = search rules in
    ap (λ a. value a vs) form ∙ value-added (plain_sum c.args.a) (plain_sum c.args.b) vs

pub returns-clause-affine : goal.returns-clause-affine
returns-clause-affine c = λ counts h g x is.
    made_is (IsSumOver counts) c.both.result x is (c.both.ensures.affine counts h g)
