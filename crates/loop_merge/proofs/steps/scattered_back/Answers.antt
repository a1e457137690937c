use Rattle.std.proofs.Common.{◌≡◌, subst, true, false}
use Rattle.sigma_spl.specs.Merge.{can_scatter, most, scattered}
use Rattle.loop_nests.specs.Places.Changes.{ForMade, ForRefused}
use Rattle.loop_nests.specs.Views.{plain_pass}
use Rattle.loop_merge.proofs.steps.scattered_back.Goals as goal

pub returns-clause-made : goal.returns-clause-made
returns-clause-made c =
    let nests = plain_pass c.args.nests in
    subst (λ g. ForMade c.in_ok-change.change (λ zs. (can_scatter (most c.args.limits.room) c.args.limits.size g nests ≡ true) × (zs ≡ scattered g nests)))
    (c.in_ok-back.ensures.form c.requires.step.numbers.undone) c.in_ok-change.ensures.made

pub returns-clause-refused : goal.returns-clause-refused
returns-clause-refused c =
    let nests = plain_pass c.args.nests in
    subst (λ g. ForRefused c.in_ok-change.change (λ zs. (can_scatter (most c.args.limits.room) c.args.limits.size g nests ≡ false) × (zs ≡ nests)))
    (c.in_ok-back.ensures.form c.requires.step.numbers.undone) c.in_ok-change.ensures.refused
