use Rattle.std.proofs.Common.{sym, ap, ap₂, ◌∙◌, map}
use Rattle.sigma_spl.specs.Merge.{multiplied}
use Rattle.sigma_spl.specs.Views.{plain_factors, plain_nest}
use Rattle.loop_nests.specs.Places.Multiplied.{functions_of}
use Rattle.loop_nests.specs.Places.Views.{waiting_of}
use Rattle.loop_merge.specs.Taken.{takes_diagonal}
use Rattle.loop_merge.proofs.Diagonals.{last_leaves, last_takes}
use Rattle.loop_merge.proofs.multiplying.multiplied_last.Goals as goal

pub returns-in_ok-push-in-Some-2 : goal.returns-in_ok-push-in-Some-2
returns-in_ok-push-in-Some-2 c =
    let room = c.args.limits.room in
    let n = c.args.limits.size in
    let factors = plain_factors c.args.diagonal.factors in
    let places = functions_of c.args.diagonal in
    let made = c.in_ok-pass.ensures.some c.in-Some-2.pass c.in-Some-2.is in
    last_takes room n (waiting_of c.args.state.waiting.items) places c.args.path.items factors c.requires.places _ _ _ _ _
    c.in-Some.ensures.items
    (ap₂ (λ p zs. takes_diagonal room n p factors places (map plain_nest zs)) (sym c.deref.ensures.value) (sym c.deref-2.ensures.value)
    ∙ made.0) (made.1 ∙ ap (λ zs. multiplied factors places (map plain_nest zs)) c.deref-2.ensures.value)
    c.in_ok-push-in-Some-2.ensures.items

pub returns-in_ok-next-in-None : goal.returns-in_ok-next-in-None
returns-in_ok-next-in-None c =
    let room = c.args.limits.room in
    let n = c.args.limits.size in
    let factors = plain_factors c.args.diagonal.factors in
    let places = functions_of c.args.diagonal in
    c.in_ok-next-in-None.ensures
    ∙ last_leaves room n (waiting_of c.args.state.waiting.items) places c.args.path.items factors c.requires.places _ _ _ _
    c.in-Some.ensures.items
    (ap₂ (λ p zs. takes_diagonal room n p factors places (map plain_nest zs)) (sym c.deref.ensures.value) (sym c.deref-2.ensures.value)
    ∙ c.in_ok-pass.ensures.none c.in-None.is) c.in_ok-push-in-None.ensures.items
