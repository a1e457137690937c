use Rattle.std.proofs.Common.{rules, ◌≡◌, sym, ap, ◌∙◌, [], map}
use Rattle.sigma_spl.specs.Merge.{can_multiply, most, multiplied, settled}
use Rattle.sigma_spl.specs.Nest.{spread}
use Rattle.sigma_spl.specs.Views.{plain_factors, plain_nest}
use Rattle.loop_nests.specs.Places.Multiplied.{functions_of}
use Rattle.loop_nests.specs.Places.Views.{waiting_of}
use Rattle.loop_merge.proofs.Diagonals.{copy_leaves, copy_takes}
use Rattle.loop_merge.proofs.multiplying.with_copy.Goals as goal

pub returns-in_ok-push-in-Some : goal.returns-in_ok-push-in-Some
returns-in_ok-push-in-Some c =
    let made = c.in_ok-pass.ensures.some c.in-Some.pass c.in-Some.is in
    copy_takes c.args.limits.room c.args.limits.size (waiting_of c.args.state.waiting.items)
    (functions_of c.args.diagonal) c.args.path.items (plain_factors c.args.diagonal.factors) c.requires.places _ _ _ _
    (ap (map plain_nest) c.deref.ensures.value ∙ c.in_ok-copies.ensures) made.0 made.1 c.in_ok-push-in-Some.ensures.items

pub returns-in_ok-push-in-None : goal.returns-in_ok-push-in-None
returns-in_ok-push-in-None c =
    let room = c.args.limits.room in
    let n = c.args.limits.size in
    let factors = plain_factors c.args.diagonal.factors in
    let places = functions_of c.args.diagonal in
    let none : c.new.result.items ≡ [] = search rules in
    copy_leaves room n (waiting_of c.args.state.waiting.items) places c.args.path.items factors c.requires.places _
    (map plain_nest c.in_ok-copies.copies.items) c.args.state.passes.items c.in_ok-before-in-None.before.items _ _ _
    (ap waiting_of none) c.in_ok-copies.ensures
    (ap (λ zs. can_multiply room n factors places (map plain_nest zs)) (sym c.deref.ensures.value)
    ∙ c.in_ok-pass.ensures.none c.in-None.is)
    (c.in_ok-pass-in-None.ensures
    ∙ ap (λ zs. multiplied (spread c.args.path.items factors) [] (map plain_nest zs)) c.deref-in-None.ensures.value)
    (c.in_ok-before-in-None.ensures ∙ ap (λ xs. settled (most room) n (waiting_of xs)) c.deref-in-None-2.ensures.value)
    c.in_ok-append-in-None.ensures.items c.in_ok-push-in-None.ensures.items
