use Rattle.std.proofs.Common.{◌≡◌, ap, ◌∙◌, subst, true}
use Rattle.std.specs.Prelude.{map}
use Rattle.sigma_spl.specs.Views.{plain_factors, plain_nest}
use Rattle.perm_algebra.specs.Views.{plain_sum}
use Rattle.loop_nests.specs.Places.Multiplied.{functions_of, nest_multiplied}
use Rattle.loop_nests.specs.Places.Sums.{all_limits, can_carry_all, carried_by}
use Rattle.loop_nests.specs.Places.Views.{mappings_of, multiplied_by}
use Rattle.loop_nests.proofs.LimitLemmas.Constants.{made_is}
use Rattle.loop_nests.proofs.places.diagonals.multiplied_anew.Goals as goal

pub returns-clause-some : goal.returns-clause-some
returns-clause-some c = λ x e.
    let z = plain_nest c.args.nest.now in
    let factors = plain_factors c.args.diagonal.now.factors in
    let functions = functions_of c.args.diagonal.now in
    let room = c.args.limits.room in
    let n = c.args.limits.size in
    let count = c.args.diagonal.now.count in
    let cs = c.deref-2.result.now in
    let fs = c.as_slice-functions.result.now in
    let limits : cs ≡ all_limits z = c.deref-2.ensures ∙ c.in_ok-counts.ensures in
    let made = c.in_ok-carried_sums.ensures.some c.in-Some.places c.in-Some.is in
    let can = subst (λ ls. can_carry_all room n count ls functions z.scatters ≡ true) limits
    (subst (λ gs. can_carry_all room n count cs (mappings_of gs) z.scatters ≡ true) c.as_slice-functions.ensures.value
    (subst (λ es. can_carry_all room n count cs (mappings_of fs) (map plain_sum es) ≡ true) c.deref.ensures.value made.0)) in
    let places = made.1
    ∙ ap (λ es. carried_by cs (mappings_of fs) (map plain_sum es)) c.deref.ensures.value
    ∙ ap (λ gs. carried_by cs (mappings_of gs) z.scatters) c.as_slice-functions.ensures.value
    ∙ ap (λ ls. carried_by ls functions z.scatters) limits in (
      can,
      made_is (λ y. plain_nest y ≡ nest_multiplied factors functions z) _ x e
          (c.in_ok-other-in-Some.ensures ∙ ap (multiplied_by z factors) places),
    )
