use Rattle.std.proofs.Common.{◌≡◌, ◌≢◌, ◌+◌, ◌*◌, ◌^◌, ◌<◌, ◌∷◌, ap, ap₂, subst, sym, rules}
use Rattle.matrix_meaning.specs.declared.Dimensions.TheVariants.{One}
use Rattle.matrix_meaning.specs.declared.Request.{Request}
use Rattle.tree_model.specs.Chosen.{CanDivideWhole}
use Rattle.plan_search.proofs.WholeChosen.{rest_divides}
use Rattle.plan_cert.proofs.Members.{both_fit, combined_sizes, last_cost, least_of_both, small_of_both, verdict_of_both}
use Rattle.plan_cert.proofs.verdict.+check_values.Goals as goal

pub check_values-requires : goal.check_values-requires
check_values-requires t c =
    let some : c.args.c.now.dimensions ≢ One = search rules in
    (search rules, subst CanDivideWhole (sym c.in-Some-parts.ensures.some.1) (rest_divides c.args.c.now some))

pub combined-requires-in-Some-parts : goal.combined-requires-in-Some-parts
combined-requires-in-Some-parts t c = λ x y p q.
    let some : c.args.c.now.dimensions ≢ One = search rules in
    let sizes = ap₂ (λ s r. s * x + r * y) (ap (λ (r : Request). r.size) c.request-s.ensures.value)
    (ap (λ (r : Request). r.size) c.request-r.ensures.value) in
    subst (λ n. n < 2 ^ 64) (sym sizes)
    (both_fit c.args.c.now _ _ (c.request-request.ensures.valid).in_range some
    c.in-Some-parts.ensures.some.0 c.in-Some-parts.ensures.some.1
    c.in_ok-a-in-Some-parts.a c.in_ok-b-in-Some-parts.b c.in_ok-a-in-Some-parts.ensures.small
    c.in_ok-b-in-Some-parts.ensures.small x y p q)

pub returns-in_ok-a-in-None-clause-least : goal.returns-in_ok-a-in-None-clause-least
returns-in_ok-a-in-None-clause-least t c = λ cost is.
    c.in_ok-a-in-None.ensures.least cost
    (last_cost c.request-request.result.size _ c.in_ok-a-in-None.a c.no_more.result c.combined.result cost c.no_more.ensures c.combined.ensures is)

pub returns-in_ok-b-in-Some-parts-clause-verdict : goal.returns-in_ok-b-in-Some-parts-clause-verdict
returns-in_ok-b-in-Some-parts-clause-verdict t c =
    let some : c.args.c.now.dimensions ≢ One = search rules in
    let whole : c.args.values.now ≡ c.in-Some.value.now ∷ c.in-Some.rest.now = search rules in
    verdict_of_both c.args.c.now _ _ some c.in-Some-parts.ensures.some.0 c.in-Some-parts.ensures.some.1
    c.args.values.now c.in-Some.value.now c.in-Some.rest.now c.in_ok-a-in-Some-parts.a c.in_ok-b-in-Some-parts.b
    c.combined-in-Some-parts.result
    whole c.in_ok-a-in-Some-parts.ensures.verdict c.in_ok-b-in-Some-parts.ensures.verdict
    (combined_sizes _ _ _ _ _ _ _ c.request-r.ensures.value c.request-s.ensures.value c.combined-in-Some-parts.ensures)

pub returns-in_ok-b-in-Some-parts-clause-least : goal.returns-in_ok-b-in-Some-parts-clause-least
returns-in_ok-b-in-Some-parts-clause-least t c = λ cost is.
    let some : c.args.c.now.dimensions ≢ One = search rules in
    least_of_both c.args.c.now _ _ (c.request-request.ensures.valid).in_range some
    c.in-Some-parts.ensures.some.0 c.in-Some-parts.ensures.some.1 c.requires
    c.in_ok-a-in-Some-parts.a c.in_ok-b-in-Some-parts.b c.combined-in-Some-parts.result
    c.in_ok-a-in-Some-parts.ensures.least c.in_ok-b-in-Some-parts.ensures.least cost
    (combined_sizes _ _ _ _ _ _ _ c.request-r.ensures.value c.request-s.ensures.value c.combined-in-Some-parts.ensures) is

pub returns-in_ok-b-in-Some-parts-clause-small : goal.returns-in_ok-b-in-Some-parts-clause-small
returns-in_ok-b-in-Some-parts-clause-small t c = λ cost is.
    let some : c.args.c.now.dimensions ≢ One = search rules in
    small_of_both c.args.c.now _ _ (c.request-request.ensures.valid).in_range some
    c.in-Some-parts.ensures.some.0 c.in-Some-parts.ensures.some.1
    c.in_ok-a-in-Some-parts.a c.in_ok-b-in-Some-parts.b c.in_ok-a-in-Some-parts.ensures.small
    c.in_ok-b-in-Some-parts.ensures.small
    c.combined-in-Some-parts.result cost
    (combined_sizes _ _ _ _ _ _ _ c.request-r.ensures.value c.request-s.ensures.value c.combined-in-Some-parts.ensures) is
