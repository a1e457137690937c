use Rattle.std.proofs.Common.{◌≡◌, ap, ◌∙◌, subst, sym}
use Rattle.matrix_meaning.specs.declared.Request.{Request}
use Rattle.sigma_spl.proofs.PlainLemmas.Fitting.{good_fit}
use Rattle.sigma_spl.specs.Sigma.{sigma_on}
use Rattle.sigma_spl.specs.Views.{plain_sigma}
use Rattle.spl_ast.specs.Meaning.{IsVector}
use Rattle.worked_texts.proofs.products.times.Goals as goal

pub apply_plain-requires-clause-fits : goal.apply_plain-requires-clause-fits
apply_plain-requires-clause-fits c =
    (good_fit (plain_sigma c.in_ok-terms.terms) c.in_ok-terms.ensures.good).1

pub apply_plain-requires-clause-vector : goal.apply_plain-requires-clause-vector
apply_plain-requires-clause-vector c =
    let same : c.unwrap-modulus.result ≡ c.request-request.result.modulus = rw c.unwrap-modulus.ensures at c.new.ensures.value in
    let modulus = same ∙ ap (λ (r : Request). r.modulus) c.request-request.ensures.value in
    subst (λ n. IsVector c.unwrap-modulus.result n c.args.x.now) (sym c.in_ok-terms.ensures.size)
    (subst (λ m. IsVector m c.args.c.now.size c.args.x.now) (sym modulus) c.requires.vector)

pub returns : goal.returns
returns c =
    let x = c.args.x.now in
    let same : c.unwrap-modulus.result ≡ c.request-request.result.modulus = rw c.unwrap-modulus.ensures at c.new.ensures.value in
    let modulus = same ∙ ap (λ (r : Request). r.modulus) c.request-request.ensures.value in
    c.in_ok-y.ensures.value
    ∙ ap (λ m. sigma_on m (plain_sigma c.in_ok-terms.terms) x) modulus
    ∙ c.in_ok-terms.ensures.meaning x c.requires.vector
