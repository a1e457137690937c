use Rattle.std.proofs.Common.{ℕ, List, sym, subst}
use Rattle.sigma_spl.specs.Views.{plain_sigma}
use Rattle.sigma_spl.proofs.PlainLemmas.Vectors.{terms_vector}
use Rattle.spl_ast.specs.Meaning.{IsVector}
use Rattle.sigma_spl.proofs.term.Sigma.apply_plain.Goals as goal

pub terms_times-requires-clause-fit : goal.terms_times-requires-clause-fit
terms_times-requires-clause-fit c = rw c.deref.ensures.value c.requires.fits

pub returns-clause-vector : goal.returns-clause-vector
returns-clause-vector c =
    let m = c.args.m.now in
    let sigma = plain_sigma c.args.sigma.now in
    let P : List ℕ → Type 0 = λ y. IsVector m sigma.size y in
    subst P (sym (rw c.deref.ensures.value at c.in_ok-y.ensures))
    (terms_vector m sigma.size sigma.phases c.args.x.now c.requires.fits c.requires.vector)
