use Rattle.std.proofs.Common.{rules}
use Rattle.sigma_spl.specs.Views.{plain_term}
use Rattle.sigma_spl.proofs.PlainLemmas.Vectors.{next_vector}
use Rattle.sigma_spl.proofs.plain.terms.+terms_times.Goals as goal

pub terms_times-requires : goal.terms_times-requires
terms_times-requires t c = (
  search rules,
  (
    c.requires.size,
    (
      search rules,
      next_vector c.args.m.now c.args.n (plain_term c.in-Some.term.now) c.args.x.now _ _ (search rules) c.requires.vector c.in_ok-y-in-Some.ensures c.deref.ensures.value,
    ),
  ),
)
