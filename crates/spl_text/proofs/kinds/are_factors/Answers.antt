use Rattle.spl_text.proofs.Coprime.{are_coprime_is}
use Rattle.spl_text.proofs.kinds.are_factors.Goals as goal

pub returns-clause-value : goal.returns-clause-value
returns-clause-value c = are_coprime_is c.args.r c.args.s c.is_coprime.result c.if-r-lt2.false c.if-s-lt2.false c.is_coprime.ensures
