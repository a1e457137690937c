use Rattle.std.proofs.Common.{sym, ◌∙◌}
use Rattle.std.proofs.lemmas.Bool.{and_from}
use Rattle.loop_merge.proofs.multiplying.multiplied_if_suited.Goals as goal

pub returns-clause-some : goal.returns-clause-some
returns-clause-some c = λ zs is.
    let made = c.in_ok-changed.ensures.some zs is in (and_from _ _ (sym c.suits.ensures ∙ c.if-not-suits.false) made.0, made.1)
