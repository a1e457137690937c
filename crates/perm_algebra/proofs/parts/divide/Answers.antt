use Rattle.std.specs.Prelude.{slice_index}
use Rattle.perm_algebra.specs.Views.{plain_sum}
use Rattle.perm_algebra.proofs.Division.{quotient_read}
use Rattle.perm_algebra.proofs.parts.divide.Goals as goal

pub returns-in_ok-quot-clause-quot : goal.returns-in_ok-quot-clause-quot
returns-in_ok-quot-clause-quot c =
    quotient_read (slice_index c.args.counts.now) c.args.s (plain_sum c.args.sum.now) (plain_sum c.in_ok-quot.quot) (plain_sum c.in_ok-rem.rem) c.greatest.result
    c.in_ok-quot.ensures c.in_ok-rem.ensures c.greatest.ensures.bound c.if-greatest-s.true
