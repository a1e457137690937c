use Rattle.std.specs.Prelude.{length}
use Rattle.sigma_spl.proofs.plain.terms.+terms_times.Given as goal

abbrev pub decreases-terms_times : goal.decreases-terms_times
decreases-terms_times l = length l.terms.now
