use Rattle.std.proofs.Common.{length}
use Rattle.plan_cert.proofs.verdict.+check_values.Given as goal

abbrev pub decreases-check_values : goal.decreases-check_values
decreases-check_values l = length l.values.now
