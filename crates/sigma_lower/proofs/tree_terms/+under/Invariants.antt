use Rattle.std.specs.Prelude.{length}
use Rattle.sigma_lower.proofs.tree_terms.+under.Given as goal

abbrev pub decreases-under : goal.decreases-under
decreases-under l = length l.path.now
