use Rattle.perm_algebra.proofs.RuleLaws as laws
use Rattle.perm_algebra.proofs.IndexRule.holds.Goals as goal

pub returns : goal.returns
returns c = laws.holds c.args.self
