use Rattle.sigma_spl.proofs.Limited as laws
use Rattle.sigma_spl.proofs.merge_limits.Goals as goal

pub returns : goal.returns
returns c = laws.merge_limits
