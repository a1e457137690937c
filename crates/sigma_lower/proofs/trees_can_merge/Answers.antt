use Rattle.sigma_lower.proofs.CanMerge as laws
use Rattle.sigma_lower.proofs.trees_can_merge.Goals as goal

pub returns : goal.returns
returns c = laws.trees_can_merge
