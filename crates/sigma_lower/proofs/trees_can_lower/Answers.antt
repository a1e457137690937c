use Rattle.sigma_lower.proofs.TreeLayouts as laws
use Rattle.sigma_lower.proofs.trees_can_lower.Goals as goal

pub returns : goal.returns
returns c = laws.trees_can_lower
