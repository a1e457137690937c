use Rattle.sigma_lower.proofs.Ordered as laws
use Rattle.sigma_lower.proofs.trees_ordered.Goals as goal

pub returns : goal.returns
returns c = laws.trees_ordered
