use Rattle.sigma_lower.proofs.TreeSigmas.Laws as laws
use Rattle.sigma_lower.proofs.trees_are_sigmas.Goals as goal

pub returns : goal.returns
returns c = laws.trees_are_sigmas
