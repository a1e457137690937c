use Rattle.sigma_lower.proofs.Sigmas as laws
use Rattle.sigma_lower.proofs.sigma_transforms.Goals as goal

pub returns : goal.returns
returns c = laws.sigma_transforms
