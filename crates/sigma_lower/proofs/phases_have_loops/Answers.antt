use Rattle.sigma_lower.proofs.HaveLoops as laws
use Rattle.sigma_lower.proofs.phases_have_loops.Goals as goal

pub returns : goal.returns
returns c = laws.phases_have_loops
