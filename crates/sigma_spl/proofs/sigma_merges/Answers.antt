use Rattle.sigma_spl.proofs.Phases as laws
use Rattle.sigma_spl.proofs.sigma_merges.Goals as goal

pub returns : goal.returns
returns c = laws.sigma_merges
