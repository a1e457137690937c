use Rattle.sigma_spl.proofs.Listed as laws
use Rattle.sigma_spl.proofs.merge_listed.Goals as goal

pub returns : goal.returns
returns c = laws.merge_listed
