use Rattle.sigma_spl.proofs.Places as laws
use Rattle.sigma_spl.proofs.pass_stores.Goals as goal

pub returns : goal.returns
returns c = laws.pass_stores
