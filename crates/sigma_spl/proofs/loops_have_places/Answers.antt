use Rattle.sigma_spl.proofs.Listed as laws
use Rattle.sigma_spl.proofs.loops_have_places.Goals as goal

pub returns : goal.returns
returns c = laws.loops_have_places
