use Rattle.sigma_spl.proofs.GoodLoops as laws
use Rattle.sigma_spl.proofs.loops_are_good.Goals as goal

pub returns : goal.returns
returns c = laws.loops_are_good
