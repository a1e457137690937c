use Rattle.sigma_lower.proofs.TreeLoops.LoopLimits as laws
use Rattle.sigma_lower.proofs.loops_are_limited.Goals as goal

pub returns : goal.returns
returns c = laws.loops_are_limited
