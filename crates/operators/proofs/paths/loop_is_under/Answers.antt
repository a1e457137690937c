use Rattle.operators.proofs.PathLemmas.PathLoops as laws
use Rattle.operators.proofs.paths.loop_is_under.Goals as goal

pub returns : goal.returns
returns c = laws.loop_is_under
