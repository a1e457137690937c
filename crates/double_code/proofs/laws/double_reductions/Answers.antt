use Rattle.double_code.proofs.Reductions.{double_reductions}
use Rattle.double_code.proofs.laws.double_reductions.Goals as goal

pub returns : goal.returns
returns c = double_reductions
