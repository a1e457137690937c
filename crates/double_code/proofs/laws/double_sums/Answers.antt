use Rattle.double_code.proofs.Sums.{double_sums}
use Rattle.double_code.proofs.laws.double_sums.Goals as goal

pub returns : goal.returns
returns c = double_sums
