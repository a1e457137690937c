use Rattle.double_code.proofs.Inverses.{inverses_are_there}
use Rattle.double_code.proofs.laws.inverses_are_there.Goals as goal

pub returns : goal.returns
returns c = inverses_are_there
