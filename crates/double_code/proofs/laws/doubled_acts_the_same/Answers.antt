use Rattle.double_code.proofs.Statements.{code_under}
use Rattle.double_code.proofs.laws.doubled_acts_the_same.Goals as goal

pub returns : goal.returns
returns c = code_under
