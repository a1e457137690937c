use Rattle.double_code.proofs.Programs.{doubled_is_same}
use Rattle.double_code.proofs.laws.doubled_is_same.Goals as goal

pub returns : goal.returns
returns c = doubled_is_same
