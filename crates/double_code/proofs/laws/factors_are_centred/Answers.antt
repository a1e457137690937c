use Rattle.double_code.proofs.Factors.{factors_are_centred}
use Rattle.double_code.proofs.laws.factors_are_centred.Goals as goal

pub returns : goal.returns
returns c = factors_are_centred
