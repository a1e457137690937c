use Rattle.code_gen.proofs.PassCode.Within as laws
use Rattle.code_gen.proofs.pass_code.expressions_are_within.Goals as goal

pub returns : goal.returns
returns _ = laws.expressions_are_within
