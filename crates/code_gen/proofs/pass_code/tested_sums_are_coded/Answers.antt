use Rattle.code_gen.proofs.PassCode.TestedSums as laws
use Rattle.code_gen.proofs.pass_code.tested_sums_are_coded.Goals as goal

pub returns : goal.returns
returns _ = laws.tested_sums_are_coded
