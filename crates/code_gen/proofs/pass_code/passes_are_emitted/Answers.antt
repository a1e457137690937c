use Rattle.code_gen.proofs.PassCode.NestEmits as laws
use Rattle.code_gen.proofs.pass_code.passes_are_emitted.Goals as goal

pub returns : goal.returns
returns _ = laws.passes_are_emitted
