use Rattle.vec_rewrite.proofs.PlainSteps as laws
use Rattle.vec_rewrite.proofs.plain_steps.Goals as goal

pub returns : goal.returns
returns c = laws.plain_steps
