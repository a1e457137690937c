use Rattle.vec_rewrite.proofs.LaneLaws as laws
use Rattle.vec_rewrite.proofs.vec_keeps.Goals as goal

pub returns : goal.returns
returns c = laws.vec_keeps
