use Rattle.smp_rewrite.proofs.TreeLaws as laws
use Rattle.smp_rewrite.proofs.smp_shaped.Goals as goal

pub returns : goal.returns
returns c = laws.smp_shaped
