use Rattle.smp_rewrite.proofs.TreeLaws as laws
use Rattle.smp_rewrite.proofs.layouts_fit.Goals as goal

pub returns : goal.returns
returns c = laws.layouts_fit
