use Rattle.smp_rewrite.proofs.LayoutLemmas.StepMeanings as laws
use Rattle.smp_rewrite.proofs.layout.steps_do.Goals as goal

pub returns : goal.returns
returns c = laws.steps_do
