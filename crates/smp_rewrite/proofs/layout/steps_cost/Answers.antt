use Rattle.smp_rewrite.proofs.LayoutLemmas.StepCosts as laws
use Rattle.smp_rewrite.proofs.layout.steps_cost.Goals as goal

pub returns : goal.returns
returns c = laws.steps_cost
