use Rattle.smp_rewrite.proofs.LayoutLemmas.Wholes as laws
use Rattle.smp_rewrite.proofs.layout.wholes_do.Goals as goal

pub returns-clause-meaning : goal.returns-clause-meaning
returns-clause-meaning c = laws.wholes_do

pub returns-clause-cost : goal.returns-clause-cost
returns-clause-cost c = laws.wholes_cost

pub returns-clause-good : goal.returns-clause-good
returns-clause-good c = laws.wholes_are_good
