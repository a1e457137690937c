use Rattle.smp_rewrite.proofs.LayoutLemmas.Layouts as laws
use Rattle.smp_rewrite.proofs.layout.layouts_do.Goals as goal

pub returns-clause-size : goal.returns-clause-size
returns-clause-size c = laws.layouts_have_size

pub returns-clause-meaning : goal.returns-clause-meaning
returns-clause-meaning c = laws.layouts_do

pub returns-clause-cost : goal.returns-clause-cost
returns-clause-cost c = laws.layouts_cost

pub returns-clause-good : goal.returns-clause-good
returns-clause-good c = laws.layouts_are_good
