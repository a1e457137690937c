use Rattle.tree_model.proofs.WholeCosts.{passes_do_the_cost}
use Rattle.tree_model.proofs.laws.passes_do_the_cost.Goals as goal

pub returns : goal.returns
returns c = passes_do_the_cost
