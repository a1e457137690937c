use Rattle.tree_model.proofs.NodesAsked.{nodes_do_what_is_asked}
use Rattle.tree_model.proofs.laws.nodes_do_what_is_asked.Goals as goal

pub returns : goal.returns
returns c = nodes_do_what_is_asked
