use Rattle.breakdown.proofs.Meaning.{expansion_meaning}
use Rattle.breakdown.proofs.expansion_is_transform.Goals as goal

pub returns : goal.returns
returns c =
    expansion_meaning c.cooley_tukey.ensures c.good_thomas.ensures c.split.ensures
    c.trees_are_made_of_parts.ensures.flat_trees
