use Rattle.tree_model.proofs.ChosenParts.{chosen_of_parts, least_of_parts}
use Rattle.tree_model.proofs.FlatTrees.{flat_costs, flat_trees}
use Rattle.tree_model.proofs.SeveralParts.{whole_of_parts}
use Rattle.tree_model.proofs.WholeTrees.{chosen_of_one, least_of_one, whole_of_one}
use Rattle.tree_model.proofs.laws.trees_are_made_of_parts.Goals as goal

pub returns-clause-flat_trees : goal.returns-clause-flat_trees
returns-clause-flat_trees c = flat_trees

pub returns-clause-flat_costs : goal.returns-clause-flat_costs
returns-clause-flat_costs c = flat_costs

pub returns-clause-whole_of_one : goal.returns-clause-whole_of_one
returns-clause-whole_of_one c = whole_of_one

pub returns-clause-chosen_of_one : goal.returns-clause-chosen_of_one
returns-clause-chosen_of_one c = chosen_of_one

pub returns-clause-least_of_one : goal.returns-clause-least_of_one
returns-clause-least_of_one c = least_of_one

pub returns-clause-whole_of_parts : goal.returns-clause-whole_of_parts
returns-clause-whole_of_parts c = whole_of_parts

pub returns-clause-chosen_of_parts : goal.returns-clause-chosen_of_parts
returns-clause-chosen_of_parts c = chosen_of_parts

pub returns-clause-least_of_parts : goal.returns-clause-least_of_parts
returns-clause-least_of_parts c = least_of_parts
