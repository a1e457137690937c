use Rattle.plan_search.proofs.BestTrees.{chosen_at_divisor}
use Rattle.plan_search.proofs.OneTree.{whole_once}
use Rattle.plan_search.proofs.WholeChosen.{whole_exists, whole_is_least, whole_least_once}
use Rattle.plan_search.proofs.chosen_trees_exist.Goals as goal

pub returns-clause-chosen : goal.returns-clause-chosen
returns-clause-chosen c r valid can = whole_exists r valid.in_range can

pub returns-clause-chosen_once : goal.returns-clause-chosen_once
returns-clause-chosen_once c = whole_once

pub returns-clause-inner : goal.returns-clause-inner
returns-clause-inner c = chosen_at_divisor

pub returns-clause-least : goal.returns-clause-least
returns-clause-least c = whole_is_least

pub returns-clause-once : goal.returns-clause-once
returns-clause-once c = whole_least_once
