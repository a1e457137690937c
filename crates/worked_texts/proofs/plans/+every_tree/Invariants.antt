use Rattle.worked_texts.proofs.plans.+every_tree.Given as goal

-- the size
abbrev pub decreases-every_tree : goal.decreases-every_tree
decreases-every_tree l = l.size
