use Rattle.matrix_meaning.specs.Parts.{forward_of}
use Rattle.tree_model.specs.Breakdown.{breakdown_of}
use Rattle.tree_model.proofs.FlatTrees.{is_tree}
use Rattle.worked_texts.proofs.Whole.{whole_fits}
use Rattle.worked_texts.proofs.plans.is_better.Goals as goal

pub before-requires-clause-a_tree : goal.before-requires-clause-a_tree
before-requires-clause-a_tree c = is_tree (forward_of c.args.c.now) (breakdown_of c.args.tree.now) c.requires.tree.tree

pub before-requires-clause-b_tree : goal.before-requires-clause-b_tree
before-requires-clause-b_tree c =
    is_tree (forward_of c.args.c.now) (breakdown_of c.args.plan.now.tree) c.requires.plan.tree

pub before-requires-clause-a_fits : goal.before-requires-clause-a_fits
before-requires-clause-a_fits c =
    whole_fits c.args.c.now (breakdown_of c.args.tree.now) c.request-request.ensures.valid.in_range c.requires.tree

pub before-requires-clause-b_fits : goal.before-requires-clause-b_fits
before-requires-clause-b_fits c =
    whole_fits c.args.c.now (breakdown_of c.args.plan.now.tree) c.request-request.ensures.valid.in_range c.requires.plan
