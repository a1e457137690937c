use Rattle.tree_model.specs.Breakdown.{breakdown_of}
use Rattle.worked_texts.proofs.Whole.{whole_stands}
use Rattle.worked_texts.proofs.plans.whole_cost.Goals as goal

pub cost-requires : goal.cost-requires
cost-requires c = whole_stands c.args.c.now (breakdown_of c.args.tree.now) c.requires
