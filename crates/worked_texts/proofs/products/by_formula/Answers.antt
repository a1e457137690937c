use Rattle.tree_model.specs.Breakdown.{breakdown_of}
use Rattle.worked_texts.proofs.Whole.{whole_stands}
use Rattle.worked_texts.proofs.products.by_formula.Goals as goal

pub expand-requires : goal.expand-requires
expand-requires c = whole_stands c.args.c.now (breakdown_of c.args.tree.now) c.requires
