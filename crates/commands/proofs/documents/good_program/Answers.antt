use Rattle.tree_model.specs.Breakdown.{breakdown_of}
use Rattle.commands.proofs.documents.good_program.Goals as goal

pub returns-clause-program : goal.returns-clause-program
returns-clause-program c = (breakdown_of c.in_ok-product.product.plan.tree, c.in_ok-product.ensures.planned, c.in_ok-product.ensures.letters)
