use Rattle.spiral_words.specs.declared.Document.TheVariants as document
use Rattle.tree_model.specs.Breakdown.{breakdown_of}
use Rattle.commands.proofs.DocumentLemmas.{document_of}
use Rattle.commands.proofs.plans.plan_lines.Goals as goal

pub returns-clause-text : goal.returns-clause-text
returns-clause-text c =
    document_of document.Plan c.args.request.now (breakdown_of c.in_ok-plan.plan.tree) c.in_ok-text.text.items c.in_ok-plan.ensures.planned c.in_ok-text.ensures
