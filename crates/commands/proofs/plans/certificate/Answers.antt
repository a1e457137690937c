use Rattle.tree_model.specs.Breakdown.{breakdown_of}
use Rattle.commands.proofs.DocumentLemmas.{certificate_document}
use Rattle.commands.proofs.plans.certificate.Goals as goal

pub returns-clause-text : goal.returns-clause-text
returns-clause-text c =
    certificate_document c.args.request.now c.new.result (breakdown_of c.in_ok-chosen_plan.field-0.tree) c.in_ok-text.text.items
    c.in_ok-chosen_plan.ensures.planned c.new.ensures c.in_ok-text.ensures.table
