use Rattle.std.proofs.Common.{◌≡◌, ◌++◌, ◌∷◌, [], ap, ◌∙◌}
use Rattle.breakdown.specs.Expansion.{formula_of}
use Rattle.matrix_meaning.specs.declared.Request.{Request}
use Rattle.spl_text.specs.Spelling.{spelling}
use Rattle.tree_model.specs.Breakdown.{breakdown_of}
use Rattle.spiral_words.specs.declared.Document.TheVariants as document
use Rattle.commands.proofs.DocumentLemmas.{document_of}
use Rattle.commands.proofs.plans.formula.Goals as goal

pub returns-clause-text : goal.returns-clause-text
returns-clause-text c =
    let tree = breakdown_of c.in_ok-plan.plan.tree in
    let spelt : c.in_ok-print_spl.field-0.items ≡ spelling (formula_of c.args.request.now tree) =
    c.in_ok-print_spl.ensures.value ∙ ap spelling (c.in_ok-formula.ensures.value ∙ ap (λ (r : Request). formula_of r tree) c.new.ensures) in
    document_of document.Formula c.args.request.now tree c.in_ok-text.text.items c.in_ok-plan.ensures.planned (c.in_ok-text.ensures ∙ ap (λ l. l ++ 10 ∷ []) spelt)
