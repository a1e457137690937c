use Rattle.std.proofs.Common.{◌∙◌}
use Rattle.sigma_lower.proofs.TreeLayouts.{trees_can_lower}
use Rattle.smp_rewrite.specs.Layout.Whole.{whole_of}
use Rattle.tree_model.specs.Breakdown.{breakdown_of}
use Rattle.worked_texts.proofs.stages.terms_of.Goals as goal

pub lower-requires : goal.lower-requires
lower-requires c =
    let r = c.args.c.now in
    let t = breakdown_of c.args.tree.now in
    let is = trees_can_lower r t c.request-request.ensures.valid c.requires in
    record { whole = whole_of r t; shares = is.shares; good = is.good; form = c.in_ok-lanes.ensures.form }

pub returns-clause-meaning : goal.returns-clause-meaning
returns-clause-meaning c = λ x vector. c.in_ok-terms.ensures.meaning x vector ∙ c.in_ok-lanes.ensures.meaning x
