use Rattle.std.proofs.Common.{◌∙◌}
use Rattle.sigma_lower.proofs.TreeLayouts.{trees_can_lower}
use Rattle.smp_rewrite.specs.Layout.Whole.{whole_of}
use Rattle.tree_model.specs.Breakdown.{breakdown_of}
use Rattle.worked_texts.proofs.stages.lanes_of.Goals as goal

pub to_vec-requires : goal.to_vec-requires
to_vec-requires c =
    let r = c.args.c.now in
    let t = breakdown_of c.args.tree.now in
    let is = trees_can_lower r t c.request-request.ensures.valid c.requires in
    record { whole = whole_of r t; shares = is.shares; form = c.in_ok-blocks.ensures.form }

pub returns-clause-meaning : goal.returns-clause-meaning
returns-clause-meaning c = λ x. c.in_ok-lanes.ensures.meaning x ∙ c.in_ok-blocks.ensures.meaning x
