use Rattle.std.proofs.Common.{◌∙◌}
use Rattle.spl_ast.proofs.Residues.{transform_of_reduced}
use Rattle.spl_ast.proofs.plain.transformed.Goals as goal

pub returns : goal.returns
returns c =
    (rw (c.get.ensures.value, c.reduce.ensures.value) at c.in_ok-y.ensures.value)
    ∙ transform_of_reduced c.args.kind c.args.m.now c.args.size c.args.root c.args.x.now
