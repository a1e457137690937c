use Rattle.std.proofs.Common.{◌≡◌, ap, ◌∙◌}
use Rattle.breakdown.proofs.Sizes.{whole_divides}
use Rattle.matrix_meaning.specs.declared.Request.{Request}
use Rattle.spl_ast.specs.Meaning.{apply}
use Rattle.tree_model.specs.Breakdown.{breakdown_of, size_of}
use Rattle.generate.proofs.ConvGoodness.{conv_asked}
use Rattle.generate.proofs.conv_program.transform_by.Goals as goal

pub expand-requires : goal.expand-requires
expand-requires c =
    let tree = c.requires.tree in
    (tree.tree, whole_divides c.args.c.now.size (size_of (breakdown_of c.args.tree.now)) tree.size)

pub returns-clause-value : goal.returns-clause-value
returns-clause-value c =
    let r = c.args.c.now in
    let same : c.unwrap-modulus.result ≡ c.request-request.result.modulus = rw c.unwrap-modulus.ensures at c.new.ensures.value in
    let modulus : c.unwrap-modulus.result ≡ r.modulus = same ∙ ap (λ (z : Request). z.modulus) c.request-request.ensures.value in
    c.in_ok-y.ensures.value
    ∙ ap (λ m. apply m c.in_ok-formula.formula c.args.x.now) modulus
    ∙ c.in_ok-formula.ensures.whole c.requires.tree.size c.args.x.now
    ∙ conv_asked r c.requires.request c.args.x.now
