use Rattle.std.proofs.Common.{ap, ◌∙◌, sym, subst}
use Rattle.spl_ast.specs.Shape.{IsShaped}
use Rattle.spl_ast.specs.Views.{formula_of}
use Rattle.spl_ast.proofs.Contexts.{rewrites_left, rewrites_right, rewrites_product, rewrites_sum}
use Rattle.spl_ast.proofs.rewriting.+rewrite.Goals as goal

pub rewrite_parts-returns-in_ok-b-in-Compose-clause-keeps : goal.rewrite_parts-returns-in_ok-b-in-Compose-clause-keeps
rewrite_parts-returns-in_ok-b-in-Compose-clause-keeps g t c =
    rewrites_product _ _ _ _ _ _ _ (g.met.R.Rule.measures_parts c.args.rule.now) (sym c.f.view_is ∙ ap formula_of c.in-Compose.is) (subst IsShaped c.f.view_is c.f.invariant)
    c.in_ok-a-in-Compose.ensures.keeps c.in_ok-b-in-Compose.ensures.keeps

pub rewrite_parts-returns-in_ok-a-in-TensorLeft-clause-keeps
    : goal.rewrite_parts-returns-in_ok-a-in-TensorLeft-clause-keeps
rewrite_parts-returns-in_ok-a-in-TensorLeft-clause-keeps g t c =
    rewrites_left _ _ _ _ _ _ (g.met.R.Rule.measures_parts c.args.rule.now) (sym c.f.view_is ∙ ap formula_of c.in-TensorLeft.is) (subst IsShaped c.f.view_is c.f.invariant)
    c.in_ok-a-in-TensorLeft.ensures.keeps

pub rewrite_parts-returns-in_ok-a-in-TensorRight-clause-keeps
    : goal.rewrite_parts-returns-in_ok-a-in-TensorRight-clause-keeps
rewrite_parts-returns-in_ok-a-in-TensorRight-clause-keeps g t c =
    rewrites_right _ _ _ _ _ _ (g.met.R.Rule.measures_parts c.args.rule.now) (sym c.f.view_is ∙ ap formula_of c.in-TensorRight.is) (subst IsShaped c.f.view_is c.f.invariant)
    c.in_ok-a-in-TensorRight.ensures.keeps

pub rewrite_parts-returns-in_ok-b-in-DirectSum-clause-keeps
    : goal.rewrite_parts-returns-in_ok-b-in-DirectSum-clause-keeps
rewrite_parts-returns-in_ok-b-in-DirectSum-clause-keeps g t c =
    rewrites_sum _ _ _ _ _ _ _ (g.met.R.Rule.measures_parts c.args.rule.now) (sym c.f.view_is ∙ ap formula_of c.in-DirectSum.is) (subst IsShaped c.f.view_is c.f.invariant)
    c.in_ok-a-in-DirectSum.ensures.keeps c.in_ok-b-in-DirectSum.ensures.keeps
