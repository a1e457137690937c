use Rattle.std.proofs.Common.{ap, ◌∙◌, sym, subst}
use Rattle.spl_ast.specs.Formula.{TensorLeft, TensorRight}
use Rattle.spl_ast.specs.Shape.{IsShaped}
use Rattle.spl_ast.specs.Views.{formula_of}
use Rattle.spl_ast.proofs.Distributing.{left_distributes, right_distributes}
use Rattle.spl_ast.proofs.distribute.DistributeRule.fire.Goals as goal

pub returns-in_ok-g-in-TensorLeft : goal.returns-in_ok-g-in-TensorLeft
returns-in_ok-g-in-TensorLeft c =
    rw (c.in_ok-g-in-TensorLeft.ensures, c.in_ok-left-in-TensorLeft.ensures, c.in_ok-right-in-TensorLeft.ensures)
    (left_distributes _ _ _ _ _ (subst IsShaped c.f.view_is c.f.invariant)
    (sym c.f.view_is ∙ ap formula_of c.in-TensorLeft.is ∙ ap (λ p. TensorLeft p c.in-TensorLeft.k) (sym c.into_inner-product.ensures ∙ c.factors-a.ensures)))

pub returns-in_ok-g-in-TensorRight : goal.returns-in_ok-g-in-TensorRight
returns-in_ok-g-in-TensorRight c =
    rw (c.in_ok-g-in-TensorRight.ensures, c.in_ok-left-in-TensorRight.ensures, c.in_ok-right-in-TensorRight.ensures)
    (right_distributes _ _ _ _ _ (subst IsShaped c.f.view_is c.f.invariant)
    (sym c.f.view_is ∙ ap formula_of c.in-TensorRight.is ∙ ap (λ p. TensorRight c.in-TensorRight.k p) (sym c.into_inner-product-in-TensorRight.ensures ∙ c.factors-a-in-TensorRight.ensures)))
