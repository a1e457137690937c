use Rattle.std.proofs.Common.{ℕ, arith, ap, refl, sym, ◌∙◌, subst}
use Rattle.matrix_meaning.specs.declared.Request.{Request}
use Rattle.tree_model.specs.Admissible.{CanDivide}
use Rattle.tree_model.specs.Cost.{IsModest}
use Rattle.tree_model.proofs.WholeTrees.{forward_size}
use Rattle.plan_search.specs.Search.{AnyTree}
use Rattle.plan_search.proofs.BestOf.{best_where_Some}
use Rattle.plan_search.proofs.WholeChosen.{forward_divides}
use Rattle.plan_search.proofs.WholePlans.{closed_fits, closed_plan, some_where_found}
use Rattle.plan_search.proofs.whole.plan_of_one.Goals as goal

pub unreachable-requires : goal.unreachable-requires
unreachable-requires c =
    let can =
    subst (λ (r : Request). CanDivide r) (sym c.forward-forward.ensures.value)
    (forward_divides c.args.c.now c.requires.divides) in
    some_where_found _ c.in_default.is (c.in_ok-plan.ensures.found can c.forward-forward.ensures.kind)

pub overflow_add-result : goal.overflow_add-result
overflow_add-result c =
    let best = best_where_Some _ _ AnyTree _ _ c.in-Some.is c.in_ok-plan.ensures.best in
    let size = ap (λ (r : Request). r.size) c.forward-forward.ensures.value ∙ forward_size c.args.c.now in
    let fits =
    closed_fits c.args.c.now.size c.in-Some.plan.cost c.closing_cost-closing.result
    c.request-request.ensures.valid.in_range.size.1
    (subst (λ (n : ℕ). IsModest n c.in-Some.plan.cost) size best.valid.modest) c.closing_cost-closing.ensures.high in
    omega (arith, fits)

pub returns : goal.returns
returns c =
    closed_plan c.args.c.now c.forward-forward.result c.in-Some.plan _ c.closing_cost-closing.result
    c.forward-forward.ensures.value c.requires.one
    (best_where_Some _ _ AnyTree _ _ c.in-Some.is c.in_ok-plan.ensures.best)
    c.closing_cost-closing.ensures.value refl refl
