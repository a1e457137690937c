use Rattle.std.proofs.Common.{◌*◌, ◌≤◌, sym, ap₂, ◌∙◌, subst, arith}
use Rattle.matrix_meaning.specs.declared.Request.{Request}
use Rattle.matrix_meaning.specs.Parts.{first_of, rest_of}
use Rattle.matrix_meaning.proofs.Parts.{first_at_least_two, parts_size, rest_at_least_two}
use Rattle.tree_model.specs.declared.tree.Rule.TheVariants.{Dim}
use Rattle.tree_model.specs.Cost.{IsModest, node_cost}
use Rattle.tree_model.proofs.SeveralParts.{first_part, rest_part}
use Rattle.plan_search.specs.WholePlan.{IsWholePlan}
use Rattle.plan_search.proofs.WholePlans.{dim_plan, modest_part}
use Rattle.plan_search.proofs.whole.plan_of_both.Goals as goal

pub node_cost-cost-requires-clause-left : goal.node_cost-cost-requires-clause-left
node_cost-cost-requires-clause-left c =
    subst (λ (p : Request). 2 ≤ p.size) (sym (c.request-r.ensures.value ∙ c.requires.first))
    (first_at_least_two c.args.c.now c.request-request.ensures.valid.in_range c.requires.several)

pub node_cost-cost-requires-clause-right : goal.node_cost-cost-requires-clause-right
node_cost-cost-requires-clause-right c =
    subst (λ (p : Request). 2 ≤ p.size) (sym (c.request-s.ensures.value ∙ c.requires.rest))
    (rest_at_least_two c.args.c.now c.request-request.ensures.valid.in_range c.requires.several)

pub node_cost-cost-requires-clause-size : goal.node_cost-cost-requires-clause-size
node_cost-cost-requires-clause-size c =
    let first = sym (c.request-r.ensures.value ∙ c.requires.first) in
    let rest = sym (c.request-s.ensures.value ∙ c.requires.rest) in
    let size =
    parts_size c.args.c.now c.request-request.ensures.valid.in_range c.requires.several
    ∙ ap₂ (λ (p q : Request). p.size * q.size) first rest in
    omega (arith, size)

pub node_cost-cost-requires-clause-left_cost : goal.node_cost-cost-requires-clause-left_cost
node_cost-cost-requires-clause-left_cost c =
    subst (λ (p : Request). IsModest p.size c.args.a.cost) (sym (c.request-r.ensures.value ∙ c.requires.first))
    (modest_part (first_of c.args.c.now) c.args.a (first_part c.args.c.now c.requires.several)
    (subst (λ (p : Request). IsWholePlan p c.args.a) c.requires.first c.requires.left))

pub node_cost-cost-requires-clause-right_cost : goal.node_cost-cost-requires-clause-right_cost
node_cost-cost-requires-clause-right_cost c =
    subst (λ (p : Request). IsModest p.size c.args.b.cost) (sym (c.request-s.ensures.value ∙ c.requires.rest))
    (modest_part (rest_of c.args.c.now) c.args.b (rest_part c.args.c.now c.requires.several)
    (subst (λ (p : Request). IsWholePlan p c.args.b) c.requires.rest c.requires.right))

pub returns : goal.returns
returns c =
    let first = c.request-r.ensures.value ∙ c.requires.first in
    let rest = c.request-s.ensures.value ∙ c.requires.rest in
    let cost = c.node_cost-cost.result in
    let costs =
    ap₂ (λ (p q : Request). node_cost c.args.c.now Dim p.size q.size c.args.a.cost c.args.b.cost) first rest in
    dim_plan c.args.c.now c.args.a c.args.b _
    c.request-request.ensures.valid.in_range c.requires.several c.requires.divides
    (subst (λ (p : Request). IsWholePlan p c.args.a) c.requires.first c.requires.left)
    (subst (λ (p : Request). IsWholePlan p c.args.b) c.requires.rest c.requires.right)
    c.in_ok-tree.ensures
    (c.node_cost-cost.ensures.value ∙ costs)
    (subst (λ (p : Request). IsModest (p.size * (rest_of c.args.c.now).size) cost) first
    (subst (λ (q : Request). IsModest (c.request-r.result.size * q.size) cost) rest c.node_cost-cost.ensures.modest))
