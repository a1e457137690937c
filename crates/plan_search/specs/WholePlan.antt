-- The plan of a whole request.
use Rattle.std.specs.Prelude.{◌≡◌, ◌+◌, ◌*◌, ◌≤◌}
use Rattle.matrix_meaning.specs.declared.Request.{Request}
use Rattle.tree_model.specs.Breakdown.{breakdown_of}
use Rattle.tree_model.specs.Chosen.{IsWholeChosen, closing_cost, whole_cost}
use Rattle.plan_search.specs.declared.plan.Plan.{Plan}

-- the chosen tree and its cost, which is modest but for the products at the end
pub record IsWholePlan (c : Request) (plan : Plan) : Type 0 where
  pub tree : IsWholeChosen c (breakdown_of plan.tree)
  pub cost : plan.cost ≡ whole_cost c (breakdown_of plan.tree)
  pub small : plan.cost + 1000 * c.size ≤ 2001 * (c.size * c.size) + closing_cost c
