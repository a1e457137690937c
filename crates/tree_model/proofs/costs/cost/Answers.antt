use Rattle.std.proofs.Common.{◌≤◌, sym, subst}
use Rattle.tree_model.proofs.Standing.{part_small, stands_below, stands_low}
use Rattle.tree_model.proofs.costs.cost.Goals as goal

pub sized_cost-tree-requires-clause-size : goal.sized_cost-tree-requires-clause-size
sized_cost-tree-requires-clause-size c =
    stands_below c.args.c.now _ _ c.forward.ensures.value c.request-request.ensures.valid.in_range.size.0 c.requires

pub returns-else-tree-request-clause-small : goal.returns-else-tree-request-clause-small
returns-else-tree-request-clause-small c =
    part_small c.sized_cost-tree.result.size c.args.c.now.size _ c.sized_cost-tree.ensures.modest
    (subst (λ n. n ≤ c.args.c.now.size) (sym c.sized_cost-tree.ensures.size)
    (stands_low c.args.c.now _ c.request-request.ensures.valid.in_range.size.0 c.requires))
