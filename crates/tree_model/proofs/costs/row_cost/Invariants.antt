use Rattle.std.proofs.Common.{◌≡◌, ◌*◌, ◌≤◌, ◌<◌}
use Rattle.operators.specs.Sum.{sum_below}
use Rattle.ring_mod.specs.Residue.{power_mod}
use Rattle.tree_model.specs.Cost.{product_cost}
use Rattle.tree_model.proofs.costs.row_cost.Given as goal

abbrev pub invariant-loop : goal.invariant-loop
invariant-loop l =
    (l.total ≡ sum_below l.counter (λ j. product_cost l.fn.c l.fn.minus (power_mod l.fn.c.modulus l.fn.root (l.fn.k * j))))
    × (l.total ≤ 1000 * l.counter)
    × (l.power ≡ power_mod l.fn.c.modulus l.fn.root (l.fn.k * l.counter))
    × (l.power < l.fn.c.modulus)
