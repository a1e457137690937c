use Rattle.std.proofs.Common.{◌≡◌, ◌≤◌, ◌*◌}
use Rattle.matrix_meaning.specs.declared.Kind.TheVariants.{Dft}
use Rattle.tree_model.specs.Cost.{products_cost}
use Rattle.tree_model.proofs.costs.powers_cost.Given as goal

abbrev pub invariant-loop-k : goal.invariant-loop-k
invariant-loop-k l = (l.total ≡ products_cost l.c Dft l.minus l.root l.k l.columns) × (l.total ≤ 1000 * (l.k * l.columns))
