use Rattle.std.specs.Prelude.{◌≡◌, ◌++◌, All, None, map}
use Rattle.smp_rewrite.specs.Views.{plain_factor}
use Rattle.vec_rewrite.specs.Laws.{HasRows}
use Rattle.vec_rewrite.specs.Turning.{laned_from}
use Rattle.vec_rewrite.specs.Views.{plain_vec_factor}
use Rattle.vec_rewrite.proofs.laned_all.Given as goal

abbrev pub invariant-loop-factor : goal.invariant-loop-factor
invariant-loop-factor l =
    (map plain_vec_factor l.out.items ++ laned_from l.d l.order (map plain_factor l.factor-iterator.rest.items) ≡ laned_from l.d None (map plain_factor l.fn.factors.items))
    × All (λ f. HasRows (plain_factor f)) l.factor-iterator.rest.items
