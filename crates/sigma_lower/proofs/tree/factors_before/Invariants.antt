use Rattle.std.specs.Prelude.{◌≡◌, All, map, reverse}
use Rattle.sigma_lower.specs.Room.{IsRoomy}
use Rattle.sigma_lower.specs.Shared.{factors_before}
use Rattle.sigma_spl.specs.Views.{plain_term}
use Rattle.vec_rewrite.specs.Vectors.{factor_step}
use Rattle.vec_rewrite.specs.Views.{plain_vec_factor}
use Rattle.sigma_lower.proofs.tree.factors_before.Given as goal

abbrev pub invariant-loop-factor : goal.invariant-loop-factor
invariant-loop-factor l =
    (plain_term l.product ≡ factors_before l.procs l.lanes (map plain_vec_factor (reverse l.yielded)) (plain_term l.fn.after))
    × All (λ f. IsRoomy (factor_step l.procs l.lanes (plain_vec_factor f))) l.factor-iterator.rest.items
