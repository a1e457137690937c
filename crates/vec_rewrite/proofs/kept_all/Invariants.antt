use Rattle.std.specs.Prelude.{◌≡◌, map}
use Rattle.smp_rewrite.specs.Views.{plain_factor}
use Rattle.vec_rewrite.specs.Turning.{kept}
use Rattle.vec_rewrite.specs.Views.{plain_vec_factor}
use Rattle.vec_rewrite.proofs.kept_all.Given as goal

abbrev pub invariant-loop-factor : goal.invariant-loop-factor
invariant-loop-factor l = map plain_vec_factor l.out.items ≡ map kept (map plain_factor l.yielded)
