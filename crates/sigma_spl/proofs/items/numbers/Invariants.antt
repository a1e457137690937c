use Rattle.std.specs.Prelude.{◌≡◌, map}
use Rattle.std.specs.List.{range_with_len}
use Rattle.perm_algebra.specs.Affine.{constant}
use Rattle.perm_algebra.specs.Views.{plain_sum}
use Rattle.sigma_spl.proofs.items.numbers.Given as goal

abbrev pub invariant-loop-k : goal.invariant-loop-k
invariant-loop-k l = map plain_sum l.numbers.items ≡ map constant (range_with_len 0 l.k)
