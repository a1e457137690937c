use Rattle.std.specs.Prelude.{◌≡◌, map, take}
use Rattle.perm_algebra.specs.Views.{plain_sum}
use Rattle.sigma_spl.proofs.copies.copied_sums.Given as goal

abbrev pub invariant-loop-sum : goal.invariant-loop-sum
invariant-loop-sum l = map plain_sum l.others.items ≡ map plain_sum (take l.sum-index l.sums)
