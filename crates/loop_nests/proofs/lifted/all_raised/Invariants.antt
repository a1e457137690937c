use Rattle.std.specs.Prelude.{◌≡◌, map, take}
use Rattle.perm_algebra.specs.Views.{plain_sum}
use Rattle.loop_nests.specs.Lifted.{raised}
use Rattle.loop_nests.proofs.lifted.all_raised.Given as goal

abbrev pub invariant-loop-sum : goal.invariant-loop-sum
invariant-loop-sum l = map plain_sum l.places.items ≡ map (raised l.path l.size l.before) (map plain_sum (take l.sum-index l.sums))
