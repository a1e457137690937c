use Rattle.std.specs.Prelude.{◌≡◌, map, take}
use Rattle.perm_algebra.specs.Affine.{constant}
use Rattle.perm_algebra.specs.Views.{plain_sum}
use Rattle.loop_nests.proofs.nests.numbers.Given as goal

abbrev pub invariant-loop-place : goal.invariant-loop-place
invariant-loop-place l = map plain_sum l.numbers.items ≡ map constant (take l.place-index l.places)
