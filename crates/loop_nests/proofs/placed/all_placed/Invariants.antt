use Rattle.std.specs.Prelude.{◌≡◌, map, take}
use Rattle.sigma_spl.specs.Merge.{place_sum}
use Rattle.perm_algebra.specs.Views.{plain_sum}
use Rattle.loop_nests.proofs.placed.all_placed.Given as goal

abbrev pub invariant-loop-item : goal.invariant-loop-item
invariant-loop-item l = map plain_sum l.places.items ≡ map (place_sum l.path l.size 0) (map plain_sum (take l.item-index l.items))
