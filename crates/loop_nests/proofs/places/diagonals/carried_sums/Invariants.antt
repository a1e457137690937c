use Rattle.std.specs.Prelude.{◌≡◌, true, map, take, slice_index}
use Rattle.std.specs.List.{list_all}
use Rattle.index_fn.specs.Index.{mapping_of}
use Rattle.sigma_spl.specs.Merge.{all_simplified, carries_sum}
use Rattle.perm_algebra.specs.Views.{plain_sum}
use Rattle.loop_nests.proofs.places.diagonals.carried_sums.Given as goal

-- the places so far
abbrev pub invariant-loop-sum : goal.invariant-loop-sum
invariant-loop-sum l =
    let cs = slice_index l.counts in
    let fs = map mapping_of l.functions in
    let es = map plain_sum (take l.sum-index l.sums) in
    (list_all (carries_sum l.limits.room l.limits.size l.count cs fs) es ≡ true)
    × (map plain_sum l.places.items ≡ map (all_simplified cs fs) es)
