use Rattle.std.specs.Prelude.{◌≡◌, true, map, take, slice_index}
use Rattle.std.specs.List.{list_all}
use Rattle.index_fn.specs.Index.{mapping_of}
use Rattle.perm_algebra.specs.Affine.{simplified}
use Rattle.perm_algebra.specs.Views.{plain_sum}
use Rattle.loop_nests.specs.Limits.Leading.{can_lead}
use Rattle.loop_nests.proofs.places.changes.simplified_sums.Given as goal

-- the places so far
abbrev pub invariant-loop-sum : goal.invariant-loop-sum
invariant-loop-sum l =
    let cs = slice_index l.counts in
    let es = map plain_sum (take l.sum-index l.sums) in
    (list_all (can_lead l.limits.room l.limits.size cs (mapping_of l.f)) es ≡ true)
    × (map plain_sum l.places.items ≡ map (simplified cs (mapping_of l.f)) es)
