use Rattle.std.specs.Prelude.{◌≡◌, true, map, take}
use Rattle.index_fn.specs.Index.{mapping_of}
use Rattle.sigma_spl.specs.Merge.{can_multiply, multiplied}
use Rattle.sigma_spl.specs.Views.{plain_factors, plain_nest}
use Rattle.loop_nests.proofs.places.diagonals.multiplied.Given as goal

-- the nests so far
abbrev pub invariant-loop-nest : goal.invariant-loop-nest
invariant-loop-nest l =
    let factors = plain_factors l.diagonal.factors in
    let fs = map mapping_of l.diagonal.places.items in
    let zs = map plain_nest (take l.nest-index l.nests) in
    (can_multiply l.limits.room l.limits.size factors fs zs ≡ true)
    × (map plain_nest l.changed.items ≡ multiplied factors fs zs)
