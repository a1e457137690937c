use Rattle.std.specs.Prelude.{◌≡◌, true, map, take}
use Rattle.std.specs.List.{list_all}
use Rattle.index_fn.specs.Index.{mapping_of}
use Rattle.sigma_spl.specs.Views.{plain_nest}
use Rattle.loop_nests.specs.Places.Sides.{nest_can_take, places_by}
use Rattle.loop_nests.specs.Places.Views.{plain_sums}
use Rattle.loop_nests.proofs.places.changes.all_places_by.Given as goal

-- those of the nests so far
abbrev pub invariant-loop-nest : goal.invariant-loop-nest
invariant-loop-nest l =
    let zs = map plain_nest (take l.nest-index l.nests) in
    (list_all (nest_can_take l.access l.limits.room l.limits.size (mapping_of l.f)) zs ≡ true)
    × (map plain_sums l.all.items ≡ map (places_by l.access (mapping_of l.f)) zs)
