use Rattle.std.specs.Prelude.{◌≡◌, [], map, take}
use Rattle.sigma_spl.specs.Merge.{multiplied}
use Rattle.sigma_spl.specs.Views.{plain_factors, plain_nest}
use Rattle.loop_nests.proofs.places.diagonals.multiplied_in_order.Given as goal

abbrev pub invariant-loop-nest : goal.invariant-loop-nest
invariant-loop-nest l = map plain_nest l.changed.items ≡ multiplied (plain_factors l.factors) [] (map plain_nest (take l.nest-index l.nests))
