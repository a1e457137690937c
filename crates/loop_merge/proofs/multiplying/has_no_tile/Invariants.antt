use Rattle.std.specs.Prelude.{◌≡◌, true, map, not, take}
use Rattle.std.specs.List.{list_all}
use Rattle.sigma_spl.specs.Merge.{is_tile}
use Rattle.sigma_spl.specs.Views.{plain_nest}
use Rattle.loop_merge.proofs.multiplying.has_no_tile.Given as goal

abbrev pub invariant-loop-nest : goal.invariant-loop-nest
invariant-loop-nest l = list_all (λ z. not (is_tile z.work)) (map plain_nest (take l.nest-index l.nests)) ≡ true
