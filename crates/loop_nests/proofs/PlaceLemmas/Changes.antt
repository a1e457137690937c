-- What a change of a pass holds.
use Rattle.std.proofs.Common.{List, map}
use Rattle.sigma_spl.specs.Nest.{PlainNest}
use Rattle.sigma_spl.specs.Views.{plain_nest}
use Rattle.loop_nests.specs.declared.places.changes.Change.{Change}
use Rattle.loop_nests.specs.declared.places.changes.Change.TheVariants.{Made, Refused}

abbrev pub nests_in : Change → List PlainNest
nests_in (Made zs) = map plain_nest zs.items
nests_in (Refused zs) = map plain_nest zs.items
