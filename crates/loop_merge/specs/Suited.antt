-- A pass of the code's nests and a diagonal.
use Rattle.std.specs.Prelude.{Bool, List, map}
use Rattle.loop_nests.specs.Places.Multiplied.{functions_of}
use Rattle.loop_nests.specs.declared.places.diagonals.Diagonal.{Diagonal}
use Rattle.sigma_spl.specs.Merge.{multiplied}
use Rattle.sigma_spl.specs.Nest.{PlainNest}
use Rattle.sigma_spl.specs.Views.{plain_factors, plain_nest}
use Rattle.sigma_spl.specs.declared.nest.Nest.{Nest}
use Rattle.loop_nests.specs.declared.limits.Limits.{Limits}
use Rattle.operators.specs.Paths.Tensors.{Path}
use Rattle.loop_merge.specs.Taken.{takes_diagonal}

-- whether the pass takes the diagonal, which stands under a path
abbrev pub nests_take : Limits → Path → Diagonal → List Nest → Bool
nests_take limits path d nests =
    takes_diagonal limits.room limits.size path (plain_factors d.factors) (functions_of d) (map plain_nest nests)

-- the pass with the diagonal after it
abbrev pub nests_with : Diagonal → List Nest → List PlainNest
nests_with d nests = multiplied (plain_factors d.factors) (functions_of d) (map plain_nest nests)
