-- What the code's passes stand for.
use Rattle.std.specs.Prelude.{List, map, reverse, Vec}
use Rattle.std.proofs.Common.{Global}
use Rattle.sigma_spl.specs.Nest.{PlainNest}
use Rattle.sigma_spl.specs.Views.{plain_nest}
use Rattle.sigma_spl.specs.declared.nest.Nest.{Nest}

abbrev pub plain_pass : Vec Nest Global → List PlainNest
plain_pass zs = map plain_nest zs.items

abbrev pub plain_passes : List (Vec Nest Global) → List (List PlainNest)
plain_passes ps = map plain_pass ps

-- those of a list that stands the other way round
abbrev pub from_last : List (Vec Nest Global) → List (List PlainNest)
from_last ps = plain_passes (reverse ps)
