-- What the code's passes and phases stand for.
use Rattle.std.specs.Prelude.{List, map, Vec}
use Rattle.std.proofs.Common.{Global}
use Rattle.sigma_spl.specs.Nest.{PlainNest}
use Rattle.sigma_spl.specs.Views.{plain_nest}
use Rattle.sigma_spl.specs.declared.nest.Nest.{Nest}

abbrev pub plain_passes : List (Vec Nest Global) → List (List PlainNest)
plain_passes passes = map (λ zs. map plain_nest zs.items) passes

abbrev pub plain_phases : List (Vec (Vec Nest Global) Global) → List (List (List PlainNest))
plain_phases phases = map (λ ps. map (λ zs. map plain_nest zs.items) ps.items) phases
