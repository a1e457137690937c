-- What the code's passes and runs of words stand for.
use Rattle.std.specs.Prelude.{List, map, Vec}
use Rattle.std.proofs.Common.{Global}
use Rattle.loop_merge.specs.Coalescing.Copies.{PlainRun}
use Rattle.loop_merge.specs.declared.coalescing.runs.Run.{Run}
use Rattle.sigma_spl.specs.Nest.{PlainNest}
use Rattle.sigma_spl.specs.Views.{plain_nest}
use Rattle.sigma_spl.specs.declared.nest.Nest.{Nest}

abbrev pub plain_run : Run → PlainRun
plain_run r = record { first = r.first; count = r.count }

abbrev pub plain_passes : List (Vec Nest Global) → List (List PlainNest)
plain_passes passes = map (λ zs. map plain_nest zs.items) passes
