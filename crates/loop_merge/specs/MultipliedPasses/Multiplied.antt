-- Passes whose last one multiplies each item that it stores by the factor of its place.
use Rattle.std.specs.Prelude.{List, map, Some}
use Rattle.sigma_spl.specs.Lists.{on_last}
use Rattle.sigma_spl.specs.Nest.{PlainFactors, PlainNest}

-- a nest that multiplies its items
abbrev pub with_factors : PlainFactors → PlainNest → PlainNest
with_factors ds z =
    record {
      counts = z.counts;
      work = z.work;
      gathers = z.gathers;
      multiplier = Some (record { factors = ds; places = z.scatters });
      scatters = z.scatters;
    }

-- all nests of the last pass
abbrev pub multiplied_last : PlainFactors → List (List PlainNest) → List (List PlainNest)
multiplied_last ds ps = on_last (map (with_factors ds)) ps
