-- What the code's places stand for.
use Rattle.std.specs.Prelude.{List, map, reverse, Some, Vec}
use Rattle.std.proofs.Common.{Global}
use Rattle.index_fn.specs.Index.{mapping_of}
use Rattle.index_fn.specs.Mapping.{Mapping}
use Rattle.index_fn.specs.declared.Index.{Index}
use Rattle.sigma_spl.specs.Nest.{PlainFactors, PlainNest}
use Rattle.perm_algebra.specs.Affine.{Sum}
use Rattle.perm_algebra.specs.Views.{plain_sum}
use Rattle.perm_algebra.specs.declared.Affine.{Affine}

abbrev pub mappings_of : List Index → List Mapping
mappings_of fs = map mapping_of fs

-- those that wait, the latest first
abbrev pub waiting_of : List Index → List Mapping
waiting_of fs = mappings_of (reverse fs)

-- the same nest, with a diagonal after it: its factors, and their places
abbrev pub multiplied_by : PlainNest → PlainFactors → List Sum → PlainNest
multiplied_by z d places =
    record {
      counts = z.counts;
      work = z.work;
      gathers = z.gathers;
      multiplier = Some (record { factors = d; places = places });
      scatters = z.scatters;
    }

abbrev pub plain_sums : Vec Affine Global → List Sum
plain_sums es = map plain_sum es.items
