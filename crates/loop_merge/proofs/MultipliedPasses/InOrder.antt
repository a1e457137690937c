-- A diagonal whose factors stand as the places of its words do.
use Rattle.std.proofs.Common.{◌≡◌, ℕ, refl, ap, ap₂, List, [], ◌∷◌, Some}
use Rattle.std.specs.Prelude.{map}
use Rattle.perm_algebra.specs.Affine.{Sum}
use Rattle.sigma_spl.specs.Merge.{all_simplified, limits_of, multiplied}
use Rattle.sigma_spl.specs.Nest.{PlainFactors, PlainNest}
use Rattle.loop_merge.specs.MultipliedPasses.Multiplied.{with_factors}

same_places : (cs : ℕ → ℕ) (es : List Sum) → map (all_simplified cs []) es ≡ es
same_places cs [] = refl
same_places cs (e ∷ es) = ap (λ fs. e ∷ fs) (same_places cs es)

-- a nest whose factors stand at these places
abbrev at_places : PlainFactors → PlainNest → List Sum → PlainNest
at_places ds z es =
    record {
      counts = z.counts;
      work = z.work;
      gathers = z.gathers;
      multiplier = Some (record { factors = ds; places = es });
      scatters = z.scatters;
    }

pub in_order_is : (ds : PlainFactors) (zs : List PlainNest) → multiplied ds [] zs ≡ map (with_factors ds) zs
in_order_is ds [] = refl
in_order_is ds (z ∷ zs) =
    ap₂ (λ es ys. at_places ds z es ∷ ys) (same_places (limits_of z) z.scatters) (in_order_is ds zs)
