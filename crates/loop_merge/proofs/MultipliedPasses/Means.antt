-- Passes with a diagonal after the last of them do what the passes do, and then a product with the factor of each place.
use Rattle.std.proofs.Common.{◌≡◌, ℕ, ◌*◌, ◌%◌, ◌<◌, List, [], ◌∷◌, map, refl, sym, ap, ap₂, ◌∙◌, Option, None}
use Rattle.std.specs.Prelude.{slice_index}
use Rattle.std.proofs.lemmas.List.Elements.{All-head, All-tail}
use Rattle.loop_merge.specs.MultipliedPasses.Multiplied.{multiplied_last, with_factors}
use Rattle.operators.specs.Operator.{scale}
use Rattle.operators.specs.Sum.{list_below}
use Rattle.sigma_spl.specs.Lists.{LastIs}
use Rattle.sigma_spl.specs.Shared.Owners.{all_passes}
use Rattle.sigma_spl.specs.Copies.{pass_on, multiplied_by}
use Rattle.sigma_spl.specs.Merged.{phase_on, phases_on}
use Rattle.sigma_spl.specs.Nest.{PlainFactors, PlainMultiplier, PlainNest, copies_of, factor_at, load_place}
use Rattle.sigma_spl.specs.Nest.{multiplied_on, nests_on, store_place}
use Rattle.sigma_spl.specs.Trees.{IsFree}
use Rattle.sigma_spl.specs.Work.{work_size}
use Rattle.sigma_spl.proofs.CopiesMerge.{loops_scale}
use Rattle.sigma_spl.proofs.Phases.{phase-append}

-- ---- passes one after another

pub one-phase : (m n : ℕ) (phases : List (List (List PlainNest))) (x : List ℕ) →
    phases_on m n phases x ≡ phase_on m n (all_passes phases) x
one-phase m n [] x = refl
one-phase m n (ps ∷ more) x =
    one-phase m n more (phase_on m n ps x) ∙ sym (phase-append m n ps (all_passes more) x)

-- ---- the diagonal

module _ (ds : PlainFactors) (m : ℕ) where
  -- the copies of a nest whose items are multiplied by such factors
  nest-scaled : (z : PlainNest) → z.multiplier ≡ None →
      copies_of m (with_factors ds z) ≡ multiplied_by m (factor_at m ds) (copies_of m z)
  nest-scaled z free =
      ap
      (λ (o : Option PlainMultiplier).
      record {
        counts = z.counts;
        size = work_size z.work;
        from = load_place z.work z.gathers;
        does = λ vs y. list_below (work_size z.work) (λ k. (factor_at m ds (store_place z.work z.scatters vs k) * slice_index (multiplied_on m z o vs y) k) % m);
        to = store_place z.work z.scatters;
      })
      (sym free)

  nests-scaled : (zs : List PlainNest) → IsFree zs →
      map (copies_of m) (map (with_factors ds) zs) ≡ map (multiplied_by m (factor_at m ds)) (map (copies_of m) zs)
  nests-scaled [] free = refl
  nests-scaled (z ∷ zs) free =
      ap₂ (λ c cs. c ∷ cs) (nest-scaled z (All-head (λ (y : PlainNest). y.multiplier ≡ None) z zs free))
      (nests-scaled zs (All-tail (λ (y : PlainNest). y.multiplier ≡ None) z zs free))

  module _ (n : ℕ) (positive : 0 < m) where
    pass-scaled : (zs : List PlainNest) (x : List ℕ) → IsFree zs →
        nests_on m n (map (with_factors ds) zs) x ≡ scale m n (factor_at m ds) (nests_on m n zs x)
    pass-scaled zs x free =
        ap (λ cs. pass_on m n cs x) (nests-scaled zs free)
        ∙ sym (loops_scale m n (map (copies_of m) zs) (factor_at m ds) x positive)

    pub last-scaled : (ps : List (List PlainNest)) (x : List ℕ) → LastIs IsFree ps →
        phase_on m n (multiplied_last ds ps) x ≡ scale m n (factor_at m ds) (phase_on m n ps x)
    last-scaled [] x free = absurd free
    last-scaled (zs ∷ []) x free = pass-scaled zs x free
    last-scaled (zs ∷ ys ∷ ps) x free = last-scaled (ys ∷ ps) (nests_on m n zs x) free
