-- Passes of one lane whose last one multiplies its items are ready where the passes without factors are.
use Rattle.std.proofs.Common.{◌≡◌, ℕ, ◌+◌, ◌*◌, ◌<◌, Bool, true, List, [], ◌∷◌, map, refl, sym, ap, ap₂, ◌∙◌, arith}
use Rattle.std.proofs.Common.{subst, All, Some}
use Rattle.std.specs.Prelude.{◌&&◌}
use Rattle.std.specs.List.{list_all}
use Rattle.std.proofs.lemmas.List.Elements.{All-cons, All-head, All-nil, All-tail}
use Rattle.loop_merge.specs.MultipliedPasses.Multiplied.{multiplied_last, with_factors}
use Rattle.operators.specs.Paths.Loop.{loop_at}
use Rattle.operators.specs.declared.target.Target.{Target}
use Rattle.sigma_spl.proofs.Walk.{and-left, and-right}
use Rattle.sigma_spl.specs.Copies.{hits, loops_of}
use Rattle.sigma_spl.specs.Merge.{is_limited, is_multiplier_within, is_within, limits_of}
use Rattle.sigma_spl.specs.Nest.{PlainFactors, PlainMultiplier, PlainNest, copies_of, factor_at, factor_count}
use Rattle.sigma_spl.specs.Nest.{store_place}
use Rattle.sigma_spl.specs.Shared.Machine.{item_of, lane_step, values_of}
use Rattle.sigma_spl.specs.Shared.Owners.{IsHost}
use Rattle.sigma_spl.specs.Shared.Ready.{IsReadyMultiplier, IsReadyNest, IsReadyPass, LoadsAlike}
use Rattle.sigma_spl.specs.Shared.Running.{CanRunNest, MovesVectors}
use Rattle.sigma_spl.specs.Work.{PlainWork, kernel, rows, horner, tile, copy, work_size}

-- what holds of a thing holds of that which is the same
of-some : (P : PlainMultiplier → Type 0) (e d : PlainMultiplier) → Some e ≡ Some d → P e → P d
of-some P e d is h = let same : e ≡ d = cc in subst P same h

hits-with : (m : ℕ) (ds : PlainFactors) (zs : List PlainNest) (w : ℕ) →
    hits (map (copies_of m) (map (with_factors ds) zs)) w ≡ hits (map (copies_of m) zs) w
hits-with m ds [] w = refl
hits-with m ds (z ∷ zs) w =
    ap (λ b. loop_at (loops_of z.counts) (work_size z.work) (store_place z.work z.scatters) (λ vs k. 1) w + b)
    (hits-with m ds zs w)

alike-with : (ds : PlainFactors) (z : PlainNest) (w : PlainWork) → LoadsAlike z w → LoadsAlike (with_factors ds z) w
alike-with ds z (kernel trees) h = h
alike-with ds z (rows root size) h = h
alike-with ds z (horner root size) h = h
alike-with ds z (tile lanes) h = h
alike-with ds z (copy size) h = h

-- a diagonal with a factor for each place, which one lane alone can take
pub record CanFollow (h : Target) (ds : PlainFactors) : Type 0 where
  pub lanes : h.lanes ≡ 1
  pub size : factor_count ds ≡ h.size
  pub residues : (i : ℕ) → factor_at h.modulus ds i < h.modulus

module _ (h : Target) (host : IsHost h) (ds : PlainFactors) (follow : CanFollow h ds) where
  abbrev diagonal : PlainNest → PlainMultiplier
  diagonal z = record { factors = ds; places = z.scatters }

  -- ---- nests that run

  -- the one lane takes the factor of its place
  lanes-with : (z : PlainNest) (q : ℕ) (vs : List ℕ) (lane k : ℕ) → lane < h.lanes → MovesVectors h z q vs lane k →
      store_place z.work z.scatters (values_of h z.work q lane vs) (item_of z.work k lane)
      ≡ store_place z.work z.scatters (values_of h z.work q 0 vs) (item_of z.work k 0) + lane_step z.work * lane
  lanes-with z q vs lane k low moves =
      let one = follow.lanes in
      let none : lane ≡ 0 = omega (arith, low, one) in
      let zero : (s : ℕ) → 0 ≡ s * 0 = λ s. omega arith in
      let same : lane ≡ lane_step z.work * lane =
      none ∙ zero (lane_step z.work) ∙ ap (λ l. lane_step z.work * l) (sym none) in
      moves.stores
      ∙ ap (λ l. store_place z.work z.scatters (values_of h z.work q 0 vs) (item_of z.work k 0) + l) same

  nest-runs : (z : PlainNest) → CanRunNest h z → CanRunNest h (with_factors ds z)
  nest-runs z can =
      record {
        work = can.work;
        inside = record { loads = can.inside.loads; stores = can.inside.stores };
        framed = record { loops = can.framed.loops; counts = can.framed.counts };
        vectors = λ q vs lane k range low below.
            let moves = can.vectors q vs lane k range low below in
            record {
              loads = moves.loads;
              stores = moves.stores;
              factors = λ d is.
                  of-some
                  (λ e. store_place z.work e.places (values_of h z.work q lane vs) (item_of z.work k lane)
                  ≡ store_place z.work e.places (values_of h z.work q 0 vs) (item_of z.work k 0) + lane_step z.work * lane)
                  (diagonal z) d is (lanes-with z q vs lane k low moves);
            };
        factors = λ d is vs k range below.
            of-some (λ e. store_place z.work e.places vs k < factor_count e.factors) (diagonal z) d is
            (subst (λ n. store_place z.work z.scatters vs k < n) (sym follow.size) (can.inside.stores vs k range below));
        residues = λ d is i. of-some (λ e. factor_at h.modulus e.factors i < h.modulus) (diagonal z) d is (follow.residues i);
      }

  all-run : (zs : List PlainNest) → All (CanRunNest h) zs → All (CanRunNest h) (map (with_factors ds) zs)
  all-run [] can = All-nil (CanRunNest h)
  all-run (z ∷ zs) can =
      All-cons (CanRunNest h) (with_factors ds z) (map (with_factors ds) zs)
      (nest-runs z (All-head (CanRunNest h) z zs can)) (all-run zs (All-tail (CanRunNest h) z zs can))

  -- ---- nests that are ready

  nest-ready : (z : PlainNest) → IsReadyNest h z → IsReadyNest h (with_factors ds z)
  nest-ready z ready =
      let size = host.size in
      let count = follow.size in
      record {
        gathers = ready.gathers;
        scatters = ready.scatters;
        multiplier = λ d is.
            of-some (IsReadyMultiplier z.work) (diagonal z) d is
            (record { named = ready.scatters; some = omega (arith, size, count); few = omega (arith, size, count) });
        alike = alike-with ds z z.work ready.alike;
        small = ready.small;
        items = ready.items;
        shallow = ready.shallow;
        counts = ready.counts;
      }

  all-ready : (zs : List PlainNest) → All (IsReadyNest h) zs → All (IsReadyNest h) (map (with_factors ds) zs)
  all-ready [] ready = All-nil (IsReadyNest h)
  all-ready (z ∷ zs) ready =
      All-cons (IsReadyNest h) (with_factors ds z) (map (with_factors ds) zs)
      (nest-ready z (All-head (IsReadyNest h) z zs ready)) (all-ready zs (All-tail (IsReadyNest h) z zs ready))

  -- the places of the factors are those of the stores
  within-with : (zs : List PlainNest) → is_within 64 h.size zs ≡ true →
      is_within 64 h.size (map (with_factors ds) zs) ≡ true
  within-with [] w = refl
  within-with (z ∷ zs) w =
      let cs = limits_of z in
      let loads = list_all (is_limited 64 h.size cs) z.gathers in
      let stores = list_all (is_limited 64 h.size cs) z.scatters in
      let factors = is_multiplier_within 64 cs z.multiplier in
      let places = and-left (loads && stores) factors (and-left ((loads && stores) && factors) (is_within 64 h.size zs) w) in
      let taken : list_all (is_limited 64 (factor_count ds) cs) z.scatters ≡ true =
      subst (λ n. list_all (is_limited 64 n cs) z.scatters ≡ true) (sym follow.size) (and-right loads stores places) in
      ap₂ (λ (a b : Bool). a && b) (ap₂ (λ (a b : Bool). a && b) places taken)
      (within-with zs (and-right ((loads && stores) && factors) (is_within 64 h.size zs) w))

  -- ---- passes

  pass-ready : (zs : List PlainNest) → IsReadyPass h zs → IsReadyPass h (map (with_factors ds) zs)
  pass-ready zs ready =
      record {
        runs = record {
          lanes = ready.runs.lanes;
          modulus = ready.runs.modulus;
          nests = all-run zs ready.runs.nests;
          once = λ w below. hits-with h.modulus ds zs w ∙ ready.runs.once w below;
        };
        within = within-with zs ready.within;
        nests = all-ready zs ready.nests;
      }

  pub last-ready : (ps : List (List PlainNest)) → All (IsReadyPass h) ps → All (IsReadyPass h) (multiplied_last ds ps)
  last-ready [] ready = All-nil (IsReadyPass h)
  last-ready (zs ∷ []) ready =
      All-cons (IsReadyPass h) (map (with_factors ds) zs) [] (pass-ready zs (All-head (IsReadyPass h) zs [] ready))
      (All-nil (IsReadyPass h))
  last-ready (zs ∷ ys ∷ ps) ready =
      All-cons (IsReadyPass h) zs (multiplied_last ds (ys ∷ ps)) (All-head (IsReadyPass h) zs (ys ∷ ps) ready)
      (last-ready (ys ∷ ps) (All-tail (IsReadyPass h) zs (ys ∷ ps) ready))
