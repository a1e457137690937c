-- Passes by the rules of emission as nests, of which the generator makes a program.
use Rattle.std.proofs.Common.{ℕ, ◌+◌, List, [], ◌∷◌, ◌++◌, length, Option, Some, None, map, slice_index, if◌then◌else◌}
use Rattle.std.specs.List.{range_with_len}
use Rattle.perm_algebra.specs.Affine.{Sum, constant, variable}
use Rattle.sigma_spl.specs.Nest as nests
use Rattle.sigma_spl.specs.Nest.{PlainFactors, PlainMultiplier, PlainNest}
use Rattle.sigma_spl.specs.Work as works
use Rattle.sigma_spl.specs.Work.{PlainWork, is_straight, vectors_of}
use Rattle.generate.specs.Emission.Passes.{Diagonal, Factors, Pass, Site, Work, entries, kernel, none, number, rows}
use Rattle.generate.specs.Emission.Passes.{tile, twiddles, values}
use Rattle.generate.specs.Emission.Places.{PlaceFunction}

abbrev pub pass_at : Site → Work → Pass
pass_at o w = record { site = o; work = w }

abbrev pub plain_work : Work → PlainWork
plain_work (kernel c t) = works.kernel (works.node_of c t)
plain_work (rows root size) = works.rows root size
plain_work (tile v) = works.tile v

abbrev pub plain_factors : Diagonal → PlainFactors
plain_factors (values table) = nests.values table
plain_factors (twiddles r s root) = nests.twiddles r s root

-- Kernels and tiles name what they load and store one by one. A longer leaf has a loop over what it stores, and in it
-- one over what it loads
abbrev pub each : PlainWork → ℕ → List Sum
each work d =
    if is_straight work then map constant (range_with_len 0 (vectors_of work))
    else variable 1 d (constant 0) ∷ []

abbrev pub bounds : List ℕ → PlainWork → ℕ → ℕ
bounds counts w = slice_index (counts ++ works.work_size w ∷ works.work_size w ∷ [])

abbrev pub multiplier_at : List ℕ → PlainWork → Factors → Option PlainMultiplier
multiplier_at counts w none = None
multiplier_at counts w (number v) =
    Some (record { factors = nests.repeated v 1; places = map (λ k. constant 0) (each w (length counts)) })
multiplier_at counts w (entries diagonal place) =
    Some (record { factors = plain_factors diagonal; places = map (place (bounds counts w)) (each w (length counts)) })

abbrev pub nest_with : List ℕ → PlainWork → List Sum → Option PlainMultiplier → List Sum → PlainNest
nest_with counts w loads multiplier stores =
    record { counts = counts; work = w; gathers = loads; multiplier = multiplier; scatters = stores }

abbrev pub nest_at : List ℕ → PlainWork → PlaceFunction → Factors → PlaceFunction → PlainNest
nest_at counts w load factors store =
    nest_with counts w (map (load (bounds counts w)) (each w (length counts + 1))) (multiplier_at counts w factors)
    (map (store (bounds counts w)) (each w (length counts)))

abbrev pub emitted_nest : Pass → PlainNest
emitted_nest p = nest_at p.site.counts (plain_work p.work) p.site.load p.site.factors p.site.store

abbrev pub emitted : List Pass → List (List PlainNest)
emitted ps = map (λ p. emitted_nest p ∷ []) ps
