-- The places on one side of a nest, and a pass that takes a function there.
use Rattle.std.specs.Prelude.{◌≡◌, ℕ, Bool, true, ◌&&◌, List, map}
use Rattle.std.specs.List.{list_all}
use Rattle.index_fn.specs.Mapping.{Mapping}
use Rattle.sigma_spl.specs.Merge.{is_within}
use Rattle.sigma_spl.specs.Nest.{PlainNest}
use Rattle.perm_algebra.specs.Affine.{Sum}
use Rattle.loop_nests.specs.Places.Sums.{all_limits, are_limited, can_lead_all, have_room, led_by}
use Rattle.loop_nests.specs.declared.places.access.Access.{Access}
use Rattle.loop_nests.specs.declared.places.access.Access.TheVariants.{Loads, Stores}

-- ---- one nest

abbrev pub places_of : Access → PlainNest → List Sum
places_of Loads z = z.gathers
places_of Stores z = z.scatters

-- the same nest with other places there
abbrev pub with_places : Access → List Sum → PlainNest → PlainNest
with_places Loads es z =
    record {
      counts = z.counts;
      work = z.work;
      gathers = es;
      multiplier = z.multiplier;
      scatters = z.scatters;
    }
with_places Stores es z =
    record {
      counts = z.counts;
      work = z.work;
      gathers = z.gathers;
      multiplier = z.multiplier;
      scatters = es;
    }

-- they are within the limits
abbrev pub IsSideWithin : Access → ℕ → ℕ → PlainNest → Type 0
IsSideWithin access room n z = are_limited room n (all_limits z) (places_of access z) ≡ true

-- where a function leads them, and whether it can
abbrev pub places_by : Access → Mapping → PlainNest → List Sum
places_by access f z = led_by (all_limits z) f (places_of access z)

abbrev pub nest_can_take : Access → ℕ → ℕ → Mapping → PlainNest → Bool
nest_can_take access room n f z = can_lead_all room n (all_limits z) f (places_of access z)

-- ---- a pass

-- each nest with the function there: `gathered` of loads, `scattered` of stores
abbrev pub changed : Access → Mapping → List PlainNest → List PlainNest
changed access f zs = map (λ (z : PlainNest). with_places access (places_by access f z) z) zs

-- every number on the way fits 64 bits
abbrev pub places_have_room : Access → Mapping → List PlainNest → Bool
places_have_room access f zs =
    list_all (λ (z : PlainNest). have_room (all_limits z) f (places_of access z)) zs

-- a pass that can take the function there: `can_gather` of loads, `can_scatter` of stores
abbrev pub can_change : Access → ℕ → ℕ → Mapping → List PlainNest → Bool
can_change access room n f zs =
    places_have_room access f zs && is_within room n (changed access f zs)
