-- A diagonal after a nest, and whether the places on the way to its factors are within the limits.
use Rattle.std.specs.Prelude.{ℕ, Bool, ◌&&◌, List, map}
use Rattle.index_fn.specs.Index.{mapping_of}
use Rattle.index_fn.specs.Mapping.{Mapping}
use Rattle.sigma_spl.specs.Merge.{is_free}
use Rattle.sigma_spl.specs.Nest.{PlainFactors, PlainNest}
use Rattle.loop_nests.specs.Places.Sums.{all_limits, can_carry_all, carried_by}
use Rattle.loop_nests.specs.Places.Views.{multiplied_by}
use Rattle.loop_nests.specs.declared.places.diagonals.Diagonal.{Diagonal}

-- the functions that lead from a place to its factor
abbrev pub functions_of : Diagonal → List Mapping
functions_of d = map mapping_of d.places.items

-- they lead each place that the nest stores to below the count of factors
abbrev pub stores_can_carry : ℕ → ℕ → ℕ → List Mapping → PlainNest → Bool
stores_can_carry room n factors fs z = can_carry_all room n factors (all_limits z) fs z.scatters

-- and the nest has no diagonal
abbrev pub nest_can_multiply : ℕ → ℕ → ℕ → List Mapping → PlainNest → Bool
nest_can_multiply room n factors fs z = is_free z.multiplier && stores_can_carry room n factors fs z

-- each item is multiplied by the factor that the functions find at its place
abbrev pub nest_multiplied : PlainFactors → List Mapping → PlainNest → PlainNest
nest_multiplied factors fs z = multiplied_by z factors (carried_by (all_limits z) fs z.scatters)
