-- Places by the same counts: whether they are within the limits, and where functions lead them.
use Rattle.std.specs.Prelude.{ℕ, Bool, List, [], ◌∷◌, ◌++◌, map, slice_index}
use Rattle.std.specs.List.{list_all}
use Rattle.index_fn.specs.Mapping.{Mapping}
use Rattle.sigma_spl.specs.Merge.{all_simplified, carries_sum, is_limited}
use Rattle.sigma_spl.specs.Nest.{PlainNest}
use Rattle.sigma_spl.specs.Work.{work_size}
use Rattle.perm_algebra.specs.Affine.{Sum, simplified}
use Rattle.perm_algebra.specs.Room.{has_room}
use Rattle.loop_nests.specs.Limits.Leading.{can_lead}

-- what all variables of a nest run below
abbrev pub all_limits : PlainNest → List ℕ
all_limits z = z.counts ++ work_size z.work ∷ work_size z.work ∷ []

-- each place is within the limits
abbrev pub are_limited : ℕ → ℕ → List ℕ → List Sum → Bool
are_limited room n counts es = list_all (is_limited room n (slice_index counts)) es

-- where a function leads them, and whether it can
abbrev pub led_by : List ℕ → Mapping → List Sum → List Sum
led_by counts f es = map (simplified (slice_index counts) f) es

abbrev pub can_lead_all : ℕ → ℕ → List ℕ → Mapping → List Sum → Bool
can_lead_all room n counts f es = list_all (can_lead room n (slice_index counts) f) es

-- every number on the way fits 64 bits
abbrev pub have_room : List ℕ → Mapping → List Sum → Bool
have_room counts f es = list_all (has_room (slice_index counts) f) es

-- where functions lead them one after the other, and whether they can, to one of a number of factors
abbrev pub carried_by : List ℕ → List Mapping → List Sum → List Sum
carried_by counts fs es = map (all_simplified (slice_index counts) fs) es

abbrev pub can_carry_all : ℕ → ℕ → ℕ → List ℕ → List Mapping → List Sum → Bool
can_carry_all room n factors counts fs es =
    list_all (carries_sum room n factors (slice_index counts) fs) es
