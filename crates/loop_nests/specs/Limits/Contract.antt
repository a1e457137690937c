-- What contracts say of places within the limits, where each variable runs below its count in a list.
use Rattle.std.specs.Prelude.{ℕ, Bool, List, slice_index}
use Rattle.index_fn.specs.Mapping.{Mapping}
use Rattle.sigma_spl.specs.Merge.{is_limited}
use Rattle.perm_algebra.specs.declared.Affine.{Affine}
use Rattle.perm_algebra.specs.Room.{has_room}
use Rattle.perm_algebra.specs.Views.{plain_sum}
use Rattle.loop_nests.specs.declared.limits.Limits.{Limits}

-- every number on the way to the function at the place fits 64 bits
abbrev pub has_room_over : List ℕ → Mapping → Affine → Bool
has_room_over counts f place = has_room (slice_index counts) f (plain_sum place)

-- the sum is within the limits of a place
abbrev pub is_within : List ℕ → Limits → Affine → Bool
is_within counts limits sum = is_limited limits.room limits.size (slice_index counts) (plain_sum sum)
