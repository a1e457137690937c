-- What contracts say of sums in code, where each variable runs below its count in a list.
use Rattle.std.specs.Prelude.{◌≡◌, ℕ, List, length, slice_index}
use Rattle.index_fn.specs.Mapping.{Mapping}
use Rattle.perm_algebra.specs.declared.Affine.{Affine}
use Rattle.perm_algebra.specs.Affine.{value, simplified}
use Rattle.perm_algebra.specs.Fits.{Agree, InRange, IsAffine, Stays}
use Rattle.perm_algebra.specs.Room.{HasRoomFor}
use Rattle.perm_algebra.specs.Views.{plain_sum}

-- each variable has a count, each divisor is at least 1, and what is divided fits 64 bits
abbrev pub IsSumOver : List ℕ → Affine → Type 0
IsSumOver counts sum = IsAffine (length counts) (slice_index counts) (plain_sum sum)

-- its values fit 64 bits
abbrev pub FitsOver : List ℕ → Affine → Type 0
FitsOver counts sum = Stays (slice_index counts) (value (plain_sum sum))

-- P holds of each of its values
abbrev pub EachValue : List ℕ → (ℕ → Type 0) → Affine → Type 0
EachValue counts P sum = (vs : ℕ → ℕ) → InRange (slice_index counts) vs → P (value (plain_sum sum) vs)

-- the sum is the function f of the place
abbrev pub IsImage : List ℕ → (ℕ → ℕ) → Affine → Affine → Type 0
IsImage counts f place sum = Agree (slice_index counts) (value (plain_sum sum)) (λ vs. f (value (plain_sum place) vs))

-- P holds of the values that two sums have together
abbrev pub EachTwo : List ℕ → (ℕ → ℕ → Type 0) → Affine → Affine → Type 0
EachTwo counts P a b =
    (vs : ℕ → ℕ) → InRange (slice_index counts) vs → P (value (plain_sum a) vs) (value (plain_sum b) vs)

-- the sum is the function f of two sums
abbrev pub IsImageOfTwo : List ℕ → (ℕ → ℕ → ℕ) → Affine → Affine → Affine → Type 0
IsImageOfTwo counts f a b sum =
    Agree (slice_index counts) (value (plain_sum sum)) (λ vs. f (value (plain_sum a) vs) (value (plain_sum b) vs))

-- every number on the way to the function at the place fits 64 bits
abbrev pub HasRoomOver : List ℕ → Mapping → Affine → Type 0
HasRoomOver counts f place = HasRoomFor (slice_index counts) f (plain_sum place)

-- the sum is the simplified function at the place, as the definition has it
abbrev pub IsSimplified : List ℕ → Mapping → Affine → Affine → Type 0
IsSimplified counts f place sum = plain_sum sum ≡ simplified (slice_index counts) f (plain_sum place)
