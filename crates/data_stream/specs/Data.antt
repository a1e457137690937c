-- Data: numbers in tokens; a request's size of them make one vector.
use Rattle.std.specs.Prelude.{ℕ, ◌+◌, ◌-◌, ◌*◌, ◌^◌, Bool, true, false, ◌&&◌, ◌||◌, ◌==◌, nat_le, nat_lt, List, [], ◌∷◌, length, filter, if◌then◌else◌}
use Rattle.std.specs.List.{list_all, list_any, slice_split}
use Rattle.std.specs.Char.{is_ascii_digit}

-- space, tab, carriage return and line feed stand between tokens
abbrev pub is_separator : ℕ → Bool
is_separator byte = byte == 32 || byte == 9 || byte == 13 || byte == 10

abbrev pub is_nonempty : List ℕ → Bool
is_nonempty [] = false
is_nonempty (byte ∷ bytes) = true

-- the runs of bytes between the separators
abbrev pub tokens : List ℕ → List (List ℕ)
tokens bytes = filter is_nonempty (slice_split is_separator bytes)

abbrev pub has_separator : List ℕ → Bool
has_separator bytes = list_any is_separator bytes

-- the bytes up to the last separator: what follows it may still grow
abbrev pub closed_part : List ℕ → List ℕ
closed_part [] = []
closed_part (byte ∷ bytes) = if is_separator byte || has_separator bytes then byte ∷ closed_part bytes else []

-- the number that these decimal digits write after those of n
abbrev pub value_after : ℕ → List ℕ → ℕ
value_after n [] = n
value_after n (digit ∷ digits) = value_after (n * 10 + (digit - 48)) digits

abbrev pub value_of : List ℕ → ℕ
value_of token = value_after 0 token

-- a good token: 1 to 20 digits that write a number below 2^64
abbrev pub is_good : List ℕ → Bool
is_good token = list_all is_ascii_digit token && nat_lt 0 (length token) && nat_le (length token) 20 && nat_lt (value_of token) (2 ^ 64)
