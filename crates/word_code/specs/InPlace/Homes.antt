-- Where the words of one memory stand in another.
use Rattle.std.specs.Prelude.{ℕ, zero, suc, ◌+◌, ◌==◌, ◌&&◌, Bool, true, List, slice_index, slice_set}
use Rattle.std.specs.List.{range_with_len}

-- Of each address of the one, the address of the other where its word was put last; of each address of the other, the
-- address of the one whose word was put there last
pub record Homes : Type 0 where
  pub homes : List ℕ
  pub guests : List ℕ

-- each word at its own address
abbrev pub own_homes : ℕ → Homes
own_homes words = record { homes = range_with_len 0 words; guests = range_with_len 0 words }

-- the word at an address of the one stands at an address of the other
abbrev pub is_home : Homes → ℕ → ℕ → Bool
is_home h at to = (slice_index h.homes at == to) && (slice_index h.guests to == at)

-- so do n words from there on
abbrev pub are_home : Homes → ℕ → ℕ → ℕ → Bool
are_home h zero at to = true
are_home h (suc n) at to = is_home h at to && are_home h n (at + 1) (to + 1)

-- n words are put there
abbrev pub housed : ℕ → ℕ → ℕ → Homes → Homes
housed zero at to h = h
housed (suc n) at to h =
    housed n (at + 1) (to + 1) (record { homes = slice_set h.homes at to; guests = slice_set h.guests to at })
