-- Copies of words that stand side by side, as one loop.
use Rattle.std.specs.Prelude.{ℕ, ◌+◌, ◌^◌, ◌==◌, ◌&&◌, nat_lt, Bool, false, if◌then◌else◌, List, [], ◌∷◌, map, Option}
use Rattle.std.specs.Prelude.{Some, None}
use Rattle.sigma_spl.specs.Merge.{is_free}
use Rattle.sigma_spl.specs.Nest.{PlainNest}
use Rattle.sigma_spl.specs.Work.{PlainWork, copy}
use Rattle.perm_algebra.specs.Affine.{Sum, constant, variable}

-- a number of words from a place on
pub record PlainRun : Type 0 where
  pub first : ℕ
  pub count : ℕ

-- the words of these places, under no loop, or under one that counts them
abbrev pub words_at : List ℕ → List Sum → Option PlainRun
words_at [] (constant p ∷ []) = Some (record { first = p; count = 1 })
words_at (c ∷ []) (variable f d (constant p) ∷ []) =
    if f == 1 && d == 0 then Some (record { first = p; count = c }) else None
words_at counts places = None

-- where they are loaded, if they are stored at the same places
abbrev pub same_words : Option PlainRun → Option PlainRun → Option PlainRun
same_words (Some r) (Some s) = if r.first == s.first then Some r else None
same_words r s = None

abbrev pub is_word : PlainWork → Bool
is_word (copy size) = size == 1
is_word w = false

-- the words that a nest copies one by one to the places where they are, if that is all it does
abbrev pub run_of : PlainNest → Option PlainRun
run_of z =
    if is_word z.work && is_free z.multiplier
    then same_words (words_at z.counts z.gathers) (words_at z.counts z.scatters) else None

-- both, where the second begins at the end of the first, and ends within the limits of places
abbrev pub together : Option PlainRun → Option PlainRun → Option PlainRun
together (Some r) (Some s) =
    if r.first + r.count == s.first && nat_lt (s.first + s.count) (2 ^ 32)
    then Some (record { first = r.first; count = r.count + s.count }) else None
together r s = None

-- the loop that copies them
abbrev pub copying_run : PlainRun → PlainNest
copying_run r =
    record {
      counts = r.count ∷ [];
      work = copy 1;
      gathers = variable 1 0 (constant r.first) ∷ [];
      multiplier = None;
      scatters = variable 1 0 (constant r.first) ∷ [];
    }

-- a nest before others, as one with the first of them where both are
abbrev pub before : Option PlainRun → PlainNest → PlainNest → List PlainNest → List PlainNest
before (Some r) z y ys = copying_run r ∷ ys
before None z y ys = z ∷ y ∷ ys

abbrev pub put_first : PlainNest → List PlainNest → List PlainNest
put_first z [] = z ∷ []
put_first z (y ∷ ys) = before (together (run_of z) (run_of y)) z y ys

abbrev pub with_copies_coalesced : List PlainNest → List PlainNest
with_copies_coalesced [] = []
with_copies_coalesced (z ∷ zs) = put_first z (with_copies_coalesced zs)

-- in each pass
abbrev pub all_coalesced : List (List PlainNest) → List (List PlainNest)
all_coalesced ps = map with_copies_coalesced ps
