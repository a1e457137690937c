-- Lists of tables, and what holds of all items of a list.
use Rattle.std.proofs.Common.{◌≡◌, ℕ, zero, suc, ◌+◌, ◌<◌, ◌≤◌, List, [], ◌∷◌, ◌++◌, All, flat_map, length, arith}
use Rattle.std.proofs.Common.{subst, ⊎_elim}
use Rattle.std.proofs.lemmas.Bool.{cases_eq}
use Rattle.std.specs.Prelude.{slice_index_or}
use Rattle.std.specs.List.{range_with_len}
use Rattle.std.proofs.lemmas.List.Elements.{All-nil, All-cons, All-head, All-tail}

-- ---- tables

-- a table with an entry is there
pub is-there : (xs : List (List ℕ)) (i : ℕ) → 0 < length (slice_index_or xs i []) → i < length xs
is-there [] i some = absurd (omega (arith, some))
is-there (x ∷ xs) zero some = omega arith
is-there (x ∷ xs) (suc i) some = let rest = is-there xs i some in omega (arith, rest)

-- ---- all items

pub all-left : {X : Type 0} (P : X → Type 0) (xs ys : List X) → All P (xs ++ ys) → All P xs
all-left P [] ys h = All-nil P
all-left P (x ∷ xs) ys h = All-cons P x xs (All-head P x (xs ++ ys) h) (all-left P xs ys (All-tail P x (xs ++ ys) h))

pub all-right : {X : Type 0} (P : X → Type 0) (xs ys : List X) → All P (xs ++ ys) → All P ys
all-right P [] ys h = h
all-right P (x ∷ xs) ys h = all-right P xs ys (All-tail P x (xs ++ ys) h)

pub all-in-loop : {X : Type 0} (P : X → Type 0) (f : ℕ → List X) (a n i : ℕ) → All P (flat_map f (range_with_len a n)) →
    a ≤ i → i < a + n → All P (f i)
all-in-loop P f a zero i h low high = absurd (omega arith)
all-in-loop P f a (suc n) i h low high =
    ⊎_elim
    (λ (e : a ≡ i). subst (λ k. All P (f k)) e (all-left P (f a) (flat_map f (range_with_len (a + 1) n)) h))
    (λ ne. all-in-loop P f (a + 1) n i (all-right P (f a) (flat_map f (range_with_len (a + 1) n)) h) (omega arith) (omega arith))
    (cases_eq a i)
