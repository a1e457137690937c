-- Lists whose items are below a number, and what is read from them.
use Rattle.std.proofs.Common.{◌≡◌, ℕ, zero, suc, ◌+◌, ◌<◌, ◌≤◌, arith, refl, sym, ap, ap₂, ◌∙◌, List, [], ◌∷◌, ◌++◌}
use Rattle.std.proofs.Common.{length, map}
use Rattle.std.specs.Prelude.{All, slice_index}
use Rattle.std.proofs.lemmas.List.FromFn.{fill_by_all}
use Rattle.operators.specs.Operator.{gather}
use Rattle.operators.proofs.Lists.{length-list_below, at-list_below}
use Rattle.icode.proofs.SequenceLemmas.Placing.{slice_index-map, length-mapped}

-- each item of the list is below a
abbrev pub AllBelow : ℕ → List ℕ → Type 0
AllBelow a [] = Unit {0}
AllBelow a (r ∷ rs) = (r < a) × AllBelow a rs

pub AllBelow-more : (a b : ℕ) (rs : List ℕ) → a ≤ b → AllBelow a rs → AllBelow b rs
AllBelow-more a b [] h s = tt
AllBelow-more a b (r ∷ rs) h s = (omega (arith, s.0), AllBelow-more a b rs h s.1)

pub AllBelow-all : (a : ℕ) (rs : List ℕ) → AllBelow a rs → All (λ r. r < a) rs
AllBelow-all a [] h k d lt = absurd (omega arith)
AllBelow-all a (r ∷ rs) h zero d lt = h.0
AllBelow-all a (r ∷ rs) h (suc k) d lt = AllBelow-all a rs h.1 k d (omega arith)

pub AllBelow-append : (a : ℕ) (rs qs : List ℕ) → AllBelow a rs → AllBelow a qs → AllBelow a (rs ++ qs)
AllBelow-append a [] qs h s = s
AllBelow-append a (r ∷ rs) qs h s = (h.0, AllBelow-append a rs qs h.1 s)

pub AllBelow-at : (a : ℕ) (rs : List ℕ) → ((i : ℕ) → i < length rs → slice_index rs i < a) → AllBelow a rs
AllBelow-at a [] h = tt
AllBelow-at a (r ∷ rs) h = (h 0 (omega arith), AllBelow-at a rs (λ i below. h (suc i) (omega arith)))

pub at-AllBelow : (a : ℕ) (rs : List ℕ) (i : ℕ) → AllBelow a rs → i < length rs → slice_index rs i < a
at-AllBelow a [] i h below = absurd (omega arith)
at-AllBelow a (r ∷ rs) zero h below = h.0
at-AllBelow a (r ∷ rs) (suc i) h below = at-AllBelow a rs i h.1 (omega arith)

-- functions that agree below a
pub map-agree : (f g : ℕ → ℕ) (a : ℕ) (rs : List ℕ) → AllBelow a rs → ((r : ℕ) → r < a → f r ≡ g r) →
    map f rs ≡ map g rs
map-agree f g a [] h same = refl
map-agree f g a (r ∷ rs) h same = ap₂ (λ x xs. x ∷ xs) (same r h.0) (map-agree f g a rs h.1 same)

pub map-joined : (f : ℕ → ℕ) (xs ys : List ℕ) → map f (xs ++ ys) ≡ map f xs ++ map f ys
map-joined f [] ys = refl
map-joined f (x ∷ xs) ys = ap (λ zs. f x ∷ zs) (map-joined f xs ys)

pub length-joined : (xs ys : List ℕ) → length (xs ++ ys) ≡ length xs + length ys
length-joined [] ys = omega arith
length-joined (x ∷ xs) ys = omega (arith, length-joined xs ys)

-- the places that a gather reads are places of an n
abbrev pub ReadsBelow : ℕ → ℕ → (ℕ → ℕ) → Type 0
ReadsBelow n k f = (i : ℕ) → i < k → f i < n

pub map-gather : (g : ℕ → ℕ) (n k : ℕ) (f : ℕ → ℕ) (rs : List ℕ) → length rs ≡ n → ReadsBelow n k f →
    map g (gather k f rs) ≡ gather k f (map g rs)
map-gather g n k f rs size reads =
    fill_by_all _ (map g (gather k f rs)) k 0 (length-mapped g (gather k f rs) ∙ length-list_below k _)
    (λ i below.
    slice_index-map g (gather k f rs) i (rw (length-list_below k (λ i. slice_index rs (f i))) below)
    ∙ ap g (at-list_below k (λ i. slice_index rs (f i)) i below)
    ∙ sym (slice_index-map g rs (f i) (let a = reads i below in omega arith)))

pub gather-below : (a n k : ℕ) (f : ℕ → ℕ) (rs : List ℕ) → length rs ≡ n → ReadsBelow n k f → AllBelow a rs →
    AllBelow a (gather k f rs)
gather-below a n k f rs size reads h =
    AllBelow-at a (gather k f rs) (λ i within.
    let inside : i < k = rw (length-list_below k (λ i. slice_index rs (f i))) at within in
    rw (at-list_below k (λ i. slice_index rs (f i)) i inside) (at-AllBelow a rs (f i) h (let b = reads i inside in omega arith)))
