-- Places under tensors of which those of one copy are left out: they are the places under all of them, where 0 names the one copy.
use Rattle.sigma_lower.proofs.Words.{◌≡◌, ℕ, ◌+◌, ◌≤◌, Bool, true, false, arith, refl, sym, ap, ap₂, ◌∙◌, List, [], ◌∷◌}
use Rattle.sigma_lower.proofs.Words.{if◌then◌else◌, subst, ◌==◌, Mapping, Sum, constant, variable, scaled, added}
use Rattle.sigma_lower.proofs.Words.{simplified, HasRoomFor, Fits, place_sum, AreCounts, wrapped, is-one, size-within}
use Rattle.sigma_lower.proofs.Words.{within_all, Tensor, Blocks, Columns, Path, count_of, grown, size_under}
use Rattle.sigma_lower.proofs.TreeLoops.InCopies.{placed, AreCopies, simplified-placed, room-placed}
use Rattle.sigma_lower.proofs.TreeLoops.Moved.{fits-one, placed-one_block, placed-one_column}
use Rattle.sigma_lower.proofs.TreeLoops.PlaceSums.{variable-fits}

pub size-all : (ts : Path) (n : ℕ) → size_under (within_all ts []) n ≡ size_under ts n
size-all [] n = refl
size-all (t ∷ ts) n = size-within t (within_all ts []) n ∙ ap (grown t) (size-all ts n)

-- ---- sums that name a copy, without those of tensors of one copy

abbrev pub kept : Path → List Sum → List Sum
kept [] us = []
kept (t ∷ ts) [] = []
kept (t ∷ ts) (u ∷ us) = if count_of t == 1 then kept ts us else u ∷ kept ts us

pub one-copy : (t : Tensor) (path : Path) (n : ℕ) (u : Sum) (us : List Sum) (e : Sum) (cs : ℕ → ℕ) → count_of t ≡ 1 →
    Fits (count_of t) u cs → placed (t ∷ path) n (u ∷ us) e ≡ placed path n us e
one-copy (Blocks c) path n u us e cs one f =
    ap (λ w. added (scaled (size_under path n) w) (placed path n us e)) (fits-one u cs (subst (λ k. Fits k u cs) one f)) ∙ placed-one_block path n us e
one-copy (Columns c) path n u us e cs one f =
    ap₂ (λ k w. added (scaled k (placed path n us e)) w) one (fits-one u cs (subst (λ k. Fits k u cs) one f)) ∙ placed-one_column path n us e

placed-pick : (b : Bool) (t : Tensor) (path inner : Path) (n : ℕ) (u : Sum) (us vs : List Sum) (e : Sum) (cs : ℕ → ℕ) →
    (b ≡ true → count_of t ≡ 1) → Fits (count_of t) u cs → size_under inner n ≡ size_under path n →
    placed path n us e ≡ placed inner n vs e →
    placed (t ∷ path) n (u ∷ us) e ≡ placed (if b then inner else t ∷ inner) n (if b then vs else u ∷ vs) e
placed-pick true t path inner n u us vs e cs one f size is = one-copy t path n u us e cs (one refl) f ∙ is
placed-pick false (Blocks c) path inner n u us vs e cs one f size is = ap₂ (λ k g. added (scaled k u) g) (sym size) is
placed-pick false (Columns c) path inner n u us vs e cs one f size is = ap (λ g. added (scaled c g) u) is

pub placed-within : (ts : Path) (n : ℕ) (us : List Sum) (e : Sum) (cs : ℕ → ℕ) → AreCopies ts us cs →
    placed ts n us e ≡ placed (within_all ts []) n (kept ts us) e
placed-within [] n us e cs h = refl
placed-within (t ∷ ts) n [] e cs h = absurd h
placed-within (t ∷ ts) n (u ∷ us) e cs h =
    placed-pick (count_of t == 1) t ts (within_all ts []) n u us (kept ts us) e cs (is-one (count_of t)) h.0 (size-all ts n) (placed-within ts n us e cs h.1)

copies-pick : (b : Bool) (t : Tensor) (path : Path) (u : Sum) (us : List Sum) (cs : ℕ → ℕ) → Fits (count_of t) u cs →
    AreCopies path us cs → AreCopies (if b then path else t ∷ path) (if b then us else u ∷ us) cs
copies-pick true t path u us cs f h = h
copies-pick false t path u us cs f h = (f, h)

pub copies-within : (ts : Path) (us : List Sum) (cs : ℕ → ℕ) → AreCopies ts us cs →
    AreCopies (within_all ts []) (kept ts us) cs
copies-within [] us cs h = tt
copies-within (t ∷ ts) [] cs h = absurd h
copies-within (t ∷ ts) (u ∷ us) cs h = copies-pick (count_of t == 1) t (within_all ts []) u (kept ts us) cs h.0 (copies-within ts us cs h.1)

-- ---- functions under the tensors

pub simplified-within : (ts : Path) (n : ℕ) (us : List Sum) (f : Mapping) (e : Sum) (cs : ℕ → ℕ) → AreCopies ts us cs →
    Fits n e cs →
    simplified cs (wrapped (within_all ts []) n f) (placed ts n us e) ≡ placed ts n us (simplified cs f e)
simplified-within ts n us f e cs h fits =
    ap (simplified cs (wrapped (within_all ts []) n f)) (placed-within ts n us e cs h)
    ∙ simplified-placed (within_all ts []) n (kept ts us) f e cs (copies-within ts us cs h) fits
    ∙ sym (placed-within ts n us (simplified cs f e) cs h)

pub room-within : (ts : Path) (n : ℕ) (us : List Sum) (f : Mapping) (e : Sum) (cs : ℕ → ℕ) → AreCopies ts us cs →
    Fits n e cs → Fits n (simplified cs f e) cs → size_under ts n ≤ 1048576 → HasRoomFor cs f e →
    HasRoomFor cs (wrapped (within_all ts []) n f) (placed ts n us e)
room-within ts n us f e cs h fits made high room =
    subst (HasRoomFor cs (wrapped (within_all ts []) n f)) (sym (placed-within ts n us e cs h))
    (room-placed (within_all ts []) n (kept ts us) f e cs (copies-within ts us cs h) fits made (omega (arith, size-all ts n, high)) room)

-- ---- natural places

-- the variables from d on, where 0 names the one copy of a tensor
abbrev pub copies_from : Path → ℕ → List Sum
copies_from [] d = []
copies_from (t ∷ ts) d = (if count_of t == 1 then constant 0 else variable 1 d (constant 0)) ∷ copies_from ts (if count_of t == 1 then d else d + 1)

natural-pick : (b : Bool) (t : Tensor) (path ts : Path) (n d : ℕ) (e : Sum) → (b ≡ true → count_of t ≡ 1) →
    size_under path n ≡ size_under ts n → ((i : ℕ) → place_sum path n i e ≡ placed ts n (copies_from ts i) e) →
    place_sum (if b then path else t ∷ path) n d e ≡ placed (t ∷ ts) n
    ((if b then constant 0 else variable 1 d (constant 0)) ∷ copies_from ts (if b then d else d + 1)) e
natural-pick true (Blocks c) path ts n d e one size is = is d ∙ sym (placed-one_block ts n (copies_from ts d) e)
natural-pick true (Columns c) path ts n d e one size is =
    is d ∙ sym (placed-one_column ts n (copies_from ts d) e) ∙ ap (λ k. added (scaled k (placed ts n (copies_from ts d) e)) (constant 0)) (sym (one refl))
natural-pick false (Blocks c) path ts n d e one size is = ap₂ (λ k g. added (scaled k (variable 1 d (constant 0))) g) size (is (d + 1))
natural-pick false (Columns c) path ts n d e one size is = ap (λ g. added (scaled c g) (variable 1 d (constant 0))) (is (d + 1))

pub natural-placed : (ts : Path) (n d : ℕ) (e : Sum) → place_sum (within_all ts []) n d e
    ≡ placed ts n (copies_from ts d) e
natural-placed [] n d e = refl
natural-placed (t ∷ ts) n d e = natural-pick (count_of t == 1) t (within_all ts []) ts n d e (is-one (count_of t)) (size-all ts n) (λ i. natural-placed ts n i e)

zero-fits : (n : ℕ) (cs : ℕ → ℕ) → n ≡ 1 → Fits n (constant 0) cs
zero-fits n cs one = record { proper = tt; small = omega arith; tame = tt; few = rw one (omega arith) }

natural-copies-pick : (b : Bool) (t : Tensor) (path ts : Path) (n d : ℕ) (cs : ℕ → ℕ) → (b ≡ true → count_of t ≡ 1) →
    AreCounts (if b then path else t ∷ path) n d cs → ((i : ℕ) → AreCounts path n i cs →
    AreCopies ts (copies_from ts i) cs) →
    AreCopies (t ∷ ts) ((if b then constant 0 else variable 1 d (constant 0)) ∷ copies_from ts (if b then d else d + 1))
    cs
natural-copies-pick true t path ts n d cs one h inner = (zero-fits (count_of t) cs (one refl), inner d h)
natural-copies-pick false (Blocks c) path ts n d cs one h inner = (variable-fits c d cs h.0 h.1, inner (d + 1) h.2)
natural-copies-pick false (Columns c) path ts n d cs one h inner = (variable-fits c d cs h.0 h.1, inner (d + 1) h.2)

pub natural-copies : (ts : Path) (n d : ℕ) (cs : ℕ → ℕ) → AreCounts (within_all ts []) n d cs →
    AreCopies ts (copies_from ts d) cs
natural-copies [] n d cs h = tt
natural-copies (t ∷ ts) n d cs h = natural-copies-pick (count_of t == 1) t (within_all ts []) ts n d cs (is-one (count_of t)) h (λ i g. natural-copies ts n i cs g)
