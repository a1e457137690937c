-- Places in copies that any sums name: a natural place is one where the loops' variables name the copy.
use Rattle.sigma_lower.proofs.Words.{◌≡◌, ℕ, ◌+◌, ◌*◌, ◌<◌, ◌≤◌, arith, refl, sym, ap, ◌∙◌, List, [], ◌∷◌, subst}
use Rattle.sigma_lower.proofs.Words.{le-mul_of_pos_right, Mapping, Sum, constant, variable, top, scaled, added}
use Rattle.sigma_lower.proofs.Words.{Divided, simplified, HasRoomFor, divided-added, positive-product, wrapped, Fits}
use Rattle.sigma_lower.proofs.Words.{place_sum, AreCounts, Blocks, Columns, Path, count_of, size_under, le-times, Same}
use Rattle.sigma_lower.proofs.TreeLoops.PlaceRoom.{room-paired, scaled-top}
use Rattle.sigma_lower.proofs.TreeLoops.PlaceSums.{parts-fit, variable-fits}

-- the place of e in the copy that these sums name, one for each tensor
abbrev pub placed : Path → ℕ → List Sum → Sum → Sum
placed [] n us e = e
placed (t ∷ path) n [] e = e
placed (Blocks c ∷ path) n (u ∷ us) e = added (scaled (size_under path n) u) (placed path n us e)
placed (Columns c ∷ path) n (u ∷ us) e = added (scaled c (placed path n us e)) u

-- each of them runs below the count of its tensor
abbrev pub AreCopies : Path → List Sum → (ℕ → ℕ) → Type 0
AreCopies [] us cs = Unit {0}
AreCopies (t ∷ path) [] cs = ⊥
AreCopies (t ∷ path) (u ∷ us) cs = Fits (count_of t) u cs × AreCopies path us cs

-- the variables from d on
abbrev pub variables_of : Path → ℕ → List Sum
variables_of [] d = []
variables_of (t ∷ path) d = variable 1 d (constant 0) ∷ variables_of path (d + 1)

pub place_sum-placed : (path : Path) (n d : ℕ) (e : Sum) → place_sum path n d e ≡ placed path n (variables_of path d) e
place_sum-placed [] n d e = refl
place_sum-placed (Blocks c ∷ path) n d e = ap (added (scaled (size_under path n) (variable 1 d (constant 0)))) (place_sum-placed path n (d + 1) e)
place_sum-placed (Columns c ∷ path) n d e = ap (λ g. added (scaled c g) (variable 1 d (constant 0))) (place_sum-placed path n (d + 1) e)

pub counts-copies : (path : Path) (n d : ℕ) (cs : ℕ → ℕ) → AreCounts path n d cs →
    AreCopies path (variables_of path d) cs
counts-copies [] n d cs h = tt
counts-copies (Blocks c ∷ path) n d cs h = (variable-fits c d cs h.0 h.1, counts-copies path n (d + 1) cs h.2)
counts-copies (Columns c ∷ path) n d cs h = (variable-fits c d cs h.0 h.1, counts-copies path n (d + 1) cs h.2)

copies-positive : (path : Path) (n : ℕ) (us : List Sum) (cs : ℕ → ℕ) → AreCopies path us cs → 0 < n →
    0 < size_under path n
copies-positive [] n us cs h positive = positive
copies-positive (t ∷ path) n [] cs h positive = absurd h
copies-positive (Blocks c ∷ path) n (u ∷ us) cs h positive = positive-product c (size_under path n) (omega (arith, h.0.small)) (copies-positive path n us cs h.1 positive)
copies-positive (Columns c ∷ path) n (u ∷ us) cs h positive = positive-product (size_under path n) c (copies-positive path n us cs h.1 positive) (omega (arith, h.0.small))

fits-positive : (n : ℕ) (e : Sum) (cs : ℕ → ℕ) → Fits n e cs → 0 < n
fits-positive n e cs f = omega (arith, f.small)

pub placed-fits : (path : Path) (n : ℕ) (us : List Sum) (e : Sum) (cs : ℕ → ℕ) → AreCopies path us cs → Fits n e cs →
    Fits (size_under path n) (placed path n us e) cs
placed-fits [] n us e cs h f = f
placed-fits (t ∷ path) n [] e cs h f = absurd h
placed-fits (Blocks c ∷ path) n (u ∷ us) e cs h f =
    parts-fit c (size_under path n) u (placed path n us e) cs (copies-positive path n us cs h.1 (fits-positive n e cs f)) h.0 (placed-fits path n us e cs h.1 f)
placed-fits (Columns c ∷ path) n (u ∷ us) e cs h f = parts-fit (size_under path n) c (placed path n us e) u cs (omega (arith, h.0.small)) (placed-fits path n us e cs h.1 f) h.0

-- a permutation under tensors, at a place under the same tensors, is the permutation at the inner place
pub simplified-placed : (path : Path) (n : ℕ) (us : List Sum) (f : Mapping) (e : Sum) (cs : ℕ → ℕ) →
    AreCopies path us cs → Fits n e cs →
    simplified cs (wrapped path n f) (placed path n us e) ≡ placed path n us (simplified cs f e)
simplified-placed [] n us f e cs h fits = refl
simplified-placed (t ∷ path) n [] f e cs h fits = absurd h
simplified-placed (Blocks c ∷ path) n (u ∷ us) f e cs h fits =
    let inner = placed-fits path n us e cs h.1 fits in
    ap (λ (z : Divided). added (scaled (size_under path n) z.quot) (simplified cs (wrapped path n f) z.rem))
    (divided-added (size_under path n) u (placed path n us e) cs (copies-positive path n us cs h.1 (fits-positive n e cs fits)) inner.proper inner.small)
    ∙ ap (added (scaled (size_under path n) u)) (simplified-placed path n us f e cs h.1 fits)
simplified-placed (Columns c ∷ path) n (u ∷ us) f e cs h fits =
    ap (λ (z : Divided). added (scaled c (simplified cs (wrapped path n f) z.quot)) z.rem)
    (divided-added c (placed path n us e) u cs (omega (arith, h.0.small)) h.0.proper h.0.small)
    ∙ ap (λ z. added (scaled c z) u) (simplified-placed path n us f e cs h.1 fits)

-- a function under tensors has room at a place under them, where it has room at the inner place
pub room-placed : (path : Path) (n : ℕ) (us : List Sum) (f : Mapping) (e : Sum) (cs : ℕ → ℕ) → AreCopies path us cs →
    Fits n e cs → Fits n (simplified cs f e) cs → size_under path n ≤ 1048576 → HasRoomFor cs f e →
    HasRoomFor cs (wrapped path n f) (placed path n us e)
room-placed [] n us f e cs h fits made high room = room
room-placed (t ∷ path) n [] f e cs h fits made high room = absurd h
room-placed (Blocks c ∷ path) n (u ∷ us) f e cs h fits made high room =
    let size = size_under path n in
    let fit = h.0 in
    let inner = placed-fits path n us e cs h.1 fits in
    let after = placed-fits path n us (simplified cs f e) cs h.1 made in
    let within : size ≤ c * size = le-times c size (omega (arith, fit.small)) in
    let whole : size * top u cs ≤ c * size = scaled-top size (top u cs) c fit.small in
    room-paired Same (wrapped path n f) size size u (placed path n us e) u (placed path n us (simplified cs f e)) cs
    (copies-positive path n us cs h.1 (fits-positive n e cs fits)) (omega arith) inner.proper inner.small tt
    (room-placed path n us f e cs h.1 fits made (omega arith) room) refl (simplified-placed path n us f e cs h.1 fits)
    fit.proper (omega (arith, after.small))
room-placed (Columns c ∷ path) n (u ∷ us) f e cs h fits made high room =
    let size = size_under path n in
    let fit = h.0 in
    let to = placed path n us (simplified cs f e) in
    let after = placed-fits path n us (simplified cs f e) cs h.1 made in
    let some : 0 < c = omega (arith, fit.small) in
    let within : size ≤ size * c = le-mul_of_pos_right {m = c} size some in
    let count : c ≤ size * c = le-times size c (copies-positive path n us cs h.1 (fits-positive n e cs fits)) in
    let whole : c * top to cs ≤ size * c = scaled-top c (top to cs) size after.small in
    room-paired (wrapped path n f) Same c c (placed path n us e) u to u cs some (omega arith) fit.proper fit.small
    (room-placed path n us f e cs h.1 fits made (omega arith) room) tt (simplified-placed path n us f e cs h.1 fits) refl
    after.proper (omega (arith, fit.small))

-- ---- at natural places

pub simplified-wrapped : (path : Path) (n d : ℕ) (f : Mapping) (e : Sum) (cs : ℕ → ℕ) → AreCounts path n d cs →
    Fits n e cs →
    simplified cs (wrapped path n f) (place_sum path n d e) ≡ place_sum path n d (simplified cs f e)
simplified-wrapped path n d f e cs h fits =
    ap (simplified cs (wrapped path n f)) (place_sum-placed path n d e)
    ∙ simplified-placed path n (variables_of path d) f e cs (counts-copies path n d cs h) fits
    ∙ sym (place_sum-placed path n d (simplified cs f e))

pub room-wrapped : (path : Path) (n d : ℕ) (f : Mapping) (e : Sum) (cs : ℕ → ℕ) → AreCounts path n d cs → Fits n e cs →
    Fits n (simplified cs f e) cs → size_under path n ≤ 1048576 → HasRoomFor cs f e →
    HasRoomFor cs (wrapped path n f) (place_sum path n d e)
room-wrapped path n d f e cs h fits made high room =
    subst (HasRoomFor cs (wrapped path n f)) (sym (place_sum-placed path n d e)) (room-placed path n (variables_of path d) f e cs (counts-copies path n d cs h) fits made high room)
