-- The item of its copy that stands at a natural place.
use Rattle.sigma_lower.proofs.Words.{◌≡◌, ℕ, ◌+◌, ◌*◌, ◌≤◌, arith, refl, ap, ◌∙◌, [], ◌∷◌, le-mul_of_pos_right, Sum}
use Rattle.sigma_lower.proofs.Words.{constant, variable, scaled, added, Divided, simplified, HasRoomFor}
use Rattle.sigma_lower.proofs.Words.{divided-added, added-end, scaled-one, inner_of, Fits, place_sum, AreCounts}
use Rattle.sigma_lower.proofs.Words.{Blocks, Columns, Path, size_under, le-times, Always, added-zero}
use Rattle.sigma_lower.proofs.TreeLoops.PlaceRoom.{room-paired}
use Rattle.sigma_lower.proofs.TreeLoops.PlaceSums.{place_sum-fits, size-positive, variable-fits}

-- an item's place in its copy, at a natural place
pub inner-place : (path : Path) (n d : ℕ) (e : Sum) (cs : ℕ → ℕ) → AreCounts path n d cs → Fits n e cs →
    simplified cs (inner_of path n) (place_sum path n d e) ≡ e
inner-place [] n d e cs h fits = refl
inner-place (Blocks c ∷ path) n d e cs h fits =
    let inside = place_sum-fits path n (d + 1) e cs h.2 fits in
    ap (λ (z : Divided). added (constant 0) (simplified cs (inner_of path n) z.rem))
    (divided-added (size_under path n) (variable 1 d (constant 0)) (place_sum path n (d + 1) e) cs (size-positive path n (d + 1) cs h.2) inside.proper inside.small)
    ∙ added-zero _
    ∙ inner-place path n (d + 1) e cs h.2 fits
inner-place (Columns c ∷ path) n d e cs h fits =
    let v = variable-fits c d cs h.0 h.1 in
    ap (λ (z : Divided). added (scaled 1 (simplified cs (inner_of path n) z.quot)) (constant 0))
    (divided-added c (place_sum path n (d + 1) e) (variable 1 d (constant 0)) cs (omega (arith, h.1)) v.proper v.small)
    ∙ added-end _
    ∙ scaled-one _
    ∙ inner-place path n (d + 1) e cs h.2 fits

-- and every number on the way to it fits 64 bits
pub room-inner : (path : Path) (n d : ℕ) (e : Sum) (cs : ℕ → ℕ) → AreCounts path n d cs → Fits n e cs → n ≤ 1048576 →
    size_under path n ≤ 1048576 → HasRoomFor cs (inner_of path n) (place_sum path n d e)
room-inner [] n d e cs h fits low high = tt
room-inner (Blocks c ∷ path) n d e cs h fits low high =
    let size = size_under path n in
    let inner = place_sum-fits path n (d + 1) e cs h.2 fits in
    let within : size ≤ c * size = le-times c size (omega (arith, h.1)) in
    room-paired (Always 0) (inner_of path n) size 0 (variable 1 d (constant 0)) (place_sum path n (d + 1) e) (constant 0) e
    cs (size-positive path n (d + 1) cs h.2) (omega arith) inner.proper inner.small tt
    (room-inner path n (d + 1) e cs h.2 fits low (omega arith)) refl (inner-place path n (d + 1) e cs h.2 fits) tt
    (omega (arith, fits.small))
room-inner (Columns c ∷ path) n d e cs h fits low high =
    let size = size_under path n in
    let fit = variable-fits c d cs h.0 h.1 in
    let within : size ≤ size * c = le-mul_of_pos_right {m = c} size (omega (arith, h.1)) in
    let count : c ≤ size * c = le-times size c (size-positive path n (d + 1) cs h.2) in
    room-paired (inner_of path n) (Always 0) c 1 (place_sum path n (d + 1) e) (variable 1 d (constant 0)) e (constant 0) cs
    (omega (arith, h.1)) (omega arith) fit.proper fit.small (room-inner path n (d + 1) e cs h.2 fits low (omega arith)) tt
    (inner-place path n (d + 1) e cs h.2 fits) refl fits.proper (omega (arith, fits.small))
