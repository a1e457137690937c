-- The permutations of lines and of vectors, at natural places: each puts the sums that name a copy into another order.
use Rattle.sigma_lower.proofs.Words.{◌≡◌, ℕ, ◌*◌, ◌/◌, ◌%◌, ◌<◌, ◌≤◌, Bool, true, false, arith, refl, sym, ap, ap₂, ◌∙◌}
use Rattle.sigma_lower.proofs.Words.{List, [], ◌∷◌, ◌++◌, if◌then◌else◌, subst, mul_comm, mod-lt, div-lt_iff_lt-mul}
use Rattle.sigma_lower.proofs.Words.{◌==◌, div-add-mod', Mapping, Strided, factor_positive, Sum, constant, scaled}
use Rattle.sigma_lower.proofs.Words.{added, simplified, HasRoomFor, positive-product, Fits, all_simplified, wrapped}
use Rattle.sigma_lower.proofs.Words.{is-one, within_all, Blocks, Columns, Path, size_under, AreBlocks, turned-added}
use Rattle.sigma_lower.proofs.TreeLoops.InCopies.{placed, AreCopies, placed-fits}
use Rattle.sigma_lower.proofs.TreeLoops.Moved.{added-assoc, scaled-added, scaled-scaled, placed-swap}
use Rattle.sigma_lower.proofs.TreeLoops.PlaceSums.{parts-fit}
use Rattle.sigma_lower.proofs.TreeLoops.RuleRoom.{strided-room}
use Rattle.sigma_lower.proofs.TreeLoops.Staying.{StaysIn, stays-join, all_simplified-join}
use Rattle.sigma_lower.proofs.TreeLoops.WithinPlaces.{one-copy, simplified-within, room-within}

-- ---- functions that lead from one sum to another, within n

pub record LeadsTo (cs : ℕ → ℕ) (n : ℕ) (fs : List Mapping) (from to : Sum) : Type 0 where
  pub is : all_simplified cs fs from ≡ to
  pub stays : StaysIn cs n fs from

pub leads-none : (cs : ℕ → ℕ) (n : ℕ) (from to : Sum) → Fits n from cs → from ≡ to → LeadsTo cs n [] from to
leads-none cs n from to fits is = record { is = is; stays = fits }

-- one function, at another form of the sum
pub leads-step : (cs : ℕ → ℕ) (n : ℕ) (f : Mapping) (fs : List Mapping) (from mid next to : Sum) → from ≡ mid →
    Fits n mid cs → HasRoomFor cs f mid → simplified cs f mid ≡ next → LeadsTo cs n fs next to →
    LeadsTo cs n (f ∷ fs) from to
leads-step cs n f fs from mid next to same fits room made more =
    record {
      is = ap (λ e. all_simplified cs fs (simplified cs f e)) same ∙ ap (all_simplified cs fs) made ∙ more.is;
      stays = subst (StaysIn cs n (f ∷ fs)) (sym same) (fits, room, subst (StaysIn cs n fs) (sym made) more.stays);
    }

pub leads-join : (cs : ℕ → ℕ) (n : ℕ) (fs gs : List Mapping) (from mid to : Sum) → LeadsTo cs n fs from mid →
    LeadsTo cs n gs mid to → LeadsTo cs n (fs ++ gs) from to
leads-join cs n fs gs from mid to h k =
    record {
      is = all_simplified-join cs fs gs from ∙ ap (all_simplified cs gs) h.is ∙ k.is;
      stays = stays-join cs n fs gs from h.stays (subst (StaysIn cs n gs) (sym h.is) k.stays);
    }

pub leads-pick : (cs : ℕ → ℕ) (n : ℕ) (b : Bool) (fs : List Mapping) (from to : Sum) →
    (b ≡ true → LeadsTo cs n [] from to) → LeadsTo cs n fs from to → LeadsTo cs n (if b then [] else fs) from to
leads-pick cs n true fs from to h k = h refl
leads-pick cs n false fs from to h k = k

pub leads-same : (cs : ℕ → ℕ) (n : ℕ) (fs : List Mapping) (from mid to : Sum) → from ≡ mid → LeadsTo cs n fs mid to →
    LeadsTo cs n fs from to
leads-same cs n fs from mid to same h = subst (λ e. LeadsTo cs n fs e to) (sym same) h

-- ---- a stride permutation under tensors

some-of : (n : ℕ) (e : Sum) (cs : ℕ → ℕ) → Fits n e cs → 0 < n
some-of n e cs f = omega (arith, f.small)

-- at a block of copies it makes a column of them
pub flipped : (ts : Path) (r s : ℕ) (us : List Sum) (u e : Sum) (cs : ℕ → ℕ) → AreCopies ts us cs → Fits r u cs →
    Fits s e cs →
    simplified cs (wrapped (within_all ts []) (r * s) (Strided r s)) (placed ts (r * s) us (added (scaled s u) e))
    ≡ placed ts (r * s) us (added (scaled r e) u)
flipped ts r s us u e cs h f g =
    simplified-within ts (r * s) us (Strided r s) (added (scaled s u) e) cs h (parts-fit r s u e cs (some-of s e cs g) f g)
    ∙ ap (placed ts (r * s) us) (turned-added r s u e cs (some-of s e cs g) g.proper g.small)

pub flipped-room : (ts : Path) (r s : ℕ) (us : List Sum) (u e : Sum) (cs : ℕ → ℕ) → AreCopies ts us cs → Fits r u cs →
    Fits s e cs → size_under ts (r * s) ≤ 1048576 → r * s ≤ 1048576 →
    HasRoomFor cs (wrapped (within_all ts []) (r * s) (Strided r s)) (placed ts (r * s) us (added (scaled s u) e))
flipped-room ts r s us u e cs h f g high small =
    let turned = turned-added r s u e cs (some-of s e cs g) g.proper g.small in
    let made : Fits (r * s) (added (scaled r e) u) cs = subst (λ n. Fits n (added (scaled r e) u) cs) (mul_comm s r) (parts-fit s r e u cs (some-of r u cs f) g f) in
    room-within ts (r * s) us (Strided r s) (added (scaled s u) e) cs h (parts-fit r s u e cs (some-of s e cs g) f g) (subst (λ z. Fits (r * s) z cs) (sym turned) made) high (strided-room r s u e cs small f g)

-- ---- lines between processors

-- the sums that name one of p * v * k copies
pub record AreThree (cs : ℕ → ℕ) (p v k : ℕ) (q l j : Sum) : Type 0 where
  pub processor : Fits p q cs
  pub lane : Fits v l cs
  pub other : Fits k j cs

dealt-swapped : (p v k m : ℕ) (q l j e : Sum) → placed (Blocks p ∷ Columns v ∷ Columns k ∷ []) m (q ∷ l ∷ j ∷ []) e
    ≡ placed (Columns v ∷ Columns k ∷ Blocks p ∷ []) m (l ∷ j ∷ q ∷ []) e
dealt-swapped p v k m q l j e = placed-swap p v (Columns k ∷ []) m q l (j ∷ []) e ∙ ap (λ g. added (scaled v g) l) (placed-swap p k [] m q j [] e)

-- on one processor nothing is dealt
dealt-one : (p v k m : ℕ) (q l j e : Sum) (cs : ℕ → ℕ) → p ≡ 1 → Fits p q cs →
    placed (Columns v ∷ Columns k ∷ Blocks p ∷ []) m (l ∷ j ∷ q ∷ []) e
    ≡ placed (Columns v ∷ Columns k ∷ Columns p ∷ []) m (l ∷ j ∷ q ∷ []) e
dealt-one p v k m q l j e cs one f =
    ap (λ g. added (scaled v (added (scaled k g) j)) l) (one-copy (Blocks p) [] m q [] e cs one f ∙ sym (one-copy (Columns p) [] m q [] e cs one f))

pub dealt-leads : (p v k m n size : ℕ) (q l j e : Sum) (cs : ℕ → ℕ) → AreThree cs p v k q l j → Fits m e cs →
    size ≡ p * m → size_under (Blocks p ∷ Columns v ∷ Columns k ∷ []) m ≡ n → n ≤ 1048576 → p * m ≤ 1048576 →
    LeadsTo cs n (if p == 1 then [] else wrapped (within_all (Columns v ∷ Columns k ∷ []) []) size (Strided p m) ∷ [])
    (placed (Blocks p ∷ Columns v ∷ Columns k ∷ []) m (q ∷ l ∷ j ∷ []) e)
    (placed (Columns v ∷ Columns k ∷ Columns p ∷ []) m (l ∷ j ∷ q ∷ []) e)
dealt-leads p v k m n size q l j e cs three fits sized whole high small =
    let from = placed (Blocks p ∷ Columns v ∷ Columns k ∷ []) m (q ∷ l ∷ j ∷ []) e in
    let mid = placed (Columns v ∷ Columns k ∷ Blocks p ∷ []) m (l ∷ j ∷ q ∷ []) e in
    let to = placed (Columns v ∷ Columns k ∷ Columns p ∷ []) m (l ∷ j ∷ q ∷ []) e in
    let swapped : from ≡ mid = dealt-swapped p v k m q l j e in
    let at_from : Fits n from cs = subst (λ i. Fits i from cs) whole (placed-fits (Blocks p ∷ Columns v ∷ Columns k ∷ []) m (q ∷ l ∷ j ∷ []) e cs (three.processor, (three.lane, (three.other, tt))) fits) in
    let at_mid : Fits n mid cs = subst (λ z. Fits n z cs) swapped at_from in
    let around : size_under (Columns v ∷ Columns k ∷ Columns p ∷ []) m ≡ n = omega (arith, whole) in
    let at_to : Fits n to cs = subst (λ i. Fits i to cs) around (placed-fits (Columns v ∷ Columns k ∷ Columns p ∷ []) m (l ∷ j ∷ q ∷ []) e cs (three.lane, (three.other, (three.processor, tt))) fits) in
    let lines : AreCopies (Columns v ∷ Columns k ∷ []) (l ∷ j ∷ []) cs = (three.lane, (three.other, tt)) in
    let inside : size_under (Columns v ∷ Columns k ∷ []) (p * m) ≤ 1048576 = omega (arith, whole, high) in
    leads-pick cs n (p == 1) (wrapped (within_all (Columns v ∷ Columns k ∷ []) []) size (Strided p m) ∷ []) from to (λ one. leads-none cs n from to at_from (swapped ∙ dealt-one p v k m q l j e cs (is-one p one) three.processor))
    (subst (λ i. LeadsTo cs n (wrapped (within_all (Columns v ∷ Columns k ∷ []) []) i (Strided p m) ∷ []) from to) (sym sized)
    (leads-step cs n (wrapped (within_all (Columns v ∷ Columns k ∷ []) []) (p * m) (Strided p m)) [] from mid to to swapped at_mid
    (flipped-room (Columns v ∷ Columns k ∷ []) p m (l ∷ j ∷ []) q e cs lines three.processor fits inside small)
    (flipped (Columns v ∷ Columns k ∷ []) p m (l ∷ j ∷ []) q e cs lines three.processor fits)
    (leads-none cs n to to at_to refl)))

-- ---- the root's permutation: of vectors in each processor's block, and of lines between processors

pub turned-leads : (p v k s n : ℕ) (q l j e : Sum) (cs : ℕ → ℕ) → AreThree cs p v k q l j → Fits s e cs →
    size_under (Blocks p ∷ Columns v ∷ Blocks k ∷ []) s ≡ n → n ≤ 1048576 → p * s ≤ 1048576 → k * s ≤ 1048576 →
    LeadsTo cs n (wrapped (within_all (Blocks p ∷ Columns v ∷ []) []) (k * s) (Strided k s)
    ∷ (if p == 1 then [] else wrapped (within_all (Columns v ∷ Columns k ∷ []) []) (p * s) (Strided p s) ∷ []))
    (placed (Blocks p ∷ Columns v ∷ Blocks k ∷ []) s (q ∷ l ∷ j ∷ []) e)
    (placed (Columns v ∷ Columns k ∷ Columns p ∷ []) s (l ∷ j ∷ q ∷ []) e)
turned-leads p v k s n q l j e cs three fits whole high lines rows =
    let from = placed (Blocks p ∷ Columns v ∷ Blocks k ∷ []) s (q ∷ l ∷ j ∷ []) e in
    let next = placed (Blocks p ∷ Columns v ∷ Columns k ∷ []) s (q ∷ l ∷ j ∷ []) e in
    let outer : AreCopies (Blocks p ∷ Columns v ∷ []) (q ∷ l ∷ []) cs = (three.processor, (three.lane, tt)) in
    let at_from : Fits n from cs = subst (λ i. Fits i from cs) whole (placed-fits (Blocks p ∷ Columns v ∷ Blocks k ∷ []) s (q ∷ l ∷ j ∷ []) e cs (three.processor, (three.lane, (three.other, tt))) fits) in
    let around : size_under (Blocks p ∷ Columns v ∷ Columns k ∷ []) s ≡ n = omega (arith, whole) in
    leads-step cs n (wrapped (within_all (Blocks p ∷ Columns v ∷ []) []) (k * s) (Strided k s)) _ from from next _ refl at_from
    (flipped-room (Blocks p ∷ Columns v ∷ []) k s (q ∷ l ∷ []) j e cs outer three.other fits (omega (arith, whole, high)) rows)
    (flipped (Blocks p ∷ Columns v ∷ []) k s (q ∷ l ∷ []) j e cs outer three.other fits ∙ ap (λ i. placed (Blocks p ∷ Columns v ∷ []) i (q ∷ l ∷ []) (added (scaled k e) j)) (mul_comm k s))
    (dealt-leads p v k s n (p * s) q l j e cs three fits refl around high lines)

-- ---- vectors of a group, tile by tile

blocks-size : (path : Path) (n c : ℕ) → AreBlocks path → size_under path (n * c) ≡ c * size_under path n
blocks-size [] n c h = mul_comm n c
blocks-size (Blocks b ∷ path) n c h = ap (λ k. b * k) (blocks-size path n c h) ∙ omega arith
blocks-size (Columns b ∷ path) n c h = absurd h

-- columns inside of blocks, as columns of them
columns-outside : (path : Path) (n c : ℕ) (us : List Sum) (e w : Sum) → AreBlocks path →
    placed path (n * c) us (added (scaled c e) w) ≡ added (scaled c (placed path n us e)) w
columns-outside (Blocks b ∷ path) n c (u ∷ us) e w h =
    let inner = placed path n us e in
    let size = size_under path n in
    ap₂ (λ k g. added (scaled k u) g) (blocks-size path n c h) (columns-outside path n c us e w h)
    ∙ ap (λ g. added g (added (scaled c inner) w)) (sym (scaled-scaled c size u))
    ∙ sym (added-assoc (scaled c (scaled size u)) (scaled c inner) w)
    ∙ ap (λ g. added g w) (sym (scaled-added c (scaled size u) inner))
columns-outside (Columns b ∷ path) n c us e w h = absurd h
columns-outside _ n c _ e w h = refl

-- an item of a tile is in a row and a column
pub tile-item : (v k : ℕ) → constant k ≡ added (scaled v (constant (k / v))) (constant (k % v))
tile-item v k = ap constant (omega (arith, div-add-mod' k v))

pub number-fits : (n k : ℕ) (cs : ℕ → ℕ) → k < n → Fits n (constant k) cs
number-fits n k cs below = record { proper = tt; small = below; tame = tt; few = positive-product n n (omega (arith, below)) (omega (arith, below)) }

pub grouped-leads : (p v r t n size : ℕ) (q g i : Sum) (k : ℕ) (cs : ℕ → ℕ) → Fits p q cs → Fits r g cs → Fits t i cs →
    k < v * v → size ≡ t * v → size_under (Blocks p ∷ Blocks r ∷ Blocks t ∷ []) (v * v) ≡ n → n ≤ 1048576 →
    t * v ≤ 1048576 →
    LeadsTo cs n (wrapped (within_all (Columns v ∷ Blocks p ∷ Blocks r ∷ []) []) size (Strided t v) ∷ [])
    (placed (Blocks p ∷ Blocks r ∷ Blocks t ∷ []) (v * v) (q ∷ g ∷ i ∷ []) (constant k))
    (placed (Columns v ∷ Blocks p ∷ Blocks r ∷ []) (t * v) (constant (k % v) ∷ q ∷ g ∷ [])
    (added (scaled t (constant (k / v))) i))
grouped-leads p v r t n size q g i k cs fq fg fi below sized whole high small =
    let three : Path = Blocks p ∷ Blocks r ∷ Blocks t ∷ [] in
    let outer : Path = Columns v ∷ Blocks p ∷ Blocks r ∷ [] in
    let row : Sum = constant (k / v) in
    let column : Sum = constant (k % v) in
    let from = placed three (v * v) (q ∷ g ∷ i ∷ []) (constant k) in
    let mid = placed outer (t * v) (column ∷ q ∷ g ∷ []) (added (scaled v i) row) in
    let to = placed outer (t * v) (column ∷ q ∷ g ∷ []) (added (scaled t row) i) in
    let some : 0 < v = factor_positive v v k below in
    let in_row : Fits v row cs = number-fits v (k / v) cs ((div-lt_iff_lt-mul some).1 below) in
    let in_column : Fits v column cs = number-fits v (k % v) cs (mod-lt k some) in
    let copies : AreCopies outer (column ∷ q ∷ g ∷ []) cs = (in_column, (fq, (fg, tt))) in
    let same : from ≡ mid = ap (placed three (v * v) (q ∷ g ∷ i ∷ [])) (tile-item v k) ∙ columns-outside three v v (q ∷ g ∷ i ∷ []) row column tt in
    let at_from : Fits n from cs = subst (λ m. Fits m from cs) whole (placed-fits three (v * v) (q ∷ g ∷ i ∷ []) (constant k) cs (fq, (fg, (fi, tt))) (number-fits (v * v) k cs below)) in
    let at_mid : Fits n mid cs = subst (λ z. Fits n z cs) same at_from in
    let inside : size_under outer (t * v) ≡ n = omega (arith, whole) in
    let made : Fits (t * v) (added (scaled t row) i) cs = subst (λ m. Fits m (added (scaled t row) i) cs) (mul_comm v t) (parts-fit v t row i cs (some-of t i cs fi) in_row fi) in
    let at_to : Fits n to cs = subst (λ m. Fits m to cs) inside (placed-fits outer (t * v) (column ∷ q ∷ g ∷ []) (added (scaled t row) i) cs copies made) in
    subst (λ m. LeadsTo cs n (wrapped (within_all outer []) m (Strided t v) ∷ []) from to) (sym sized)
    (leads-step cs n (wrapped (within_all outer []) (t * v) (Strided t v)) [] from mid to to same at_mid
    (flipped-room outer t v (column ∷ q ∷ g ∷ []) i row cs copies fi in_row (omega (arith, inside, high)) small)
    (flipped outer t v (column ∷ q ∷ g ∷ []) i row cs copies fi in_row)
    (leads-none cs n to to at_to refl))
