-- Loops over the copies under tensors: their sums have the places of the tensors, and they store each place once; copies of the items change nothing.
use Rattle.std.proofs.Common.{◌≡◌, ℕ, zero, suc, ◌+◌, ◌*◌, ◌-◌, ◌/◌, ◌%◌, ◌<◌, arith, refl, sym, ap, ap₂, ◌∙◌, List, []}
use Rattle.std.proofs.Common.{◌∷◌, ◌++◌, length, inl, inr, subst, mod-eq_of_lt, div-lt_iff_lt-mul}
use Rattle.std.specs.Prelude.{slice_index, slice_index_or, map, ◌==◌, if◌then◌else◌}
use Rattle.std.specs.List.{range_with_len}
use Rattle.std.proofs.lemmas.List.FromFn.{get_or-map-range_with_len, length-map-range_with_len, fill_by_all}
use Rattle.std.proofs.Math.Nat.{div-add-mod'}
use Rattle.std.proofs.lemmas.Nat.{mod-mul-add}
use Rattle.std.proofs.lemmas.Bool.{cases_eq}
use Rattle.std.proofs.lemmas.Bool.Decides.{nat_tests}
use Rattle.operators.specs.Sum.{list_below}
use Rattle.operators.proofs.Lists.{at-list_below, list_below-same, factor_positive}
use Rattle.perm_algebra.specs.Affine.{Sum, constant, variable, remainder, value, IsSound, scaled}
use Rattle.perm_algebra.proofs.AffineLaws.{value-scaled, value-added}
use Rattle.perm_algebra.proofs.Kept.{sound-scaled, sound-added}
use Rattle.sigma_spl.specs.Copies.{loops_of, pass_on}
use Rattle.sigma_spl.specs.Good.{AreSound, NamesItems, HasLanes, AreWhole, AreBlocks, CanNest, IsGoodPass}
use Rattle.spl_ast.specs.Meaning.{IsVector}
use Rattle.spl_ast.proofs.Vectors.{residue_at}
use Rattle.sigma_spl.specs.Merge.{place_sum, items_in, items_out, new_nest, one_loop, copying}
use Rattle.sigma_spl.specs.Nest.{sum_value, load_place, store_place, nests_on}
use Rattle.sigma_spl.specs.Term.{natural}
use Rattle.sigma_spl.specs.Work.{PlainWork, kernel, rows, horner, tile, copy, work_size, work_on}
use Rattle.sigma_spl.proofs.CopiesMerge.{loop-same}
use Rattle.sigma_spl.proofs.Nests.{stored-alike, length-map, at-map}
use Rattle.operators.specs.declared.paths.Tensor.TheVariants.{Blocks, Columns}
use Rattle.operators.specs.Paths.Loop.{loop_at, IsOneToOne}
use Rattle.operators.specs.Paths.Tensors.{Path, count_of, size_under, place, AreInRange}
use Rattle.operators.proofs.PathLemmas.PathLoops.{loop_at-place, place-one_to_one, reach, Reached}
use Rattle.operators.proofs.PathLemmas.PathPlaces.{place-below}

-- ---- ranges

pub ranged : (path : Path) (vs : List ℕ) → AreInRange (loops_of (map count_of path)) vs → AreInRange path vs
ranged [] [] h = tt
ranged [] (v ∷ vs) h = absurd h
ranged (t ∷ path) [] h = absurd h
ranged (t ∷ path) (v ∷ vs) h = (h.0, ranged path vs h.1)

pub looped : (path : Path) (vs : List ℕ) → AreInRange path vs → AreInRange (loops_of (map count_of path)) vs
looped [] [] h = tt
looped [] (v ∷ vs) h = absurd h
looped (t ∷ path) [] h = absurd h
looped (t ∷ path) (v ∷ vs) h = (h.0, looped path vs h.1)

-- ---- the values of place sums

-- the values of the path's loops, where the loop d has the value vs d
abbrev pub loop_values : Path → ℕ → (ℕ → ℕ) → List ℕ
loop_values [] d vs = []
loop_values (t ∷ path) d vs = vs d ∷ loop_values path (d + 1) vs

pub values-are : (path : Path) (d : ℕ) (f : ℕ → ℕ) (vs more : List ℕ) → AreInRange path vs →
    ((i : ℕ) → f (d + i) ≡ slice_index (vs ++ more) i) → loop_values path d f ≡ vs
values-are [] d f [] more h is = refl
values-are [] d f (v ∷ vs) more h is = absurd h
values-are (t ∷ path) d f [] more h is = absurd h
values-are (t ∷ path) d f (v ∷ vs) more h is = ap₂ (λ x xs. x ∷ xs) (ap f (omega arith) ∙ is 0) (values-are path (d + 1) f vs more h.1 (λ i. ap f (omega arith) ∙ is (suc i)))

pub sound-place_sum : (path : Path) (n d : ℕ) (e : Sum) → IsSound e → IsSound (place_sum path n d e)
sound-place_sum [] n d e h = h
sound-place_sum (Blocks c ∷ path) n d e h = sound-added (scaled (size_under path n) (variable 1 d (constant 0))) (place_sum path n (d + 1) e) tt (sound-place_sum path n (d + 1) e h)
sound-place_sum (Columns c ∷ path) n d e h = sound-added (scaled c (place_sum path n (d + 1) e)) (variable 1 d (constant 0)) (sound-scaled c (place_sum path n (d + 1) e) (sound-place_sum path n (d + 1) e h)) tt

pub value-place_sum : (path : Path) (n d : ℕ) (e : Sum) (vs : ℕ → ℕ) →
    value (place_sum path n d e) vs ≡ place path n (loop_values path d vs) (value e vs)
value-place_sum [] n d e vs = refl
value-place_sum (Blocks c ∷ path) n d e vs =
    let size = size_under path n in
    value-added (scaled size (variable 1 d (constant 0))) (place_sum path n (d + 1) e) vs
    ∙ ap₂ (λ x y. x + y) (value-scaled size (variable 1 d (constant 0)) vs) (value-place_sum path n (d + 1) e vs)
    ∙ ap (λ x. x + place path n (loop_values path (d + 1) vs) (value e vs)) (omega arith)
value-place_sum (Columns c ∷ path) n d e vs =
    value-added (scaled c (place_sum path n (d + 1) e)) (variable 1 d (constant 0)) vs
    ∙ ap (λ x. x + (1 * vs d + 0)) (value-scaled c (place_sum path n (d + 1) e) vs ∙ ap (λ y. c * y) (value-place_sum path n (d + 1) e vs))
    ∙ omega arith

-- the place of an item, where other values come after those of the loops
pub place-with : (path : Path) (n : ℕ) (e : Sum) (vs more : List ℕ) (k : ℕ) → AreInRange path vs →
    value e (slice_index (vs ++ more)) ≡ k → value (place_sum path n 0 e) (slice_index (vs ++ more)) ≡ place path n vs k
place-with path n e vs more k range is =
    value-place_sum path n 0 e (slice_index (vs ++ more))
    ∙ ap₂ (λ ws j. place path n ws j) (values-are path 0 (slice_index (vs ++ more)) vs more range (λ i. ap (slice_index (vs ++ more)) (omega arith))) is

nil-end : (vs : List ℕ) (i : ℕ) → slice_index vs i ≡ slice_index (vs ++ []) i
nil-end [] i = refl
nil-end (v ∷ vs) zero = refl
nil-end (v ∷ vs) (suc i) = nil-end vs i

pub place-alone : (path : Path) (n c : ℕ) (vs : List ℕ) → AreInRange path vs →
    value (place_sum path n 0 (constant c)) (slice_index vs) ≡ place path n vs c
place-alone path n c vs range =
    value-place_sum path n 0 (constant c) (slice_index vs)
    ∙ ap (λ ws. place path n ws c) (values-are path 0 (slice_index vs) vs [] range (λ i. ap (slice_index vs) (omega arith) ∙ nil-end vs i))

at-first : (path : Path) (vs : List ℕ) (k : ℕ) (more : List ℕ) → AreInRange path vs →
    slice_index (vs ++ k ∷ more) (length path) ≡ k
at-first [] [] k more h = refl
at-first [] (v ∷ vs) k more h = absurd h
at-first (t ∷ path) [] k more h = absurd h
at-first (t ∷ path) (v ∷ vs) k more h = at-first path vs k more h.1

pub at-second : (path : Path) (vs : List ℕ) (k l : ℕ) → AreInRange path vs →
    slice_index (vs ++ k ∷ l ∷ []) (suc (length path)) ≡ l
at-second [] [] k l h = refl
at-second [] (v ∷ vs) k l h = absurd h
at-second (t ∷ path) [] k l h = absurd h
at-second (t ∷ path) (v ∷ vs) k l h = at-second path vs k l h.1

-- ---- items

item-constant : (d k : ℕ) → k < d → slice_index_or (map constant (range_with_len 0 d)) k (constant 0) ≡ constant k
item-constant d k below = get_or-map-range_with_len constant 0 d k k (constant 0) below (omega arith)

length-constants : (d : ℕ) → length (map constant (range_with_len 0 d)) ≡ d
length-constants d = length-map-range_with_len constant 0 d

pub sound-constants : (ks : List ℕ) → AreSound (map constant ks)
sound-constants [] = tt
sound-constants (k ∷ ks) = (tt, sound-constants ks)

pub sound-places : (path : Path) (n : ℕ) (sums : List Sum) → AreSound sums → AreSound (map (place_sum path n 0) sums)
sound-places path n [] h = tt
sound-places path n (e ∷ es) h = (sound-place_sum path n 0 e h.0, sound-places path n es h.1)

straight-place : (path : Path) (d k : ℕ) (vs : List ℕ) → AreInRange path vs → k < d →
    sum_value (map (place_sum path d 0) (map constant (range_with_len 0 d))) k vs ≡ place path d vs k
straight-place path d k vs range below =
    ap (λ e. value e (slice_index vs)) (at-map (place_sum path d 0) (map constant (range_with_len 0 d)) k (omega (arith, length-constants d)) ∙ ap (place_sum path d 0) (item-constant d k below))
    ∙ place-alone path d k vs range

-- ---- tiles in blocks

tile-item : (v i : ℕ) → i < v → slice_index_or (map (λ k. constant (k * v)) (range_with_len 0 v)) i (constant 0)
    ≡ constant (i * v)
tile-item v i below = get_or-map-range_with_len (λ k. constant (k * v)) 0 v i i (constant 0) below (omega arith)

length-tile : (v : ℕ) → length (map (λ k. constant (k * v)) (range_with_len 0 v)) ≡ v
length-tile v = length-map-range_with_len (λ k. constant (k * v)) 0 v

sound-tile : (v : ℕ) (ks : List ℕ) → AreSound (map (λ k. constant (k * v)) ks)
sound-tile v [] = tt
sound-tile v (k ∷ ks) = (tt, sound-tile v ks)

-- the items of a copy stand side by side
place-together : (path : Path) (n : ℕ) (vs : List ℕ) (a b : ℕ) → AreBlocks path →
    place path n vs (a + b) ≡ place path n vs a + b
place-together [] n vs a b h = refl
place-together (Blocks c ∷ path) n [] a b h = refl
place-together (Blocks c ∷ path) n (u ∷ vs) a b h = let inner = place-together path n vs a b h in omega (arith, inner)
place-together (Columns c ∷ path) n vs a b h = absurd h

record IsMultiple (v k : ℕ) : Type 0 where
  times : ℕ
  is : k ≡ times * v

size-multiple : (path : Path) (v : ℕ) → AreBlocks path → IsMultiple v (size_under path (v * v))
size-multiple [] v h = record { times = v; is = refl }
size-multiple (Blocks c ∷ path) v h =
    let inner = size-multiple path v h in
    record { times = c * inner.times; is = ap (λ z. c * z) inner.is ∙ (omega arith) }
size-multiple (Columns c ∷ path) v h = absurd h

place-multiple : (path : Path) (v : ℕ) (vs : List ℕ) (i : ℕ) → AreBlocks path →
    IsMultiple v (place path (v * v) vs (i * v))
place-multiple [] v vs i h = record { times = i; is = refl }
place-multiple (Blocks c ∷ path) v [] i h = record { times = i; is = refl }
place-multiple (Blocks c ∷ path) v (u ∷ vs) i h =
    let size = size-multiple path v h in
    let inner = place-multiple path v vs i h in
    record { times = u * size.times + inner.times; is = ap₂ (λ a b. u * a + b) size.is inner.is ∙ omega arith }
place-multiple (Columns c ∷ path) v vs i h = absurd h

multiple-rest : (v k : ℕ) → 0 < v → IsMultiple v k → k % v ≡ 0
multiple-rest v k some h = ap (λ z. z % v) (h.is ∙ (let e : h.times * v ≡ h.times * v + 0 = omega arith in e)) ∙ mod-mul-add h.times v 0 some

tile-sum : (path : Path) (v i : ℕ) (vs : List ℕ) → AreInRange path vs → i < v →
    sum_value (map (place_sum path (v * v) 0) (map (λ k. constant (k * v)) (range_with_len 0 v))) i vs
    ≡ place path (v * v) vs (i * v)
tile-sum path v i vs range below =
    ap (λ e. value e (slice_index vs))
    (at-map (place_sum path (v * v) 0) (map (λ k. constant (k * v)) (range_with_len 0 v)) i (omega (arith, length-tile v, below)) ∙ ap (place_sum path (v * v) 0) (tile-item v i below))
    ∙ place-alone path (v * v) (i * v) vs range

tile-natural : (path : Path) (v k : ℕ) (vs : List ℕ) → AreBlocks path → AreInRange path vs → k < v * v →
    sum_value (map (place_sum path (v * v) 0) (map (λ k. constant (k * v)) (range_with_len 0 v))) (k / v) vs + k % v
    ≡ place path (v * v) vs k
tile-natural path v k vs blocks range below =
    ap (λ a. a + k % v) (tile-sum path v (k / v) vs range ((div-lt_iff_lt-mul (factor_positive v v k below)).1 below))
    ∙ sym (place-together path (v * v) vs (k / v * v) (k % v) blocks)
    ∙ ap (place path (v * v) vs) (div-add-mod' k v)

tile-whole : (path : Path) (v : ℕ) → AreBlocks path → AreWhole (map count_of path) (tile v)
    (map (place_sum path (v * v) 0) (map (λ k. constant (k * v)) (range_with_len 0 v)))
tile-whole path v blocks = λ vs i range below.
    ap (λ a. a % v) (tile-sum path v i vs (ranged path vs range) below) ∙ multiple-rest v (place path (v * v) vs (i * v)) (omega (arith, below)) (place-multiple path v vs i blocks)

-- the turn of Horner's rule at which an item is taken
horner-turn : (d k : ℕ) → k < d → ((d - 1) * (d - 1 - k) + (d - 1)) % d ≡ k
horner-turn d k below =
    let e = d - 1 - k in
    let size : d ≡ e + k + 1 = omega arith in
    let less : d - 1 ≡ e + k = omega arith in
    let left : (e + k) * e + (e + k) ≡ e * (e + k + 1) + k = omega arith in
    let whole : (d - 1) * e + (d - 1) ≡ e * d + k = ap₂ (λ a b. a * e + b) less less ∙ left ∙ ap (λ z. e * z + k) (sym size) in
    ap (λ z. z % d) whole ∙ mod-mul-add e d k below

pub load-natural : (lanes : ℕ) (path : Path) (w : PlainWork) (vs : List ℕ) (k : ℕ) → CanNest lanes path w →
    AreInRange path vs → k < work_size w → load_place w (map (place_sum path (work_size w) 0)
    (items_in w (length path))) vs k ≡ place path (work_size w) vs k
load-natural lanes path (kernel trees) vs k can range below = straight-place path _ k vs range below
load-natural lanes path (rows root d) vs k can range below =
    place-with path d (variable 1 (length path + 1) (constant 0)) vs (0 ∷ k ∷ []) k range
    (ap (λ i. 1 * slice_index (vs ++ 0 ∷ k ∷ []) i + 0) (omega arith) ∙ ap (λ v. 1 * v + 0) (at-second path vs 0 k range) ∙ omega arith)
load-natural lanes path (horner root d) vs k can range below =
    place-with path d (remainder 1 (variable (d - 1) (length path + 1) (constant (d - 1))) d (constant 0)) vs (0 ∷ (d - 1 - k) ∷ []) k range
    (ap (λ i. 1 * (((d - 1) * slice_index (vs ++ 0 ∷ (d - 1 - k) ∷ []) i + (d - 1)) % d) + 0) (omega arith)
    ∙ ap (λ v. 1 * (((d - 1) * v + (d - 1)) % d) + 0) (at-second path vs 0 (d - 1 - k) range)
    ∙ ap (λ v. 1 * v + 0) (horner-turn d k below)
    ∙ omega arith)
load-natural lanes path (tile v) vs k can range below = tile-natural path v k vs can.1 range below
load-natural lanes path (copy d) vs k can range below = straight-place path d k vs range below

pub store-natural : (lanes : ℕ) (path : Path) (w : PlainWork) (vs : List ℕ) (k : ℕ) → CanNest lanes path w →
    AreInRange path vs → k < work_size w → store_place w (map (place_sum path (work_size w) 0)
    (items_out w (length path))) vs k ≡ place path (work_size w) vs k
store-natural lanes path (kernel trees) vs k can range below = straight-place path _ k vs range below
store-natural lanes path (rows root d) vs k can range below =
    place-with path d (variable 1 (length path) (constant 0)) vs (k ∷ []) k range (ap (λ v. 1 * v + 0) (at-first path vs k [] range) ∙ omega arith)
store-natural lanes path (horner root d) vs k can range below =
    place-with path d (variable 1 (length path) (constant 0)) vs (k ∷ []) k range (ap (λ v. 1 * v + 0) (at-first path vs k [] range) ∙ omega arith)
store-natural lanes path (tile v) vs k can range below = tile-natural path v k vs can.1 range below
store-natural lanes path (copy d) vs k can range below = straight-place path d k vs range below

names-tile : (path : Path) (v : ℕ) → NamesItems (tile v) (map (place_sum path (v * v) 0)
    (map (λ k. constant (k * v)) (range_with_len 0 v)))
names-tile path v =
    record { enough = omega (arith, length-map (place_sum path (v * v) 0) (map (λ k. constant (k * v)) (range_with_len 0 v)), length-tile v); sound = sound-places path (v * v) _ (sound-tile v (range_with_len 0 v)) }

pub names-in : (lanes : ℕ) (path : Path) (w : PlainWork) → CanNest lanes path w → 0 < work_size w →
    NamesItems w (map (place_sum path (work_size w) 0) (items_in w (length path)))
names-in lanes path (kernel trees) can some =
    record { enough = omega (arith, length-map (place_sum path (work_size (kernel trees)) 0) (map constant (range_with_len 0 (work_size (kernel trees)))), length-constants (work_size (kernel trees))); sound = sound-places path _ _ (sound-constants _) }
names-in lanes path (rows root d) can some = record { enough = omega arith; sound = (sound-place_sum path d 0 _ tt, tt) }
names-in lanes path (horner root d) can some = record { enough = omega arith; sound = (sound-place_sum path d 0 _ (some, tt, tt), tt) }
names-in lanes path (tile v) can some = names-tile path v
names-in lanes path (copy d) can some = record { enough = omega (arith, length-map (place_sum path d 0) (map constant (range_with_len 0 d)), length-constants d); sound = sound-places path d _ (sound-constants _) }

pub names-out : (lanes : ℕ) (path : Path) (w : PlainWork) → CanNest lanes path w →
    NamesItems w (map (place_sum path (work_size w) 0) (items_out w (length path)))
names-out lanes path (kernel trees) can =
    record { enough = omega (arith, length-map (place_sum path (work_size (kernel trees)) 0) (map constant (range_with_len 0 (work_size (kernel trees)))), length-constants (work_size (kernel trees))); sound = sound-places path _ _ (sound-constants _) }
names-out lanes path (rows root d) can = record { enough = omega arith; sound = (sound-place_sum path d 0 _ tt, tt) }
names-out lanes path (horner root d) can = record { enough = omega arith; sound = (sound-place_sum path d 0 _ tt, tt) }
names-out lanes path (tile v) can = names-tile path v
names-out lanes path (copy d) can = record { enough = omega (arith, length-map (place_sum path d 0) (map constant (range_with_len 0 d)), length-constants d); sound = sound-places path d _ (sound-constants _) }

-- ---- passes of copies under tensors

one-natural : (path : Path) (d : ℕ) → IsOneToOne (loops_of (map count_of path)) d (place path d)
one-natural path d =
    let h = place-one_to_one path d in
    record {
      values = λ vs ws k j a b below within e. h.values vs ws k j (ranged path vs a) (ranged path ws b) below within e;
      places = λ vs k j a below within e. h.places vs k j (ranged path vs a) below within e;
    }

-- what loops put at a place, that goes once to each place
pub at-natural : (path : Path) (d w : ℕ) (worth : List ℕ → ℕ → ℕ) (P : ℕ → Type 0) → w < size_under path d →
    ((vs : List ℕ) (k : ℕ) → AreInRange path vs → k < d → place path d vs k ≡ w → P (worth vs k)) →
    P (loop_at (loops_of (map count_of path)) d (place path d) worth w)
at-natural path d w worth P below h =
    let r : Reached path d w = reach path d w below in
    subst P
    (sym (loop_at-place (loops_of (map count_of path)) d (place path d) worth (one-natural path d) r.values r.inner (looped path r.values r.in_range) r.below) ∙ ap (loop_at (loops_of (map count_of path)) d (place path d) worth) r.there)
    (h r.values r.inner r.in_range r.below r.there)

pub once-natural : (path : Path) (d w : ℕ) → w < size_under path d →
    loop_at (loops_of (map count_of path)) d (place path d) (λ vs k. 1) w ≡ 1
once-natural path d w below = at-natural path d w (λ vs k. 1) (λ v. v ≡ 1) below (λ vs k range within there. refl)

pub nest-natural : (lanes : ℕ) → (m n : ℕ) (path : Path) (w : PlainWork) (x : List ℕ) → CanNest lanes path w →
    nests_on m n (new_nest path w (items_in w (length path)) ∷ []) x ≡ pass_on m n (natural m path w ∷ []) x
nest-natural lanes m n path w x can =
    list_below-same n _ _ (λ p below. ap (λ s. (s + 0) % m)
    (stored-alike (map count_of path) (work_size w) _ _ (λ vs. work_on m w) (λ vs. work_on m w) _ _ x p
    (λ vs k range within. load-natural lanes path w vs k can (ranged path vs range) within)
    (λ vs y k range within. refl)
    (λ vs k range within. store-natural lanes path w vs k can (ranged path vs range) within)))

pub tiled : (lanes : ℕ) (path : Path) (w : PlainWork) → CanNest lanes path w → HasLanes lanes w
tiled lanes path (kernel trees) can = tt
tiled lanes path (rows root d) can = tt
tiled lanes path (horner root d) can = tt
tiled lanes path (tile v) can = can.0
tiled lanes path (copy d) can = tt

pub whole-in : (lanes : ℕ) (path : Path) (w : PlainWork) → CanNest lanes path w →
    AreWhole (map count_of path) w (map (place_sum path (work_size w) 0) (items_in w (length path)))
whole-in lanes path (kernel trees) can = tt
whole-in lanes path (rows root d) can = tt
whole-in lanes path (horner root d) can = tt
whole-in lanes path (tile v) can = tile-whole path v can.1
whole-in lanes path (copy d) can = tt

pub whole-out : (lanes : ℕ) (path : Path) (w : PlainWork) → CanNest lanes path w →
    AreWhole (map count_of path) w (map (place_sum path (work_size w) 0) (items_out w (length path)))
whole-out lanes path (kernel trees) can = tt
whole-out lanes path (rows root d) can = tt
whole-out lanes path (horner root d) can = tt
whole-out lanes path (tile v) can = tile-whole path v can.1
whole-out lanes path (copy d) can = tt

pub natural-good : (lanes : ℕ) → (m n : ℕ) (path : Path) (w : PlainWork) → CanNest lanes path w → 0 < work_size w →
    size_under path (work_size w) ≡ n → IsGoodPass lanes m n (new_nest path w (items_in w (length path)) ∷ [])
natural-good lanes m n path w can some e =
    let below = λ (vs : List ℕ) (k : ℕ) (range : AreInRange (loops_of (map count_of path)) vs) (within : k < work_size w). subst (λ z. place path (work_size w) vs k < z) e (place-below path (work_size w) vs k (ranged path vs range) within) in
    record {
      nests = (
        record {
          tiles = tiled lanes path w can;
          whole_loads = whole-in lanes path w can;
          whole_stores = whole-out lanes path w can;
          gathers = names-in lanes path w can some;
          scatters = names-out lanes path w can;
          inside = record {
            loads = λ vs k range within. subst (λ p. p < n) (sym (load-natural lanes path w vs k can (ranged path vs range) within)) (below vs k range within);
            stores = λ vs k range within. subst (λ p. p < n) (sym (store-natural lanes path w vs k can (ranged path vs range) within)) (below vs k range within);
          };
        },
        tt,
      );
      once = λ p inside.
          ap (λ s. s + 0)
          (loop-same (loops_of (map count_of path)) (work_size w) _ (place path (work_size w)) (λ _ _. 1) (λ _ _. 1) p p (λ vs k range within.
          ap (λ q. if q == p then 1 else 0) (store-natural lanes path w vs k can (ranged path vs range) within)) ∙ once-natural path (work_size w) p (subst (λ z. p < z) (sym e) inside));
    }

-- ---- copies

vector-fill : (m n : ℕ) (x : List ℕ) (f : ℕ → ℕ) → IsVector m n x → ((i : ℕ) → i < n → f i ≡ slice_index x i) →
    list_below n f ≡ x
vector-fill m n x f v h = list_below-same n f (slice_index x) h ∙ sym (fill_by_all (slice_index x) x n 0 v.size (λ k below. refl))

pub copies-same : (m n : ℕ) (path : Path) (d : ℕ) (x : List ℕ) → size_under path d ≡ n → IsVector m n x →
    pass_on m n (natural m path (copy d) ∷ []) x ≡ x
copies-same m n path d x e v =
    vector-fill m n x _ v (λ w below.
    at-natural path d w _ (λ s. (s + 0) % m ≡ slice_index x w) (subst (λ z. w < z) (sym e) below) (λ vs k range within there.
    ap (λ s. (s + 0) % m) (at-list_below d _ k within ∙ at-list_below d _ k within ∙ ap (slice_index x) there)
    ∙ ap (λ s. s % m) (omega arith)
    ∙ mod-eq_of_lt (residue_at m n x w v below)))

pub size-one_loop : (n : ℕ) → size_under (one_loop n) 1 ≡ n
size-one_loop n =
    elim (cases_eq n 1) [
      | inl one ↦ grind (arith, nat_tests)
      | inr several ↦ let loop : one_loop n ≡ Blocks n ∷ [] = grind (arith, nat_tests) in ap (λ p. size_under p 1) loop ∙ omega arith
    ]

pub copying-same : (m n : ℕ) (x : List ℕ) → IsVector m n x → nests_on m n (copying n) x ≡ x
copying-same m n x v = nest-natural 0 m n (one_loop n) (copy 1) x tt ∙ copies-same m n (one_loop n) 1 x (size-one_loop n) v

pub copying-good : (lanes : ℕ) → (m n : ℕ) → IsGoodPass lanes m n (copying n)
copying-good lanes m n = natural-good lanes m n (one_loop n) (copy 1) tt (omega arith) (size-one_loop n)
