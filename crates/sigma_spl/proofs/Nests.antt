-- What a pass takes, by its sums: permutations into its loads and stores, and diagonals.
use Rattle.std.proofs.Common.{◌≡◌, ℕ, zero, suc, ◌+◌, ◌*◌, ◌-◌, ◌/◌, ◌%◌, ◌<◌, ◌≤◌, arith, refl, sym, ap, ap₂, ◌∙◌}
use Rattle.std.proofs.Common.{List, [], ◌∷◌, ◌++◌, length, subst, Option, Some, None, mod-lt, div-lt_iff_lt-mul}
use Rattle.std.specs.Prelude.{slice_index, slice_index_or, map, ◌==◌, if◌then◌else◌}
use Rattle.index_fn.specs.Mapping.{Mapping, at}
use Rattle.operators.specs.Loop.{IsPermutationBelow}
use Rattle.operators.specs.Operator.{Operator, gather, scale}
use Rattle.operators.specs.Sum.{list_below}
use Rattle.operators.proofs.Lists.{at-list_below, list_below-same, factor_positive}
use Rattle.perm_algebra.specs.Affine.{Sum, constant, value, IsSound, simplified}
use Rattle.perm_algebra.proofs.Kept.{sound-simplified as sound-one}
use Rattle.perm_algebra.proofs.Values.{simplified_keeps}
use Rattle.sigma_spl.specs.Copies.{loops_of, Copies, stored, all_stored, hits, AreInside, loaded_by, stored_by}
use Rattle.sigma_spl.specs.Copies.{multiplied_by}
use Rattle.sigma_spl.specs.Good.{AreSound, NamesItems, MovesVectors, HasLanes, AreWhole, AreGoodNests, IsGoodPass}
use Rattle.sigma_spl.specs.Good.{IsFormed}
pub use Rattle.sigma_spl.specs.Loops.{through, AreFormed, Suits, AllSuit}
use Rattle.sigma_spl.specs.Merge.{limits_of, gathered, scattered, all_simplified, multiplied}
use Rattle.sigma_spl.specs.Nest.{PlainFactors, factor_at, PlainMultiplier, PlainNest, sum_value, load_place}
use Rattle.sigma_spl.specs.Nest.{store_place, multiplied_on, copies_of, nests_on}
use Rattle.sigma_spl.specs.Work.{PlainWork, kernel, rows, horner, tile, copy, work_size}
use Rattle.sigma_spl.proofs.CopiesMerge.{loop-same, loads_gather, stores_scatter, loops_scale, keeps_once}
use Rattle.operators.specs.Paths.Loop.{loop_at}
use Rattle.operators.specs.Paths.Tensors.{AreInRange}

-- ---- loops that are alike

pub stored-alike : (counts : List ℕ) (size : ℕ) (from source : List ℕ → ℕ → ℕ) (does makes : List ℕ → Operator)
    (to target : List ℕ → ℕ → ℕ) (x : List ℕ) (w : ℕ) →
    ((vs : List ℕ) (k : ℕ) → AreInRange (loops_of counts) vs → k < size → from vs k ≡ source vs k) →
    ((vs y : List ℕ) (k : ℕ) → AreInRange (loops_of counts) vs → k < size →
    slice_index (does vs y) k ≡ slice_index (makes vs y) k) →
    ((vs : List ℕ) (k : ℕ) → AreInRange (loops_of counts) vs → k < size → to vs k ≡ target vs k) →
    stored (record { counts = counts; size = size; from = from; does = does; to = to }) x w ≡ stored (record { counts = counts; size = size; from = source; does = makes; to = target }) x w
stored-alike counts size from source does makes to target x w froms doess tos =
    loop-same (loops_of counts) size to target _ _ w w (λ vs k range below.
    ap (λ y. if to vs k == w then slice_index (does vs y) k else 0) (list_below-same size _ _ (λ j within. ap (slice_index x) (froms vs j range within)))
    ∙ ap (λ v. if to vs k == w then v else 0) (doess vs (list_below size (λ j. slice_index x (source vs j))) k range below)
    ∙ ap (λ p. if p == w then slice_index (makes vs (list_below size (λ j. slice_index x (source vs j)))) k else 0) (tos vs k range below))

-- ---- the values of a nest's variables

none_below : (n i : ℕ) → slice_index [] i ≤ slice_index (n ∷ n ∷ []) i - 1
none_below n i = omega arith

pub one_below : (n k : ℕ) → k < n → (i : ℕ) → slice_index (k ∷ []) i ≤ slice_index (n ∷ n ∷ []) i - 1
one_below n k h zero = omega arith
one_below n k h (suc i) = omega arith

pub two_below : (n k l : ℕ) → k < n → l < n → (i : ℕ) → slice_index (k ∷ l ∷ []) i ≤ slice_index (n ∷ n ∷ []) i - 1
two_below n k l h g zero = omega arith
two_below n k l h g (suc zero) = omega arith
two_below n k l h g (suc (suc i)) = omega arith

pub with_more : (counts : List ℕ) (n : ℕ) (vs more : List ℕ) → AreInRange (loops_of counts) vs →
    ((i : ℕ) → slice_index more i ≤ slice_index (n ∷ n ∷ []) i - 1) →
    (i : ℕ) → slice_index (vs ++ more) i ≤ slice_index (counts ++ n ∷ n ∷ []) i - 1
with_more [] n [] more h rest i = rest i
with_more [] n (v ∷ vs) more h rest i = absurd h
with_more (c ∷ counts) n [] more h rest i = absurd h
with_more (c ∷ counts) n (v ∷ vs) more h rest zero = omega (arith, h.0)
with_more (c ∷ counts) n (v ∷ vs) more h rest (suc i) = with_more counts n vs more h.1 rest i

pub alone : (counts : List ℕ) (n : ℕ) (vs : List ℕ) → AreInRange (loops_of counts) vs → (i : ℕ) →
    slice_index vs i ≤ slice_index (counts ++ n ∷ n ∷ []) i - 1
alone [] n [] h i = none_below n i
alone [] n (v ∷ vs) h i = absurd h
alone (c ∷ counts) n [] h i = absurd h
alone (c ∷ counts) n (v ∷ vs) h zero = omega (arith, h.0)
alone (c ∷ counts) n (v ∷ vs) h (suc i) = alone counts n vs h.1 i

-- ---- sums and functions

pub at-map : (g : Sum → Sum) (sums : List Sum) (i : ℕ) → i < length sums →
    slice_index_or (map g sums) i (constant 0) ≡ g (slice_index_or sums i (constant 0))
at-map g [] i h = absurd (omega arith)
at-map g (e ∷ es) zero h = refl
at-map g (e ∷ es) (suc i) h = at-map g es i (omega arith)

pub sound-at : (sums : List Sum) (i : ℕ) → AreSound sums → IsSound (slice_index_or sums i (constant 0))
sound-at [] i h = tt
sound-at (e ∷ es) zero h = h.0
sound-at (e ∷ es) (suc i) h = sound-at es i h.1

pub sound-simplified : (cs : ℕ → ℕ) (f : Mapping) (sums : List Sum) → IsFormed f → AreSound sums →
    AreSound (map (simplified cs f) sums)
sound-simplified cs f [] form h = tt
sound-simplified cs f (e ∷ es) form h = (sound-one cs f e form.formed form.no_list h.0, sound-simplified cs f es form h.1)

pub length-map : (g : Sum → Sum) (sums : List Sum) → length (map g sums) ≡ length sums
length-map g [] = refl
length-map g (e ∷ es) = ap suc (length-map g es)

pub names-simplified : (w : PlainWork) (cs : ℕ → ℕ) (f : Mapping) (sums : List Sum) → IsFormed f → NamesItems w sums →
    NamesItems w (map (simplified cs f) sums)
names-simplified w cs f sums form h = record { enough = omega (arith, h.enough, length-map (simplified cs f) sums); sound = sound-simplified cs f sums form h.sound }

-- a sum with a function has the function's value
pub sum-simplified : (cs : ℕ → ℕ) (f : Mapping) (sums : List Sum) (i : ℕ) (vs : List ℕ) → IsFormed f → AreSound sums →
    i < length sums → ((d : ℕ) → slice_index vs d ≤ cs d - 1) →
    sum_value (map (simplified cs f) sums) i vs ≡ at f (sum_value sums i vs)
sum-simplified cs f sums i vs form sound within range =
    ap (λ e. value e (slice_index vs)) (at-map (simplified cs f) sums i within)
    ∙ simplified_keeps cs (slice_index vs) f (slice_index_or sums i (constant 0)) form.formed form.no_list
    (sound-at sums i sound) range

-- ---- vectors

pub moves-no-words : (f : ℕ → ℕ) → MovesVectors 0 f
moves-no-words f = record { together = λ i j whole below. absurd (omega arith); begins = λ i whole some. absurd (omega arith) }

pub moves-lanes : (lanes v : ℕ) (f : ℕ → ℕ) → (0 < v → v ≡ lanes) → MovesVectors lanes f → MovesVectors v f
moves-lanes lanes zero f h moves = moves-no-words f
moves-lanes lanes (suc v) f h moves = subst (λ w. MovesVectors w f) (sym (h (omega arith))) moves

pub suiting : (lanes : ℕ) (w : PlainWork) (f : ℕ → ℕ) → HasLanes lanes w → MovesVectors lanes f → Suits w f
suiting lanes (kernel trees) f h moves = tt
suiting lanes (rows root d) f h moves = tt
suiting lanes (horner root d) f h moves = tt
suiting lanes (tile v) f h moves = moves-lanes lanes v f h moves
suiting lanes (copy d) f h moves = tt

pub whole-simplified : (counts : List ℕ) (w : PlainWork) (f : Mapping) (sums : List Sum) → Suits w (at f) → IsFormed f →
    NamesItems w sums → AreWhole counts w sums →
    AreWhole counts w (map (simplified (slice_index (counts ++ work_size w ∷ work_size w ∷ [])) f) sums)
whole-simplified counts (kernel trees) f sums suits form names whole = tt
whole-simplified counts (rows root d) f sums suits form names whole = tt
whole-simplified counts (horner root d) f sums suits form names whole = tt
whole-simplified counts (tile v) f sums suits form names whole = λ vs i range below.
    ap (λ a. a % v) (sum-simplified _ f sums i vs form names.sound (omega (arith, names.enough, below)) (alone counts _ vs range))
    ∙ suits.begins (sum_value sums i vs) (whole vs i range below) (omega (arith, below))
whole-simplified counts (copy d) f sums suits form names whole = tt

-- ---- places

-- what the variables of a work run below
abbrev limits-under : List ℕ → PlainWork → ℕ → ℕ
limits-under counts w = slice_index (counts ++ work_size w ∷ work_size w ∷ [])

-- the places of a work follow a function that is put into its sums
abbrev pub Follow : (PlainWork → List Sum → List ℕ → ℕ → ℕ) → Type 0
Follow place =
    (counts : List ℕ) (w : PlainWork) (f : Mapping) (sums : List Sum) (vs : List ℕ) (k : ℕ) →
    Suits w (at f) → IsFormed f → NamesItems w sums → AreWhole counts w sums → AreInRange (loops_of counts) vs →
    k < work_size w → place w (map (simplified (limits-under counts w) f) sums) vs k ≡ at f (place w sums vs k)

pub load-simplified : Follow load_place
load-simplified counts (kernel trees) f sums vs k suits form names whole range below = sum-simplified _ f sums k vs form names.sound (omega (arith, names.enough, below)) (alone counts _ vs range)
load-simplified counts (rows root d) f sums vs k suits form names whole range below =
    sum-simplified _ f sums 0 (vs ++ 0 ∷ k ∷ []) form names.sound (omega (arith, names.enough)) (with_more counts d vs (0 ∷ k ∷ []) range (two_below d 0 k (omega arith) below))
load-simplified counts (horner root d) f sums vs k suits form names whole range below =
    sum-simplified _ f sums 0 (vs ++ 0 ∷ (d - 1 - k) ∷ []) form names.sound (omega (arith, names.enough)) (with_more counts d vs (0 ∷ (d - 1 - k) ∷ []) range (two_below d 0 (d - 1 - k) (omega arith) (omega arith)))
load-simplified counts (tile v) f sums vs k suits form names whole range below =
    let some = factor_positive v v k below in
    let row : k / v < v = (div-lt_iff_lt-mul some).1 below in
    ap (λ a. a + k % v) (sum-simplified _ f sums (k / v) vs form names.sound (omega (arith, names.enough, row)) (alone counts _ vs range))
    ∙ sym (suits.together (sum_value sums (k / v) vs) (k % v) (whole vs (k / v) range row) (mod-lt k some))
load-simplified counts (copy d) f sums vs k suits form names whole range below = sum-simplified _ f sums k vs form names.sound (omega (arith, names.enough, below)) (alone counts _ vs range)

pub store-simplified : Follow store_place
store-simplified counts (kernel trees) f sums vs k suits form names whole range below = sum-simplified _ f sums k vs form names.sound (omega (arith, names.enough, below)) (alone counts _ vs range)
store-simplified counts (rows root d) f sums vs k suits form names whole range below =
    sum-simplified _ f sums 0 (vs ++ k ∷ []) form names.sound (omega (arith, names.enough)) (with_more counts d vs (k ∷ []) range (one_below d k below))
store-simplified counts (horner root d) f sums vs k suits form names whole range below =
    sum-simplified _ f sums 0 (vs ++ k ∷ []) form names.sound (omega (arith, names.enough)) (with_more counts d vs (k ∷ []) range (one_below d k below))
store-simplified counts (tile v) f sums vs k suits form names whole range below = load-simplified counts (tile v) f sums vs k suits form names whole range below
store-simplified counts (copy d) f sums vs k suits form names whole range below = sum-simplified _ f sums k vs form names.sound (omega (arith, names.enough, below)) (alone counts _ vs range)

pub map-map : (g h : Sum → Sum) (sums : List Sum) → map g (map h sums) ≡ map (λ e. g (h e)) sums
map-map g h [] = refl
map-map g h (e ∷ es) = ap (λ z. g (h e) ∷ z) (map-map g h es)

map-id : (sums : List Sum) → map (λ e. e) sums ≡ sums
map-id [] = refl
map-id (e ∷ es) = ap (λ z. e ∷ z) (map-id es)

-- and functions one after the other
abbrev pub GoThrough : (PlainWork → List Sum → List ℕ → ℕ → ℕ) → Type 0
GoThrough place =
    (counts : List ℕ) (w : PlainWork) (fs : List Mapping) (sums : List Sum) (vs : List ℕ) (k : ℕ) →
    AllSuit w fs → AreFormed fs → NamesItems w sums → AreWhole counts w sums → AreInRange (loops_of counts) vs →
    k < work_size w →
    place w (map (all_simplified (limits-under counts w) fs) sums) vs k ≡ through fs (place w sums vs k)

through-places : (place : PlainWork → List Sum → List ℕ → ℕ → ℕ) → Follow place → GoThrough place
through-places place follow counts w [] sums vs k suit forms names whole range below =
    ap (λ es. place w es vs k) (map-id sums)
through-places place follow counts w (f ∷ fs) sums vs k suit forms names whole range below =
    let cs = limits-under counts w in
    ap (λ es. place w es vs k) (sym (map-map (all_simplified cs fs) (simplified cs f) sums))
    ∙ through-places place follow counts w fs (map (simplified cs f) sums) vs k suit.1 forms.1
    (names-simplified w cs f sums forms.0 names) (whole-simplified counts w f sums suit.0 forms.0 names whole) range below
    ∙ ap (through fs) (follow counts w f sums vs k suit.0 forms.0 names whole range below)

pub load-through : GoThrough load_place
load-through = through-places load_place load-simplified

pub store-through : GoThrough store_place
store-through = through-places store_place store-simplified

-- ---- passes

abbrev pub copies_all : ℕ → List PlainNest → List Copies
copies_all m zs = map (copies_of m) zs

pub all-inside : (lanes : ℕ) → (m n : ℕ) (zs : List PlainNest) → AreGoodNests lanes m n zs →
    AreInside n (copies_all m zs)
all-inside lanes m n [] h = tt
all-inside lanes m n (z ∷ zs) h = (h.0.inside, all-inside lanes m n zs h.1)

does-alike : (m : ℕ) (z : PlainNest) (gathers scatters : List Sum) (o : Option PlainMultiplier) (vs y : List ℕ) →
    multiplied_on m (record { counts = z.counts; work = z.work; gathers = gathers; multiplier = o; scatters = scatters }) o vs y ≡ multiplied_on m z o vs y
does-alike m z gathers scatters None vs y = refl
does-alike m z gathers scatters (Some d) vs y = refl

stored-loads : (lanes : ℕ) → (m n : ℕ) (f : Mapping) (zs : List PlainNest) (x : List ℕ) (w : ℕ) → IsFormed f →
    MovesVectors lanes (at f) → AreGoodNests lanes m n zs → all_stored (map (loaded_by (at f)) (copies_all m zs)) x w
    ≡ all_stored (copies_all m (gathered f zs)) x w
stored-loads lanes m n f [] x w form moves h = refl
stored-loads lanes m n f (z ∷ zs) x w form moves h =
    ap₂ (λ a b. a + b)
    (stored-alike z.counts (work_size z.work) _ _ _ _ _ _ x w
    (λ vs k range below. sym (load-simplified z.counts z.work f z.gathers vs k (suiting lanes z.work (at f) h.0.tiles moves) form h.0.gathers h.0.whole_loads range below))
    (λ vs y k range below. sym (ap (λ l. slice_index l k) (does-alike m z (map (simplified (limits_of z) f) z.gathers) z.scatters z.multiplier vs y)))
    (λ vs k range below. refl))
    (stored-loads lanes m n f zs x w form moves h.1)

pub nests-gathered : (lanes : ℕ) → (m n : ℕ) (f : Mapping) (zs : List PlainNest) (x : List ℕ) → IsFormed f →
    MovesVectors lanes (at f) → AreGoodNests lanes m n zs → nests_on m n (gathered f zs) x
    ≡ nests_on m n zs (gather n (at f) x)
nests-gathered lanes m n f zs x form moves h =
    sym (loads_gather m n (copies_all m zs) (at f) x (all-inside lanes m n zs h) ∙ list_below-same n _ _ (λ w below. ap (λ s. s % m) (stored-loads lanes m n f zs x w form moves h)))

stored-stores : (lanes : ℕ) → (m n : ℕ) (f : Mapping) (zs : List PlainNest) (x : List ℕ) (w : ℕ) → IsFormed f →
    MovesVectors lanes (at f) → AreGoodNests lanes m n zs → all_stored (map (stored_by (at f)) (copies_all m zs)) x w
    ≡ all_stored (copies_all m (scattered f zs)) x w
stored-stores lanes m n f [] x w form moves h = refl
stored-stores lanes m n f (z ∷ zs) x w form moves h =
    ap₂ (λ a b. a + b)
    (stored-alike z.counts (work_size z.work) _ _ _ _ _ _ x w
    (λ vs k range below. refl)
    (λ vs y k range below. sym (ap (λ l. slice_index l k) (does-alike m z z.gathers (map (simplified (limits_of z) f) z.scatters) z.multiplier vs y)))
    (λ vs k range below. sym (store-simplified z.counts z.work f z.scatters vs k (suiting lanes z.work (at f) h.0.tiles moves) form h.0.scatters h.0.whole_stores range below)))
    (stored-stores lanes m n f zs x w form moves h.1)

hits-stores : (lanes : ℕ) → (m n : ℕ) (f : Mapping) (zs : List PlainNest) (w : ℕ) → IsFormed f →
    MovesVectors lanes (at f) → AreGoodNests lanes m n zs → hits (map (stored_by (at f)) (copies_all m zs)) w
    ≡ hits (copies_all m (scattered f zs)) w
hits-stores lanes m n f [] w form moves h = refl
hits-stores lanes m n f (z ∷ zs) w form moves h =
    ap₂ (λ a b. a + b)
    (loop-same (loops_of z.counts) (work_size z.work) _ _ (λ _ _. 1) (λ _ _. 1) w w (λ vs k range below.
    ap (λ p. if p == w then 1 else 0) (sym (store-simplified z.counts z.work f z.scatters vs k (suiting lanes z.work (at f) h.0.tiles moves) form h.0.scatters h.0.whole_stores range below))))
    (hits-stores lanes m n f zs w form moves h.1)

pub nests-scattered : (lanes : ℕ) → (m n : ℕ) (f : Mapping) (there : ℕ → ℕ) (zs : List PlainNest) (x : List ℕ) →
    IsFormed f → MovesVectors lanes (at f) → IsPermutationBelow n there (at f) → AreGoodNests lanes m n zs →
    nests_on m n (scattered f zs) x ≡ gather n there (nests_on m n zs x)
nests-scattered lanes m n f there zs x form moves p h =
    sym (stores_scatter m n (copies_all m zs) there (at f) x p (all-inside lanes m n zs h) ∙ list_below-same n _ _ (λ w below. ap (λ s. s % m) (stored-stores lanes m n f zs x w form moves h)))

-- no nest has a diagonal
abbrev pub AreFree : List PlainNest → Type 0
AreFree [] = Unit {0}
AreFree (z ∷ zs) = (z.multiplier ≡ None) × AreFree zs

-- a diagonal at what these functions make of places
abbrev pub AreSuited : List Mapping → List PlainNest → Type 0
AreSuited fs [] = Unit {0}
AreSuited fs (z ∷ zs) = AllSuit z.work fs × AreSuited fs zs

stored-multiplied : (lanes : ℕ) → (m n : ℕ) (factors : PlainFactors) (fs : List Mapping) (zs : List PlainNest)
    (x : List ℕ) (w : ℕ) → AreFormed fs → AreSuited fs zs → AreGoodNests lanes m n zs → AreFree zs →
    all_stored (map (multiplied_by m (λ p. factor_at m factors (through fs p))) (copies_all m zs)) x w
    ≡ all_stored (copies_all m (multiplied factors fs zs)) x w
stored-multiplied lanes m n factors fs [] x w forms suit h free = refl
stored-multiplied lanes m n factors fs (z ∷ zs) x w forms suit h free =
    ap₂ (λ a b. a + b)
    (stored-alike z.counts (work_size z.work) _ _ _ _ _ _ x w
    (λ vs k range below. refl)
    (λ vs y k range below.
    at-list_below (work_size z.work) _ k below
    ∙ ap₂ (λ p (o : Option PlainMultiplier). (factor_at m factors p * slice_index (multiplied_on m z o vs y) k) % m)
    (sym (store-through z.counts z.work fs z.scatters vs k suit.0 forms h.0.scatters h.0.whole_stores range below)) free.0
    ∙ sym (at-list_below (work_size z.work) _ k below))
    (λ vs k range below. refl))
    (stored-multiplied lanes m n factors fs zs x w forms suit.1 h.1 free.1)

pub nests-multiplied : (lanes : ℕ) → (m n : ℕ) (factors : PlainFactors) (fs : List Mapping) (zs : List PlainNest)
    (x : List ℕ) → 0 < m → AreFormed fs → AreSuited fs zs → AreGoodNests lanes m n zs → AreFree zs →
    nests_on m n (multiplied factors fs zs) x ≡ scale m n (λ p. factor_at m factors (through fs p)) (nests_on m n zs x)
nests-multiplied lanes m n factors fs zs x positive forms suit h free =
    sym (loops_scale m n (copies_all m zs) (λ p. factor_at m factors (through fs p)) x positive ∙ list_below-same n _ _ (λ w below. ap (λ s. s % m) (stored-multiplied lanes m n factors fs zs x w forms suit h free)))

-- ---- good passes stay good

gathered-nests : (lanes : ℕ) → (m n : ℕ) (f : Mapping) (zs : List PlainNest) → IsFormed f → MovesVectors lanes (at f) →
    ((i : ℕ) → i < n → at f i < n) → AreGoodNests lanes m n zs → AreGoodNests lanes m n (gathered f zs)
gathered-nests lanes m n f [] form moves stay h = tt
gathered-nests lanes m n f (z ∷ zs) form moves stay h = (
  record {
    tiles = h.0.tiles;
    whole_loads = whole-simplified z.counts z.work f z.gathers (suiting lanes z.work (at f) h.0.tiles moves) form h.0.gathers h.0.whole_loads;
    whole_stores = h.0.whole_stores;
    gathers = names-simplified z.work (limits_of z) f z.gathers form h.0.gathers;
    scatters = h.0.scatters;
    inside = record {
      loads = λ vs k range below. subst (λ p. p < n) (sym (load-simplified z.counts z.work f z.gathers vs k (suiting lanes z.work (at f) h.0.tiles moves) form h.0.gathers h.0.whole_loads range below)) (stay (load_place z.work z.gathers vs k) (h.0.inside.loads vs k range below));
      stores = h.0.inside.stores;
    };
  },
  gathered-nests lanes m n f zs form moves stay h.1,
)

hits-gathered : (m : ℕ) (f : Mapping) (zs : List PlainNest) (w : ℕ) →
    hits (copies_all m (gathered f zs)) w ≡ hits (copies_all m zs) w
hits-gathered m f [] w = refl
hits-gathered m f (z ∷ zs) w = ap (λ b. loop_at (loops_of z.counts) (work_size z.work) (store_place z.work z.scatters) (λ vs k. 1) w + b) (hits-gathered m f zs w)

pub gathered-good : (lanes : ℕ) → (m n : ℕ) (f : Mapping) (zs : List PlainNest) → IsFormed f →
    MovesVectors lanes (at f) → ((i : ℕ) → i < n → at f i < n) → IsGoodPass lanes m n zs →
    IsGoodPass lanes m n (gathered f zs)
gathered-good lanes m n f zs form moves stay h = record { nests = gathered-nests lanes m n f zs form moves stay h.nests; once = λ w below. hits-gathered m f zs w ∙ h.once w below }

scattered-nests : (lanes : ℕ) → (m n : ℕ) (f : Mapping) (zs : List PlainNest) → IsFormed f → MovesVectors lanes (at f) →
    ((i : ℕ) → i < n → at f i < n) → AreGoodNests lanes m n zs → AreGoodNests lanes m n (scattered f zs)
scattered-nests lanes m n f [] form moves stay h = tt
scattered-nests lanes m n f (z ∷ zs) form moves stay h = (
  record {
    tiles = h.0.tiles;
    whole_loads = h.0.whole_loads;
    whole_stores = whole-simplified z.counts z.work f z.scatters (suiting lanes z.work (at f) h.0.tiles moves) form h.0.scatters h.0.whole_stores;
    gathers = h.0.gathers;
    scatters = names-simplified z.work (limits_of z) f z.scatters form h.0.scatters;
    inside = record {
      loads = h.0.inside.loads;
      stores = λ vs k range below. subst (λ p. p < n) (sym (store-simplified z.counts z.work f z.scatters vs k (suiting lanes z.work (at f) h.0.tiles moves) form h.0.scatters h.0.whole_stores range below)) (stay (store_place z.work z.scatters vs k) (h.0.inside.stores vs k range below));
    };
  },
  scattered-nests lanes m n f zs form moves stay h.1,
)

pub scattered-good : (lanes : ℕ) → (m n : ℕ) (f : Mapping) (there : ℕ → ℕ) (zs : List PlainNest) → IsFormed f →
    MovesVectors lanes (at f) → IsPermutationBelow n there (at f) → IsGoodPass lanes m n zs →
    IsGoodPass lanes m n (scattered f zs)
scattered-good lanes m n f there zs form moves p h =
    record {
      nests = scattered-nests lanes m n f zs form moves p.back_below h.nests;
      once = λ w below. sym (hits-stores lanes m n f zs w form moves h.nests) ∙ keeps_once.scattered n (copies_all m zs) there (at f) p (all-inside lanes m n zs h.nests) h.once w below;
    }

multiplied-nests : (lanes : ℕ) → (m n : ℕ) (factors : PlainFactors) (fs : List Mapping) (zs : List PlainNest) →
    AreGoodNests lanes m n zs → AreGoodNests lanes m n (multiplied factors fs zs)
multiplied-nests lanes m n factors fs [] h = tt
multiplied-nests lanes m n factors fs (z ∷ zs) h = (
  record { tiles = h.0.tiles; whole_loads = h.0.whole_loads; whole_stores = h.0.whole_stores; gathers = h.0.gathers; scatters = h.0.scatters; inside = record { loads = h.0.inside.loads; stores = h.0.inside.stores } },
  multiplied-nests lanes m n factors fs zs h.1,
)

pub hits-multiplied : (m : ℕ) (factors : PlainFactors) (fs : List Mapping) (zs : List PlainNest) (w : ℕ) →
    hits (copies_all m (multiplied factors fs zs)) w ≡ hits (copies_all m zs) w
hits-multiplied m factors fs [] w = refl
hits-multiplied m factors fs (z ∷ zs) w = ap (λ b. loop_at (loops_of z.counts) (work_size z.work) (store_place z.work z.scatters) (λ vs k. 1) w + b) (hits-multiplied m factors fs zs w)

pub multiplied-good : (lanes : ℕ) → (m n : ℕ) (factors : PlainFactors) (fs : List Mapping) (zs : List PlainNest) →
    IsGoodPass lanes m n zs → IsGoodPass lanes m n (multiplied factors fs zs)
multiplied-good lanes m n factors fs zs h = record { nests = multiplied-nests lanes m n factors fs zs h.nests; once = λ w below. hits-multiplied m factors fs zs w ∙ h.once w below }
