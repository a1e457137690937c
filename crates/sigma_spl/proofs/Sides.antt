-- Passes side by side under the tensors of a path.
use Rattle.std.proofs.Common.{◌≡◌, ℕ, zero, suc, ◌+◌, ◌*◌, ◌-◌, ◌/◌, ◌%◌, ◌<◌, ◌≤◌, arith, refl, sym, ap, ap₂, ◌∙◌}
use Rattle.std.proofs.Common.{List, [], ◌∷◌, ◌++◌, length, subst, Option, Some, None}
use Rattle.std.specs.Prelude.{slice_index, slice_index_or, map, ◌==◌, if◌then◌else◌}
use Rattle.operators.specs.Operator.{Operator}
use Rattle.operators.proofs.Lists.{factor_positive, at-list_below, list_below-same, place_below}
use Rattle.operators.proofs.PathLemmas.Under.{one_under-same}
use Rattle.perm_algebra.specs.Affine.{Sum, constant, variable, remainder, quotient, value, IsSound, added}
use Rattle.perm_algebra.proofs.AffineLaws.{value-added}
use Rattle.perm_algebra.proofs.Kept.{sound-added}
use Rattle.sigma_spl.specs.Copies.{loops_of, Copies, stored, all_stored, pass_on, hits, StoreOnce, IsInside, AreInside}
use Rattle.sigma_spl.specs.Copies.{behind, placed, first_of, others_of, under_one, both}
use Rattle.sigma_spl.specs.Good.{AreSound, NamesItems, HasLanes, AreWhole, AreGoodNests, IsGoodPass}
use Rattle.sigma_spl.specs.Merge.{place_sum, renumbered, renumbered_places, lifted, side}
use Rattle.sigma_spl.specs.Nest.{factor_at, PlainMultiplier, PlainNest, sum_value, load_place, store_place}
use Rattle.sigma_spl.specs.Nest.{multiplied_on, copies_of, nests_on}
use Rattle.sigma_spl.specs.Work.{PlainWork, kernel, rows, horner, tile, copy, work_size, work_on}
use Rattle.sigma_spl.proofs.CopiesMerge.{loop-same, stored-append, hits-append, stand_side_by_side, stand_under}
use Rattle.sigma_spl.proofs.CopiesMerge.{keeps_once}
use Rattle.sigma_spl.proofs.Natural.{loop_values, value-place_sum, sound-place_sum}
use Rattle.sigma_spl.proofs.Nests.{stored-alike, at-map, length-map, all-inside}
use Rattle.operators.specs.declared.paths.Tensor.{Tensor}
use Rattle.operators.specs.declared.paths.Tensor.TheVariants.{Blocks, Columns}
use Rattle.operators.specs.Paths.Loop.{loop_at}
use Rattle.operators.specs.Paths.Tensors.{Path, count_of, grown, size_under, under, place, AreInRange}

-- ---- values of the path's loops, and those after them

abbrev pub rest_of : Path → List ℕ → List ℕ
rest_of [] vs = vs
rest_of (t ∷ path) vs = rest_of path (others_of vs)

place-below-long : (path : Path) (n : ℕ) (counts vs : List ℕ) (j : ℕ) →
    AreInRange (loops_of (map count_of path ++ counts)) vs → j < n → place path n vs j < size_under path n
place-below-long [] n counts vs j h below = below
place-below-long (t ∷ path) n counts [] j h below = absurd h
place-below-long (Blocks c ∷ path) n counts (v ∷ vs) j h below = place_below v (place path n vs j) c (size_under path n) h.0 (place-below-long path n counts vs j h.1 below)
place-below-long (Columns c ∷ path) n counts (v ∷ vs) j h below = place_below (place path n vs j) v (size_under path n) c (place-below-long path n counts vs j h.1 below) h.0

pub rest-range : (path : Path) (counts vs : List ℕ) → AreInRange (loops_of (map count_of path ++ counts)) vs →
    AreInRange (loops_of counts) (rest_of path vs)
rest-range [] counts vs h = h
rest-range (t ∷ path) counts [] h = absurd h
rest-range (t ∷ path) counts (v ∷ vs) h = rest-range path counts vs h.1

rest-append : (path : Path) (counts vs more : List ℕ) → AreInRange (loops_of (map count_of path ++ counts)) vs →
    rest_of path (vs ++ more) ≡ rest_of path vs ++ more
rest-append [] counts vs more h = refl
rest-append (t ∷ path) counts [] more h = absurd h
rest-append (t ∷ path) counts (v ∷ vs) more h = rest-append path counts vs more h.1

-- the values of the path's loops are the first ones
place-values : (path : Path) (n d : ℕ) (f : ℕ → ℕ) (counts vs : List ℕ) (j : ℕ) →
    AreInRange (loops_of (map count_of path ++ counts)) vs → ((i : ℕ) → f (d + i) ≡ slice_index vs i) →
    place path n (loop_values path d f) j ≡ place path n vs j
place-values [] n d f counts vs j h is = refl
place-values (t ∷ path) n d f counts [] j h is = absurd h
place-values (Blocks c ∷ path) n d f counts (v ∷ vs) j h is =
    ap₂ (λ u p. u * size_under path n + p) (ap f (omega arith) ∙ is 0) (place-values path n (d + 1) f counts vs j h.1 (λ i. ap f (omega arith) ∙ is (suc i)))
place-values (Columns c ∷ path) n d f counts (v ∷ vs) j h is =
    ap₂ (λ u p. p * c + u) (ap f (omega arith) ∙ is 0) (place-values path n (d + 1) f counts vs j h.1 (λ i. ap f (omega arith) ∙ is (suc i)))

pub rest-index : (path : Path) (vs : List ℕ) (i : ℕ) → slice_index vs (i + length path)
    ≡ slice_index (rest_of path vs) i
rest-index [] vs i = ap (slice_index vs) (omega arith)
rest-index (t ∷ path) [] i = sym (empty-rest path i) where
  empty-rest : (path : Path) (i : ℕ) → slice_index (rest_of path []) i ≡ 0
  empty-rest [] i = refl
  empty-rest (t ∷ path) i = empty-rest path i
rest-index (t ∷ path) (v ∷ vs) i = let e : i + suc (length path) ≡ suc (i + length path) = omega arith in ap (slice_index (v ∷ vs)) e ∙ rest-index path vs i

-- ---- renumbered sums

value-renumbered : (k : ℕ) (e : Sum) (f : ℕ → ℕ) → value (renumbered k e) f ≡ value e (λ d. f (d + k))
value-renumbered k (constant c) f = refl
value-renumbered k (variable g d rest) f = ap (λ v. g * f (d + k) + v) (value-renumbered k rest f)
value-renumbered k (remainder g of m rest) f = ap₂ (λ u v. g * (u % m) + v) (value-renumbered k of f) (value-renumbered k rest f)
value-renumbered k (quotient g of m rest) f = ap₂ (λ u v. g * (u / m) + v) (value-renumbered k of f) (value-renumbered k rest f)

pub sound-renumbered : (k : ℕ) (e : Sum) → IsSound e → IsSound (renumbered k e)
sound-renumbered k (constant c) h = tt
sound-renumbered k (variable f d rest) h = sound-renumbered k rest h
sound-renumbered k (remainder f of m rest) h = (h.0, sound-renumbered k of h.1, sound-renumbered k rest h.2)
sound-renumbered k (quotient f of m rest) h = (h.0, sound-renumbered k of h.1, sound-renumbered k rest h.2)

-- a sum at the values after the path's loops
value-behind : (path : Path) (e : Sum) (vs : List ℕ) → value (renumbered (length path) e) (slice_index vs)
    ≡ value e (slice_index (rest_of path vs))
value-behind path e vs = value-renumbered (length path) e (slice_index vs) ∙ ap (value e) (λ t i. rest-index path vs i t)

abbrev pub up : Path → ℕ → ℕ → Sum → Sum
up path n before e = place_sum path n 0 (added (constant before) (renumbered (length path) e))

value-up : (path : Path) (n before : ℕ) (e : Sum) (counts vs more : List ℕ) →
    AreInRange (loops_of (map count_of path ++ counts)) vs →
    value (up path n before e) (slice_index (vs ++ more)) ≡ place path n vs
    (before + value e (slice_index (rest_of path vs ++ more)))
value-up path n before e counts vs more h =
    value-place_sum path n 0 (added (constant before) (renumbered (length path) e)) (slice_index (vs ++ more))
    ∙ first-values path counts vs more h n (slice_index (vs ++ more)) (λ i. ap (slice_index (vs ++ more)) (omega arith)) _
    ∙ ap (place path n vs)
    (value-added (constant before) (renumbered (length path) e) (slice_index (vs ++ more))
    ∙ ap (λ v. before + v) (value-behind path e (vs ++ more) ∙ ap (λ ws. value e (slice_index ws)) (rest-append path counts vs more h))) where
      place-first : (path : Path) (n d : ℕ) (f : ℕ → ℕ) (counts vs more : List ℕ) (j : ℕ) →
          AreInRange (loops_of (map count_of path ++ counts)) vs → ((i : ℕ) → f (d + i) ≡ slice_index (vs ++ more) i) →
          place path n (loop_values path d f) j ≡ place path n vs j
      place-first [] n d f counts vs more j h is = refl
      place-first (t ∷ path) n d f counts [] more j h is = absurd h
      place-first (Blocks c ∷ path) n d f counts (v ∷ vs) more j h is =
          ap₂ (λ u p. u * size_under path n + p) (ap f (omega arith) ∙ is 0) (place-first path n (d + 1) f counts vs more j h.1 (λ i. ap f (omega arith) ∙ is (suc i)))
      place-first (Columns c ∷ path) n d f counts (v ∷ vs) more j h is =
          ap₂ (λ u p. p * c + u) (ap f (omega arith) ∙ is 0) (place-first path n (d + 1) f counts vs more j h.1 (λ i. ap f (omega arith) ∙ is (suc i)))

      first-values : (path : Path) (counts vs more : List ℕ) → AreInRange (loops_of (map count_of path ++ counts)) vs →
          (n : ℕ) (f : ℕ → ℕ) → ((i : ℕ) → f (0 + i) ≡ slice_index (vs ++ more) i) → (j : ℕ) →
          place path n (loop_values path 0 f) j ≡ place path n vs j
      first-values path counts vs more h n f is j = place-first path n 0 f counts vs more j h is

value-up-alone : (path : Path) (n before : ℕ) (e : Sum) (counts vs : List ℕ) →
    AreInRange (loops_of (map count_of path ++ counts)) vs →
    value (up path n before e) (slice_index vs) ≡ place path n vs (before + value e (slice_index (rest_of path vs)))
value-up-alone path n before e counts vs h =
    value-place_sum path n 0 (added (constant before) (renumbered (length path) e)) (slice_index vs)
    ∙ place-values path n 0 (slice_index vs) counts vs _ h (λ i. ap (slice_index vs) (omega arith))
    ∙ ap (place path n vs) (value-added (constant before) (renumbered (length path) e) (slice_index vs) ∙ ap (λ v. before + v) (value-behind path e vs))

-- ---- places of lifted nests

at-renumbered : (k : ℕ) (sums : List Sum) (i : ℕ) → slice_index_or (map (renumbered k) sums) i (constant 0)
    ≡ renumbered k (slice_index_or sums i (constant 0))
at-renumbered k [] i = refl
at-renumbered k (e ∷ es) zero = refl
at-renumbered k (e ∷ es) (suc i) = at-renumbered k es i

lift-alone : (path : Path) (n before : ℕ) (sums : List Sum) (counts vs : List ℕ) (i : ℕ) → i < length sums →
    AreInRange (loops_of (map count_of path ++ counts)) vs →
    sum_value (map (up path n before) sums) i vs ≡ place path n vs (before + sum_value sums i (rest_of path vs))
lift-alone path n before sums counts vs i within h = ap (λ e. value e (slice_index vs)) (at-map (up path n before) sums i within) ∙ value-up-alone path n before (slice_index_or sums i (constant 0)) counts vs h

pub lift-more : (path : Path) (n before : ℕ) (sums : List Sum) (counts vs more : List ℕ) → 0 < length sums →
    AreInRange (loops_of (map count_of path ++ counts)) vs →
    sum_value (map (up path n before) sums) 0 (vs ++ more) ≡ place path n vs
    (before + sum_value sums 0 (rest_of path vs ++ more))
lift-more path n before sums counts vs more within h =
    ap (λ e. value e (slice_index (vs ++ more))) (at-map (up path n before) sums 0 within) ∙ value-up path n before (slice_index_or sums 0 (constant 0)) counts vs more h

-- a tile of no lanes has no words
no-tile : (v k : ℕ) → (0 < v → v ≡ 0) → k < v * v → ⊥
no-tile v k none below = let some = factor_positive v v k below in omega (arith, some, none some)

load-lifted : (path : Path) (n before : ℕ) (w : PlainWork) (sums : List Sum) (counts vs : List ℕ) (k : ℕ) →
    HasLanes 0 w → NamesItems w sums → AreInRange (loops_of (map count_of path ++ counts)) vs → k < work_size w →
    load_place w (map (up path n before) sums) vs k ≡ place path n vs (before + load_place w sums (rest_of path vs) k)
load-lifted path n before (kernel trees) sums counts vs k loose names h below = lift-alone path n before sums counts vs k (omega (arith, names.enough, below)) h
load-lifted path n before (rows root d) sums counts vs k loose names h below = lift-more path n before sums counts vs (0 ∷ k ∷ []) (omega (arith, names.enough)) h
load-lifted path n before (horner root d) sums counts vs k loose names h below = lift-more path n before sums counts vs (0 ∷ (d - 1 - k) ∷ []) (omega (arith, names.enough)) h
load-lifted path n before (tile v) sums counts vs k loose names h below = absurd (no-tile v k loose below)
load-lifted path n before (copy d) sums counts vs k loose names h below = lift-alone path n before sums counts vs k (omega (arith, names.enough, below)) h

store-lifted : (path : Path) (n before : ℕ) (w : PlainWork) (sums : List Sum) (counts vs : List ℕ) (k : ℕ) →
    HasLanes 0 w → NamesItems w sums → AreInRange (loops_of (map count_of path ++ counts)) vs → k < work_size w →
    store_place w (map (up path n before) sums) vs k ≡ place path n vs (before + store_place w sums (rest_of path vs) k)
store-lifted path n before (kernel trees) sums counts vs k loose names h below = lift-alone path n before sums counts vs k (omega (arith, names.enough, below)) h
store-lifted path n before (rows root d) sums counts vs k loose names h below = lift-more path n before sums counts vs (k ∷ []) (omega (arith, names.enough)) h
store-lifted path n before (horner root d) sums counts vs k loose names h below = lift-more path n before sums counts vs (k ∷ []) (omega (arith, names.enough)) h
store-lifted path n before (tile v) sums counts vs k loose names h below = absurd (no-tile v k loose below)
store-lifted path n before (copy d) sums counts vs k loose names h below = lift-alone path n before sums counts vs k (omega (arith, names.enough, below)) h

factor-alone : (path : Path) (sums : List Sum) (vs : List ℕ) (i : ℕ) →
    sum_value (map (renumbered (length path)) sums) i vs ≡ sum_value sums i (rest_of path vs)
factor-alone path sums vs i = ap (λ e. value e (slice_index vs)) (at-renumbered (length path) sums i) ∙ value-behind path (slice_index_or sums i (constant 0)) vs

factor-more : (path : Path) (sums : List Sum) (counts vs : List ℕ) (k : ℕ) →
    AreInRange (loops_of (map count_of path ++ counts)) vs →
    sum_value (map (renumbered (length path)) sums) 0 (vs ++ k ∷ []) ≡ sum_value sums 0 (rest_of path vs ++ k ∷ [])
factor-more path sums counts vs k h = factor-alone path sums (vs ++ k ∷ []) 0 ∙ ap (sum_value sums 0) (rest-append path counts vs (k ∷ []) h)

factor-lifted : (path : Path) (w : PlainWork) (sums : List Sum) (counts vs : List ℕ) (k : ℕ) → HasLanes 0 w →
    k < work_size w → AreInRange (loops_of (map count_of path ++ counts)) vs →
    store_place w (map (renumbered (length path)) sums) vs k ≡ store_place w sums (rest_of path vs) k
factor-lifted path (kernel trees) sums counts vs k loose below h = factor-alone path sums vs k
factor-lifted path (rows root d) sums counts vs k loose below h = factor-more path sums counts vs k h
factor-lifted path (horner root d) sums counts vs k loose below h = factor-more path sums counts vs k h
factor-lifted path (tile v) sums counts vs k loose below h = absurd (no-tile v k loose below)
factor-lifted path (copy d) sums counts vs k loose below h = factor-alone path sums vs k

-- ---- copies under a path

abbrev pub under_path : Path → ℕ → Copies → Copies
under_path path n c =
    record {
      counts = map count_of path ++ c.counts;
      size = c.size;
      from = λ vs k. place path n vs (c.from (rest_of path vs) k);
      does = λ vs. c.does (rest_of path vs);
      to = λ vs k. place path n vs (c.to (rest_of path vs) k);
    }

inside-path : (path : Path) (n : ℕ) (c : Copies) → IsInside n c → IsInside (size_under path n) (under_path path n c)
inside-path path n c h =
    record {
      loads = λ vs k range below. place-below-long path n c.counts vs _ range (h.loads (rest_of path vs) k (rest-range path c.counts vs range) below);
      stores = λ vs k range below. place-below-long path n c.counts vs _ range (h.stores (rest_of path vs) k (rest-range path c.counts vs range) below);
    }

all-inside-path : (path : Path) (n : ℕ) (cs : List Copies) → AreInside n cs →
    AreInside (size_under path n) (map (under_path path n) cs)
all-inside-path path n [] h = tt
all-inside-path path n (c ∷ cs) h = (inside-path path n c h.0, all-inside-path path n cs h.1)

placed-first : (t : Tensor) (path : Path) (n : ℕ) (counts vs : List ℕ) (f : List ℕ → ℕ) →
    AreInRange (loops_of (count_of t ∷ counts)) vs →
    placed t (size_under path n) (first_of vs) (place path n (others_of vs) (f (others_of vs)))
    ≡ place (t ∷ path) n vs (f (others_of vs))
placed-first t path n counts [] f h = absurd h
placed-first (Blocks c) path n counts (v ∷ vs) f h = refl
placed-first (Columns c) path n counts (v ∷ vs) f h = refl

stored-path : (t : Tensor) (path : Path) (n : ℕ) (cs : List Copies) (x : List ℕ) (w : ℕ) →
    all_stored (map (under_one t (size_under path n)) (map (under_path path n) cs)) x w
    ≡ all_stored (map (under_path (t ∷ path) n) cs) x w
stored-path t path n [] x w = refl
stored-path t path n (c ∷ cs) x w =
    ap₂ (λ a b. a + b)
    (stored-alike (count_of t ∷ (map count_of path ++ c.counts)) c.size _ _ (λ vs. c.does (rest_of path (others_of vs))) (λ vs. c.does (rest_of path (others_of vs))) _ _ x w
    (λ vs k range below. placed-first t path n _ vs (λ us. c.from (rest_of path us) k) range)
    (λ vs y k range below. refl)
    (λ vs k range below. placed-first t path n _ vs (λ us. c.to (rest_of path us) k) range))
    (stored-path t path n cs x w)

hits-path : (t : Tensor) (path : Path) (n : ℕ) (cs : List Copies) (w : ℕ) →
    hits (map (under_one t (size_under path n)) (map (under_path path n) cs)) w
    ≡ hits (map (under_path (t ∷ path) n) cs) w
hits-path t path n [] w = refl
hits-path t path n (c ∷ cs) w =
    ap₂ (λ a b. a + b)
    (loop-same (loops_of (count_of t ∷ (map count_of path ++ c.counts))) c.size _ _ (λ _ _. 1) (λ _ _. 1) w w (λ vs k range below.
    ap (λ p. if p == w then 1 else 0) (placed-first t path n _ vs (λ us. c.to (rest_of path us) k) range)))
    (hits-path t path n cs w)

none-stored : (n : ℕ) (cs : List Copies) (x : List ℕ) (w : ℕ) →
    all_stored cs x w ≡ all_stored (map (under_path [] n) cs) x w
none-stored n [] x w = refl
none-stored n (c ∷ cs) x w = ap (λ b. stored c x w + b) (none-stored n cs x w)

none-hits : (n : ℕ) (cs : List Copies) (w : ℕ) → hits cs w ≡ hits (map (under_path [] n) cs) w
none-hits n [] w = refl
none-hits n (c ∷ cs) w = ap (λ b. loop_at (loops_of c.counts) c.size c.to (λ vs k. 1) w + b) (none-hits n cs w)

-- a pass under the tensors of a path
pub under-pass : (m n : ℕ) (path : Path) (cs : List Copies) (x : List ℕ) → AreInside n cs →
    under path n (pass_on m n cs) x ≡ pass_on m (size_under path n) (map (under_path path n) cs) x
under-pass m n [] cs x h = list_below-same n _ _ (λ w below. ap (λ s. s % m) (none-stored n cs x w))
under-pass m n (t ∷ path) cs x h =
    one_under-same t (size_under path n) _ _ x (λ y. under-pass m n path cs y h)
    ∙ stand_under m (size_under path n) t (map (under_path path n) cs) x (all-inside-path path n cs h)
    ∙ list_below-same (grown t (size_under path n)) _ _ (λ w below. ap (λ s. s % m) (stored-path t path n cs x w))

pub once-path : (n : ℕ) (path : Path) (cs : List Copies) → AreInside n cs → StoreOnce n cs →
    StoreOnce (size_under path n) (map (under_path path n) cs)
once-path n [] cs h once w below = sym (none-hits n cs w) ∙ once w below
once-path n (t ∷ path) cs h once w below = sym (hits-path t path n cs w) ∙ keeps_once.under (size_under path n) t (map (under_path path n) cs) (all-inside-path path n cs h) (once-path n path cs h once) w below

-- ---- nests under a path

multiplied-lifted : (m : ℕ) (path : Path) (n before : ℕ) (z : PlainNest) (o : Option PlainMultiplier) (vs y : List ℕ)
    (k : ℕ) → HasLanes 0 z.work → AreInRange (loops_of (map count_of path ++ z.counts)) vs → k < work_size z.work →
    slice_index (multiplied_on m (lifted path n before z) (renumbered_places (length path) o) vs y) k
    ≡ slice_index (multiplied_on m z o (rest_of path vs) y) k
multiplied-lifted m path n before z None vs y k loose h below = refl
multiplied-lifted m path n before z (Some d) vs y k loose h below =
    at-list_below (work_size z.work) _ k below
    ∙ ap (λ p. (factor_at m d.factors p * slice_index (work_on m z.work y) k) % m) (factor-lifted path z.work d.places z.counts vs k loose below h)
    ∙ sym (at-list_below (work_size z.work) _ k below)

stored-lifted : (m k n before : ℕ) (path : Path) (zs : List PlainNest) (x : List ℕ) (w : ℕ) → AreGoodNests 0 m k zs →
    all_stored (map (copies_of m) (map (lifted path n before) zs)) x w
    ≡ all_stored (map (under_path path n) (map (behind before) (map (copies_of m) zs))) x w
stored-lifted m k n before path [] x w h = refl
stored-lifted m k n before path (z ∷ zs) x w h =
    ap₂ (λ a b. a + b)
    (stored-alike (map count_of path ++ z.counts) (work_size z.work) _ _ (multiplied_on m (lifted path n before z) (renumbered_places (length path) z.multiplier)) (λ vs. multiplied_on m z z.multiplier (rest_of path vs)) _ _ x w
    (λ vs j range below. load-lifted path n before z.work z.gathers z.counts vs j h.0.tiles h.0.gathers range below)
    (λ vs y j range below. multiplied-lifted m path n before z z.multiplier vs y j h.0.tiles range below)
    (λ vs j range below. store-lifted path n before z.work z.scatters z.counts vs j h.0.tiles h.0.scatters range below))
    (stored-lifted m k n before path zs x w h.1)

hits-lifted : (m k n before : ℕ) (path : Path) (zs : List PlainNest) (w : ℕ) → AreGoodNests 0 m k zs →
    hits (map (copies_of m) (map (lifted path n before) zs)) w
    ≡ hits (map (under_path path n) (map (behind before) (map (copies_of m) zs))) w
hits-lifted m k n before path [] w h = refl
hits-lifted m k n before path (z ∷ zs) w h =
    ap₂ (λ a b. a + b)
    (loop-same (loops_of (map count_of path ++ z.counts)) (work_size z.work) _ _ (λ _ _. 1) (λ _ _. 1) w w (λ vs j range below.
    ap (λ p. if p == w then 1 else 0) (store-lifted path n before z.work z.scatters z.counts vs j h.0.tiles h.0.scatters range below)))
    (hits-lifted m k n before path zs w h.1)

map-append : (f : Copies → Copies) (cs ds : List Copies) → map f (cs ++ ds) ≡ map f cs ++ map f ds
map-append f [] ds = refl
map-append f (c ∷ cs) ds = ap (λ es. f c ∷ es) (map-append f cs ds)

nests-append : (m : ℕ) (zs ys : List PlainNest) → map (copies_of m) (zs ++ ys) ≡ map (copies_of m) zs
    ++ map (copies_of m) ys
nests-append m [] ys = refl
nests-append m (z ∷ zs) ys = ap (λ es. copies_of m z ∷ es) (nests-append m zs ys)

stored-first : (path : Path) (n : ℕ) (cs : List Copies) (x : List ℕ) (w : ℕ) →
    all_stored (map (under_path path n) (map (behind 0) cs)) x w ≡ all_stored (map (under_path path n) cs) x w
stored-first path n [] x w = refl
stored-first path n (c ∷ cs) x w =
    ap₂ (λ a b. a + b)
    (stored-alike (map count_of path ++ c.counts) c.size _ _ (λ vs. c.does (rest_of path vs)) (λ vs. c.does (rest_of path vs)) _ _ x w
    (λ vs j range below. ap (place path n vs) (omega arith))
    (λ vs y j range below. refl)
    (λ vs j range below. ap (place path n vs) (omega arith)))
    (stored-first path n cs x w)

hits-first : (path : Path) (n : ℕ) (cs : List Copies) (w : ℕ) →
    hits (map (under_path path n) (map (behind 0) cs)) w ≡ hits (map (under_path path n) cs) w
hits-first path n [] w = refl
hits-first path n (c ∷ cs) w =
    ap₂ (λ a b. a + b)
    (loop-same (loops_of (map count_of path ++ c.counts)) c.size _ _ (λ _ _. 1) (λ _ _. 1) w w (λ vs j range below. ap (λ p. if p == w then 1 else 0) (ap (place path n vs) (omega arith))))
    (hits-first path n cs w)

-- ---- the side of two passes

abbrev two : ℕ → ℕ → List PlainNest → List PlainNest → List Copies
two m k zs ys = map (copies_of m) zs ++ map (behind k) (map (copies_of m) ys)

stored-side : (m k l : ℕ) (path : Path) (zs ys : List PlainNest) (x : List ℕ) (w : ℕ) → AreGoodNests 0 m k zs →
    AreGoodNests 0 m l ys →
    all_stored (map (copies_of m) (side path k l zs ys)) x w
    ≡ all_stored (map (under_path path (k + l)) (two m k zs ys)) x w
stored-side m k l path zs ys x w h g =
    let n = k + l in
    ap (λ cs. all_stored cs x w) (nests-append m (map (lifted path n 0) zs) (map (lifted path n k) ys))
    ∙ stored-append (map (copies_of m) (map (lifted path n 0) zs)) (map (copies_of m) (map (lifted path n k) ys)) x w
    ∙ ap₂ (λ a b. a + b) (stored-lifted m k n 0 path zs x w h ∙ stored-first path n (map (copies_of m) zs) x w) (stored-lifted m l n k path ys x w g)
    ∙ sym (stored-append (map (under_path path n) (map (copies_of m) zs)) (map (under_path path n) (map (behind k) (map (copies_of m) ys))) x w)
    ∙ ap (λ cs. all_stored cs x w) (sym (map-append (under_path path n) (map (copies_of m) zs) (map (behind k) (map (copies_of m) ys))))

hits-side : (m k l : ℕ) (path : Path) (zs ys : List PlainNest) (w : ℕ) → AreGoodNests 0 m k zs → AreGoodNests 0 m l ys →
    hits (map (copies_of m) (side path k l zs ys)) w ≡ hits (map (under_path path (k + l)) (two m k zs ys)) w
hits-side m k l path zs ys w h g =
    let n = k + l in
    ap (λ cs. hits cs w) (nests-append m (map (lifted path n 0) zs) (map (lifted path n k) ys))
    ∙ hits-append (map (copies_of m) (map (lifted path n 0) zs)) (map (copies_of m) (map (lifted path n k) ys)) w
    ∙ ap₂ (λ a b. a + b) (hits-lifted m k n 0 path zs w h ∙ hits-first path n (map (copies_of m) zs) w) (hits-lifted m l n k path ys w g)
    ∙ sym (hits-append (map (under_path path n) (map (copies_of m) zs)) (map (under_path path n) (map (behind k) (map (copies_of m) ys))) w)
    ∙ ap (λ cs. hits cs w) (sym (map-append (under_path path n) (map (copies_of m) zs) (map (behind k) (map (copies_of m) ys))))

behind-inside : (k l : ℕ) (cs : List Copies) → AreInside l cs → AreInside (k + l) (map (behind k) cs)
behind-inside k l [] h = tt
behind-inside k l (c ∷ cs) h = (record { loads = λ vs j range below. omega (arith, h.0.loads vs j range below); stores = λ vs j range below. omega (arith, h.0.stores vs j range below) }, behind-inside k l cs h.1)

wider-inside : (k l : ℕ) (cs : List Copies) → AreInside k cs → AreInside (k + l) cs
wider-inside k l [] h = tt
wider-inside k l (c ∷ cs) h = (record { loads = λ vs j range below. omega (arith, h.0.loads vs j range below); stores = λ vs j range below. omega (arith, h.0.stores vs j range below) }, wider-inside k l cs h.1)

inside-append : (n : ℕ) (cs ds : List Copies) → AreInside n cs → AreInside n ds → AreInside n (cs ++ ds)
inside-append n [] ds h g = g
inside-append n (c ∷ cs) ds h g = (h.0, inside-append n cs ds h.1 g)

two-inside : (m k l : ℕ) (zs ys : List PlainNest) → AreGoodNests 0 m k zs → AreGoodNests 0 m l ys →
    AreInside (k + l) (two m k zs ys)
two-inside m k l zs ys h g = inside-append (k + l) (map (copies_of m) zs) _ (wider-inside k l (map (copies_of m) zs) (all-inside 0 m k zs h)) (behind-inside k l (map (copies_of m) ys) (all-inside 0 m l ys g))

pub side-on : (m k l : ℕ) (path : Path) (zs ys : List PlainNest) (x : List ℕ) → AreGoodNests 0 m k zs →
    AreGoodNests 0 m l ys →
    nests_on m (size_under path (k + l)) (side path k l zs ys) x ≡ under path (k + l)
    (both k l (nests_on m k zs) (nests_on m l ys)) x
side-on m k l path zs ys x h g =
    list_below-same (size_under path (k + l)) _ _ (λ w below. ap (λ s. s % m) (stored-side m k l path zs ys x w h g))
    ∙ sym (under-pass m (k + l) path (two m k zs ys) x (two-inside m k l zs ys h g))
    ∙ under-equal path (k + l) _ _ x (λ y. sym (stand_side_by_side m k l (map (copies_of m) zs) (map (copies_of m) ys) y (all-inside 0 m k zs h) (all-inside 0 m l ys g))) where
      under-equal : (path : Path) (n : ℕ) (a b : Operator) (x : List ℕ) → ((y : List ℕ) → a y ≡ b y) →
          under path n a x ≡ under path n b x
      under-equal [] n a b x h = h x
      under-equal (t ∷ path) n a b x h = one_under-same t (size_under path n) _ _ x (λ y. under-equal path n a b y h)

sound-up : (path : Path) (n before : ℕ) (sums : List Sum) → AreSound sums → AreSound (map (up path n before) sums)
sound-up path n before [] h = tt
sound-up path n before (e ∷ es) h = (sound-place_sum path n 0 _ (sound-added (constant before) (renumbered (length path) e) tt (sound-renumbered (length path) e h.0)), sound-up path n before es h.1)

pub names-up : (path : Path) (n before : ℕ) (w : PlainWork) (sums : List Sum) → NamesItems w sums →
    NamesItems w (map (up path n before) sums)
names-up path n before w sums h = record { enough = omega (arith, h.enough, length-map (up path n before) sums); sound = sound-up path n before sums h.sound }

-- work with no tiles is work for any lanes
no-tiles : (lanes : ℕ) (w : PlainWork) → HasLanes 0 w → HasLanes lanes w
no-tiles lanes (kernel trees) h = tt
no-tiles lanes (rows root d) h = tt
no-tiles lanes (horner root d) h = tt
no-tiles lanes (tile v) h = λ some. absurd (let none = h some in omega (arith, some, none))
no-tiles lanes (copy d) h = tt

none-whole : (counts : List ℕ) (w : PlainWork) (sums : List Sum) → HasLanes 0 w → AreWhole counts w sums
none-whole counts (kernel trees) sums h = tt
none-whole counts (rows root d) sums h = tt
none-whole counts (horner root d) sums h = tt
none-whole counts (tile v) sums h = λ vs i range below. absurd (let none = h (omega (arith, below)) in omega (arith, below, none))
none-whole counts (copy d) sums h = tt

lifted-good : (lanes : ℕ) → (m k n before : ℕ) (path : Path) (zs : List PlainNest) → before + k ≤ n →
    AreGoodNests 0 m k zs → AreGoodNests lanes m (size_under path n) (map (lifted path n before) zs)
lifted-good lanes m k n before path [] fits h = tt
lifted-good lanes m k n before path (z ∷ zs) fits h = (
  record {
    tiles = no-tiles lanes z.work h.0.tiles;
    whole_loads = none-whole (map count_of path ++ z.counts) z.work _ h.0.tiles;
    whole_stores = none-whole (map count_of path ++ z.counts) z.work _ h.0.tiles;
    gathers = names-up path n before z.work z.gathers h.0.gathers;
    scatters = names-up path n before z.work z.scatters h.0.scatters;
    inside = record {
      loads = λ vs j range below.
          subst (λ p. p < size_under path n) (sym (load-lifted path n before z.work z.gathers z.counts vs j h.0.tiles h.0.gathers range below))
          (place-below-long path n z.counts vs _ range (omega (arith, fits, h.0.inside.loads (rest_of path vs) j (rest-range path z.counts vs range) below)));
      stores = λ vs j range below.
          subst (λ p. p < size_under path n) (sym (store-lifted path n before z.work z.scatters z.counts vs j h.0.tiles h.0.scatters range below))
          (place-below-long path n z.counts vs _ range (omega (arith, fits, h.0.inside.stores (rest_of path vs) j (rest-range path z.counts vs range) below)));
    };
  },
  lifted-good lanes m k n before path zs fits h.1,
)

nests-both : (lanes : ℕ) → (m n : ℕ) (zs ys : List PlainNest) → AreGoodNests lanes m n zs → AreGoodNests lanes m n ys →
    AreGoodNests lanes m n (zs ++ ys)
nests-both lanes m n [] ys h g = g
nests-both lanes m n (z ∷ zs) ys h g = (h.0, nests-both lanes m n zs ys h.1 g)

pub side-good : (lanes : ℕ) → (m k l : ℕ) (path : Path) (zs ys : List PlainNest) → IsGoodPass 0 m k zs →
    IsGoodPass 0 m l ys → IsGoodPass lanes m (size_under path (k + l)) (side path k l zs ys)
side-good lanes m k l path zs ys h g =
    record {
      nests = nests-both lanes m (size_under path (k + l)) (map (lifted path (k + l) 0) zs) _ (lifted-good lanes m k (k + l) 0 path zs (omega arith) h.nests) (lifted-good lanes m l (k + l) k path ys (omega arith) g.nests);
      once = λ w below.
          hits-side m k l path zs ys w h.nests g.nests
          ∙ once-path (k + l) path (two m k zs ys) (two-inside m k l zs ys h.nests g.nests)
          (keeps_once.side_by_side k l (map (copies_of m) zs) (map (copies_of m) ys) (all-inside 0 m k zs h.nests) (all-inside 0 m l ys g.nests) h.once g.once) w below;
    }
