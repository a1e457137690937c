-- Copies that take their items from listed places.
use Rattle.std.proofs.Common.{◌≡◌, ℕ, zero, suc, ◌+◌, ◌%◌, ◌<◌, arith, refl, sym, ap, ◌∙◌, List, [], ◌∷◌, length, subst}
use Rattle.std.proofs.Common.{mod-eq_of_lt}
use Rattle.std.specs.Prelude.{slice_index, slice_index_or, map, ◌==◌, if◌then◌else◌}
use Rattle.index_fn.specs.Mapping.{Mapping, at}
use Rattle.operators.specs.Operator.{gather}
use Rattle.operators.specs.Sum.{list_below}
use Rattle.operators.proofs.Lists.{at-list_below, list_below-same, length-list_below}
use Rattle.perm_algebra.specs.Affine.{constant, value}
use Rattle.sigma_spl.specs.Copies.{loops_of, pass_on}
use Rattle.sigma_spl.specs.Good.{AreBelow, IsGoodPass}
use Rattle.spl_ast.specs.Meaning.{IsVector}
use Rattle.spl_ast.proofs.Vectors.{residue_at}
use Rattle.sigma_spl.specs.Merge.{new_nest, place_sum}
use Rattle.sigma_spl.specs.Nest.{sum_value, nests_on}
use Rattle.sigma_spl.specs.Term.{moving}
use Rattle.sigma_spl.specs.Work.{copy}
use Rattle.sigma_spl.proofs.CopiesMerge.{loop-same}
use Rattle.sigma_spl.proofs.Natural.{ranged, place-alone, store-natural, names-out, once-natural, sound-constants}
use Rattle.sigma_spl.proofs.Natural.{sound-places, at-natural}
use Rattle.sigma_spl.proofs.Nests.{stored-alike, at-map, length-map}
use Rattle.operators.specs.Paths.Tensors.{Path, count_of, size_under, place, AreInRange}
use Rattle.operators.proofs.PathLemmas.PathPlaces.{place-below}

-- ---- copies that move their items

pub at-constants : (ks : List ℕ) (i : ℕ) → slice_index_or (map constant ks) i (constant 0) ≡ constant (slice_index ks i)
at-constants [] i = refl
at-constants (k ∷ ks) zero = refl
at-constants (k ∷ ks) (suc i) = at-constants ks i

pub length-constants : (ks : List ℕ) → length (map constant ks) ≡ length ks
length-constants [] = refl
length-constants (k ∷ ks) = ap suc (length-constants ks)

pub at-below : (n : ℕ) (ks : List ℕ) (i : ℕ) → AreBelow n ks → i < length ks → slice_index ks i < n
at-below n [] i h within = absurd (omega arith)
at-below n (k ∷ ks) zero h within = h.0
at-below n (k ∷ ks) (suc i) h within = at-below n ks i h.1 (omega arith)

pub load-moved : (path : Path) (ks : List ℕ) (vs : List ℕ) (k : ℕ) → AreInRange path vs → k < length ks →
    sum_value (map (place_sum path (length ks) 0) (map constant ks)) k vs ≡ place path (length ks) vs (slice_index ks k)
load-moved path ks vs k range below =
    ap (λ e. value e (slice_index vs)) (at-map (place_sum path (length ks) 0) (map constant ks) k (omega (arith, length-constants ks)) ∙ ap (place_sum path (length ks) 0) (at-constants ks k))
    ∙ place-alone path (length ks) (slice_index ks k) vs range

pub moved-on : (m n : ℕ) (path : Path) (ks : List ℕ) (x : List ℕ) →
    nests_on m n (new_nest path (copy (length ks)) (map constant ks) ∷ []) x ≡ pass_on m n (moving path ks ∷ []) x
moved-on m n path ks x =
    list_below-same n _ _ (λ p below. ap (λ s. (s + 0) % m)
    (stored-alike (map count_of path) (length ks) _ _ (λ vs y. list_below (length ks) (slice_index y)) (λ vs y. list_below (length ks) (slice_index y)) _ _ x p
    (λ vs k range within. load-moved path ks vs k (ranged path vs range) within)
    (λ vs y k range within. refl)
    (λ vs k range within. store-natural 0 path (copy (length ks)) vs k tt (ranged path vs range) within)))

pub moved-good : (lanes : ℕ) → (m n : ℕ) (path : Path) (ks : List ℕ) → AreBelow (length ks) ks →
    size_under path (length ks) ≡ n → IsGoodPass lanes m n (new_nest path (copy (length ks)) (map constant ks) ∷ [])
moved-good lanes m n path ks h e =
    let d = length ks in
    record {
      nests = (
        record {
          tiles = tt;
          whole_loads = tt;
          whole_stores = tt;
          gathers = record { enough = omega (arith, length-map (place_sum path d 0) (map constant ks), length-constants ks); sound = sound-places path d _ (sound-constants ks) };
          scatters = names-out 0 path (copy d) tt;
          inside = record {
            loads = λ vs k range within.
                subst (λ p. p < n) (sym (load-moved path ks vs k (ranged path vs range) within)) (subst (λ z. place path d vs (slice_index ks k) < z) e (place-below path d vs (slice_index ks k) (ranged path vs range) (at-below d ks k h within)));
            stores = λ vs k range within.
                subst (λ p. p < n) (sym (store-natural 0 path (copy d) vs k tt (ranged path vs range) within)) (subst (λ z. place path d vs k < z) e (place-below path d vs k (ranged path vs range) within));
          };
        },
        tt,
      );
      once = λ p inside.
          ap (λ s. s + 0)
          (loop-same (loops_of (map count_of path)) d _ (place path d) (λ _ _. 1) (λ _ _. 1) p p (λ vs k range within.
          ap (λ q. if q == p then 1 else 0) (store-natural 0 path (copy d) vs k tt (ranged path vs range) within)) ∙ once-natural path d p (subst (λ z. p < z) (sym e) inside));
    }

-- ---- a permutation as a table

table_below : (n : ℕ) (f : ℕ → ℕ) → ((i : ℕ) → i < n → f i < n) → AreBelow (length (list_below n f)) (list_below n f)
table_below n f h = below-all (length (list_below n f)) (list_below n f) (λ i within. entry i (omega (arith, length-list_below n f, within))) where
  below-all : (m : ℕ) (ks : List ℕ) → ((i : ℕ) → i < length ks → slice_index ks i < m) → AreBelow m ks
  below-all m [] h = tt
  below-all m (k ∷ ks) h = (h 0 (omega arith), below-all m ks (λ i below. h (suc i) (omega arith)))

  entry : (i : ℕ) → i < n → slice_index (list_below n f) i < length (list_below n f)
  entry i below = subst (λ v. v < length (list_below n f)) (sym (at-list_below n f i below)) (omega (arith, length-list_below n f, h i below))

pub table-good : (lanes : ℕ) → (m n : ℕ) (f : Mapping) → ((i : ℕ) → i < n → at f i < n) →
    IsGoodPass lanes m n (new_nest [] (copy (length (list_below n (at f)))) (map constant (list_below n (at f))) ∷ [])
table-good lanes m n f h = moved-good lanes m n [] (list_below n (at f)) (table_below n (at f) h) (length-list_below n (at f))

pub table-on : (m n : ℕ) (f : Mapping) (x : List ℕ) → ((i : ℕ) → i < n → at f i < n) → IsVector m n x →
    nests_on m n (new_nest [] (copy (length (list_below n (at f)))) (map constant (list_below n (at f))) ∷ []) x
    ≡ gather n (at f) x
table-on m n f x h v =
    let ks = list_below n (at f) in
    let d = length ks in
    let size : d ≡ n = length-list_below n (at f) in
    moved-on m n [] ks x
    ∙ list_below-same n _ _ (λ w below.
    at-natural [] d w (λ vs k. slice_index (list_below d (slice_index (list_below d (λ j. slice_index x (slice_index ks j))))) k) (λ s. (s + 0) % m ≡ slice_index x (at f w)) (omega (arith, size, below)) (λ vs k range within there.
    let same : slice_index ks k ≡ at f w = at-list_below n (at f) k (omega (arith, size, within)) ∙ ap (at f) there in
    ap (λ s. (s + 0) % m) (at-list_below d (slice_index (list_below d (λ j. slice_index x (slice_index ks j)))) k within ∙ at-list_below d (λ j. slice_index x (slice_index ks j)) k within ∙ ap (slice_index x) same)
    ∙ ap (λ s. s % m) (omega arith)
    ∙ mod-eq_of_lt (residue_at m n x (at f w) v (h w below))))
