-- What terms do under the tensors of a path.
use Rattle.sigma_lower.proofs.Words.{chosen, is-one, true, ◌==◌, ◌≡◌, ℕ, ◌+◌, ◌*◌, ◌/◌, ◌%◌, ◌<◌, arith, refl, sym, ap}
use Rattle.sigma_lower.proofs.Words.{ap₂, ◌∙◌, List, [], ◌∷◌, ◌++◌, length, subst, mod-lt, div-lt_iff_lt-mul}
use Rattle.sigma_lower.proofs.Words.{slice_index, fill_by_all, Kind, transform, gather, scale, stride, column}
use Rattle.sigma_lower.proofs.Words.{on_blocks, on_columns, at-list_below, list_below-same, place_below}
use Rattle.sigma_lower.proofs.Words.{factor_positive, CanNest, IsGoodTerm, IsVector, factor_count, factor_at, product}
use Rattle.sigma_lower.proofs.Words.{term_on, PlainWork, tile, work_size, work_on, one_more, Tensor}
use Rattle.sigma_lower.proofs.Words.{block_vector, column_vector, list_vector, residue_at}
use Rattle.sigma_lower.proofs.Words.{Blocks, Columns, Path, count_of, grown, size_under, under, place, size_under-push}
use Rattle.sigma_lower.proofs.Words.{mod-eq_of_lt, div-one, mod-one, entry_of, Operator, block, stride_below}
use Rattle.sigma_lower.proofs.Words.{list_below, length-list_below, PlainFactors, under-vector, vector-fill}
use Rattle.sigma_lower.proofs.Words.{place-below, under-push, under-size, grown-one}
use Rattle.std.proofs.Math.Nat.{mod-mod, div-eq_of_lt}
use Rattle.operators.specs.Identities.{turn}
use Rattle.operators.proofs.Sums.{sum_below-same}
use Rattle.sigma_spl.specs.Term.{PlainTerm, nest, move, diag}
use Rattle.sigma_spl.proofs.Natural.{at-natural}
use Rattle.sigma_spl.proofs.Limited.{below-all}
use Rattle.sigma_lower.proofs.TreeTerms.Permuted.{scale-under}
use Rattle.operators.specs.Paths.Tensors.{one_under, Reads, local}
use Rattle.operators.proofs.PathLemmas.PathPlaces.{at-under}
use Rattle.operators.proofs.PathLemmas.Under.{under-product}

-- a good term that does to a vector what an operator does
pub record Lowers (m n : ℕ) (t : PlainTerm) (a : Operator) : Type 0 where
  pub good : IsGoodTerm 0 n t
  pub on : (x : List ℕ) → IsVector m n x → term_on m n t x ≡ a x

-- ---- loops

-- an operator that makes residues, and looks at no more than d items
pub record IsWork (m d : ℕ) (a : Operator) : Type 0 where
  pub reads : Reads d a
  pub residue : (y : List ℕ) (k : ℕ) → k < d → slice_index (a y) k % m ≡ slice_index (a y) k
  pub size : (y : List ℕ) → length (a y) ≡ d

under-fill : (path : Path) (d : ℕ) (a : Operator) (x : List ℕ) (f : ℕ → ℕ) → ((y : List ℕ) → length (a y) ≡ d) →
    ((w : ℕ) → w < size_under path d → f w ≡ slice_index (under path d a x) w) →
    list_below (size_under path d) f ≡ under path d a x
under-fill path d a x f size h = list_below-same (size_under path d) f (slice_index (under path d a x)) h ∙ sym (fill_by_all (slice_index (under path d a x)) (under path d a x) (size_under path d) 0 (under-size path d a size x) (λ k below. refl))

pub nest-under : (m : ℕ) (path : Path) (w : PlainWork) (x : List ℕ) → IsWork m (work_size w) (work_on m w) →
    term_on m (size_under path (work_size w)) (nest path w) x ≡ under path (work_size w) (work_on m w) x
nest-under m path w x h =
    let d = work_size w in
    under-fill path d (work_on m w) x _ h.size (λ p below.
    at-natural path d p _ (λ s. (s + 0) % m ≡ slice_index (under path d (work_on m w) x) p) below (λ vs k range within there.
    ap (λ s. s % m) (omega arith)
    ∙ h.residue (local path d vs x) k within
    ∙ sym (at-under path d (work_on m w) x vs k h.reads range within)
    ∙ ap (slice_index (under path d (work_on m w) x)) there))

pub nest-lowers : (m : ℕ) (path : Path) (w : PlainWork) → CanNest 0 path w → IsWork m (work_size w) (work_on m w) →
    Lowers m (size_under path (work_size w)) (nest path w) (under path (work_size w) (work_on m w))
nest-lowers m path w loose h = record { good = (loose, refl); on = λ x v. nest-under m path w x h }

pub transform-work : (kind : Kind) (m d w : ℕ) → IsWork m d (transform kind m d w)
transform-work kind m d w =
    record {
      reads = λ x.
          list_below-same d _ _ (λ k below. ap (λ s. s % m) (sum_below-same d _ _ (λ l within.
          ap (λ v. entry_of kind m d w k l * v) (at-list_below d (slice_index x) l within))));
      residue = λ y k below. ap (λ s. s % m) (at-list_below d _ k below) ∙ mod-mod _ m ∙ sym (at-list_below d _ k below);
      size = λ y. length-list_below d _;
    }

-- ---- copies that move their items

pub move-lowers : (m : ℕ) (path : Path) (ks : List ℕ) → ((i : ℕ) → i < length ks → slice_index ks i < length ks) →
    Lowers m (size_under path (length ks)) (move path ks) (under path (length ks) (gather (length ks) (slice_index ks)))
move-lowers m path ks h =
    let d = length ks in
    let a : Operator = gather d (slice_index ks) in
    let reads : Reads d a = λ x. list_below-same d _ _ (λ k below. at-list_below d (slice_index x) (slice_index ks k) (h k below)) in
    record {
      good = (below-all d ks h, refl);
      on = λ x v.
          under-fill path d a x _ (λ y. length-list_below d _) (λ p below.
          at-natural path d p _ (λ s. (s + 0) % m ≡ slice_index (under path d a x) p) below (λ vs k range within there.
          let same : slice_index (under path d a x) p ≡ slice_index x (place path d vs (slice_index ks k)) =
          ap (slice_index (under path d a x)) (sym there) ∙ at-under path d a x vs k reads range within ∙ at-list_below d _ k within ∙ at-list_below d _ (slice_index ks k) (h k within) in
          ap (λ s. (s + 0) % m) (at-list_below d _ k within ∙ at-list_below d _ k within)
          ∙ ap (λ s. s % m) (omega arith)
          ∙ mod-eq_of_lt (residue_at m _ x (place path d vs (slice_index ks k)) v (place-below path d vs (slice_index ks k) range (h k within)))
          ∙ sym same));
    }

-- a tile turns its items round
pub tile-under : (m : ℕ) (path : Path) (v : ℕ) (x : List ℕ) → IsVector m (size_under path (v * v)) x →
    term_on m (size_under path (v * v)) (nest path (tile v)) x ≡ under path (v * v) (turn v v) x
tile-under m path v x h =
    let d = v * v in
    let a : Operator = turn v v in
    let inside = λ (k : ℕ) (below : k < d). (stride_below v v k below).1 in
    let reads : Reads d a = λ y. list_below-same d _ _ (λ k below. at-list_below d (slice_index y) (stride v v k) (inside k below)) in
    under-fill path d a x _ (λ y. length-list_below d _) (λ p below.
    at-natural path d p _ (λ s. (s + 0) % m ≡ slice_index (under path d a x) p) below (λ vs k range within there.
    let q = stride v v k in
    let item : slice_index (a (local path d vs x)) k ≡ slice_index x (place path d vs q) = at-list_below d _ k within ∙ at-list_below d _ q (inside k within) in
    let same : slice_index (under path d a x) p ≡ slice_index (a (local path d vs x)) k = ap (slice_index (under path d a x)) (sym there) ∙ at-under path d a x vs k reads range within in
    ap (λ s. (s + 0) % m) item
    ∙ ap (λ s. s % m) (omega arith)
    ∙ mod-eq_of_lt (residue_at m _ x (place path d vs q) h (place-below path d vs q range (inside k within)))
    ∙ sym item
    ∙ sym same))

-- ---- diagonals

pub diag-lowers : (m : ℕ) (path : Path) (factors : PlainFactors) →
    Lowers m (size_under path (factor_count factors)) (diag path factors)
    (under path (factor_count factors) (scale m (factor_count factors) (factor_at m factors)))
diag-lowers m path factors =
    let n = factor_count factors in
    record {
      good = refl;
      on = λ x v. sym (scale-under path m n (factor_at m factors) x);
    }

-- ---- vectors under a path

pub under-keeps : (m : ℕ) (path : Path) (n : ℕ) (a : Operator) (x : List ℕ) →
    ((y : List ℕ) → IsVector m n y → IsVector m n (a y)) → IsVector m (size_under path n) x →
    IsVector m (size_under path n) (under path n a x)
under-keeps m [] n a x h v = h x v
under-keeps m (Blocks c ∷ path) n a x h v =
    let size = size_under path n in
    list_vector m (c * size) _ (λ p below.
    let positive : 0 < size = factor_positive c size p below in
    let copy : p / size < c = (div-lt_iff_lt-mul positive).1 below in
    let inner = block_vector m c size (p / size) x copy v in
    residue_at m size _ (p % size) (under-keeps m path n a (block size (p / size) x) h inner) (mod-lt p positive))
under-keeps m (Columns c ∷ path) n a x h v =
    let size = size_under path n in
    list_vector m (size * c) _ (λ p below.
    let positive : 0 < c = factor_positive size c p below in
    let row : p / c < size = (div-lt_iff_lt-mul positive).1 below in
    let inner = column_vector m size c (p % c) x (mod-lt p positive) v in
    residue_at m size _ (p / c) (under-keeps m path n a (column size c (p % c) x) h inner) row)

-- a product under a path, for operators on vectors
pub under-times : (m : ℕ) (path : Path) (n : ℕ) (a b : Operator) (x : List ℕ) →
    ((y : List ℕ) → IsVector m n y → IsVector m n (b y)) → IsVector m (size_under path n) x →
    under path n (λ y. a (b y)) x ≡ under path n a (under path n b x)
under-times m path n a b x h v =
    let filled : Operator = λ y. list_below n (slice_index (b y)) in
    let same = λ (y : List ℕ) (w : IsVector m n y). fill_by_all (slice_index (b y)) (b y) n 0 (h y w).size (λ k below. refl) in
    under-vector m path n (λ y. a (b y)) (λ y. a (filled y)) x (λ y w. ap a (same y w)) v
    ∙ under-product path n a filled x (λ y. length-list_below n _)
    ∙ ap (under path n a) (sym (under-vector m path n b filled x same v))

pub product-lowers : (m : ℕ) (path : Path) (n : ℕ) (s t : PlainTerm) (a b : Operator) →
    ((y : List ℕ) → IsVector m n y → IsVector m n (b y)) → Lowers m (size_under path n) s (under path n a) →
    Lowers m (size_under path n) t (under path n b) →
    Lowers m (size_under path n) (product t s) (under path n (λ y. a (b y)))
product-lowers m path n s t a b keep h g =
    record {
      good = (g.good, h.good);
      on = λ x v.
          ap (term_on m (size_under path n) s) (g.on x v)
          ∙ h.on (under path n b x) (under-keeps m path n b x keep v)
          ∙ sym (under-times m path n a b x keep v);
    }

-- the same operator on vectors
pub lowers-as : (m : ℕ) (path : Path) (n : ℕ) (t : PlainTerm) (a b : Operator) →
    ((y : List ℕ) → IsVector m n y → a y ≡ b y) → Lowers m (size_under path n) t (under path n a) →
    Lowers m (size_under path n) t (under path n b)
lowers-as m path n t a b equal h = record { good = h.good; on = λ x v. h.on x v ∙ under-vector m path n a b x equal v }

-- ---- one tensor more

one-block : (m c n : ℕ) (a : Operator) (y : List ℕ) → c ≡ 1 → IsVector m n y → length (a y) ≡ n →
    on_blocks c n a y ≡ a y
one-block m c n a y one v size =
    let whole : c * n ≡ n = ap (λ z. z * n) one ∙ omega arith in
    ap (λ k. list_below k (λ p. slice_index (a (block n (p / n) y)) (p % n))) whole
    ∙ list_below-same n _ (slice_index (a y)) (λ p below.
    let none : p / n ≡ 0 = quotient-none p n below in
    ap₂ (λ q r. slice_index (a (block n q y)) r) none (mod-eq_of_lt below)
    ∙ ap (λ z. slice_index (a z) p) (vector-fill m n y _ v (λ i within. ap (slice_index y) (omega arith))))
    ∙ sym (fill_by_all (slice_index (a y)) (a y) n 0 size (λ k below. refl)) where
      quotient-none : (p n : ℕ) → p < n → p / n ≡ 0
      quotient-none p n below = div-eq_of_lt below

one-column : (m n c : ℕ) (a : Operator) (y : List ℕ) → c ≡ 1 → IsVector m n y → length (a y) ≡ n →
    on_columns n c a y ≡ a y
one-column m n c a y one v size =
    ap (λ k. on_columns n k a y) one
    ∙ ap (λ k. list_below k (λ p. slice_index (a (column n 1 (p % 1) y)) (p / 1))) (omega arith)
    ∙ list_below-same n _ (slice_index (a y)) (λ p below.
    let none : p % 1 ≡ 0 = mod-one p in
    let same : p / 1 ≡ p = div-one p in
    ap₂ (λ q r. slice_index (a (column n 1 q y)) r) none same
    ∙ ap (λ z. slice_index (a z) p) (vector-fill m n y _ v (λ i within. ap (slice_index y) (omega arith))))
    ∙ sym (fill_by_all (slice_index (a y)) (a y) n 0 size (λ k below. refl))

one-copy : (m : ℕ) (t : Tensor) (n : ℕ) (a : Operator) (y : List ℕ) → count_of t ≡ 1 → IsVector m n y →
    length (a y) ≡ n → one_under t n a y ≡ a y
one-copy m (Blocks c) n a y one v size = one-block m c n a y one v size
one-copy m (Columns c) n a y one v size = one-column m n c a y one v size

pub size-more : (path : Path) (t : Tensor) (n : ℕ) → size_under (one_more path t) n ≡ size_under path (grown t n)
size-more path t n =
    chosen (λ p. size_under p n ≡ size_under path (grown t n)) (count_of t == 1) path (path ++ t ∷ [])
    (λ one. ap (size_under path) (sym (grown-one t n (is-one (count_of t) one)))) (size_under-push path t n)

pub more-under : (m : ℕ) (path : Path) (t : Tensor) (n : ℕ) (a : Operator) (x : List ℕ) →
    ((y : List ℕ) → IsVector m n y → IsVector m n (a y)) → IsVector m (size_under path (grown t n)) x →
    under (one_more path t) n a x ≡ under path (grown t n) (one_under t n a) x
more-under m path t n a x keep v =
    let alone = λ (one : (count_of t == 1) ≡ true).
    let count = is-one (count_of t) one in
    let same = λ (y : List ℕ) (w : IsVector m (grown t n) y).
    let u = subst (λ k. IsVector m k y) (grown-one t n count) w in one-copy m t n a y count u (keep y u).size in
    ap (λ k. under path k a x) (sym (grown-one t n count))
    ∙ sym (under-vector m path (grown t n) (one_under t n a) a x same v) in
    chosen (λ p. under p n a x ≡ under path (grown t n) (one_under t n a) x) (count_of t == 1) path (path ++ t ∷ []) alone
    (under-push path t n a x)

pub more-lowers : (m : ℕ) (path : Path) (t : Tensor) (n : ℕ) (s : PlainTerm) (a : Operator) →
    ((y : List ℕ) → IsVector m n y → IsVector m n (a y)) → Lowers m (size_under (one_more path t) n) s
    (under (one_more path t) n a) →
    Lowers m (size_under path (grown t n)) s (under path (grown t n) (one_under t n a))
more-lowers m path t n s a keep h =
    let e = size-more path t n in
    record {
      good = subst (λ k. IsGoodTerm 0 k s) e h.good;
      on = λ x v. ap (λ k. term_on m k s x) (sym e) ∙ h.on x (subst (λ k. IsVector m k x) (sym e) v) ∙ more-under m path t n a x keep v;
    }
