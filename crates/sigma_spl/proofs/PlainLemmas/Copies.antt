-- A loop over copies is the matrix of one copy under the tensors of its path.
use Rattle.std.proofs.Common.{◌≡◌, ℕ, ◌+◌, ◌-◌, ◌*◌, ◌/◌, ◌%◌, ◌<◌, List, ◌++◌, length, take, drop, arith, refl, sym}
use Rattle.std.proofs.Common.{ap, ap₂, ◌∙◌, subst, mod-eq_of_lt, length-drop}
use Rattle.std.specs.Prelude.{slice_index, map, nat_lt, if◌then◌else◌}
use Rattle.std.proofs.lemmas.List.{length-take-le, get_or-take, get_or-drop}
use Rattle.std.proofs.lemmas.List.FromFn.{fill_by_all}
use Rattle.std.proofs.lemmas.Nat.{div_below}
use Rattle.matrix_meaning.specs.declared.Kind.TheVariants.{Dft}
use Rattle.matrix_meaning.specs.Kind.{entry_of, transform}
use Rattle.operators.specs.Identities.{HasSize}
use Rattle.operators.specs.Operator.{Operator, gather, matrix_times, on_blocks, on_columns, stride}
use Rattle.operators.specs.Sum.{list_below}
use Rattle.operators.proofs.Lists.{length-list_below, at-list_below, list_below-same, place_below, factor_positive}
use Rattle.operators.proofs.Places.{list_below-append, stride_below}
use Rattle.operators.proofs.Sums.{sum_below-same}
use Rattle.sigma_spl.specs.Copies.{loops_of, both}
use Rattle.sigma_spl.specs.Good.{AreBelow}
use Rattle.sigma_spl.specs.Term.{PlainTerm, same, gath, scat, diag, nest, move, product, beside, term_on}
use Rattle.sigma_spl.specs.Work.{PlainWork, kernel, rows, horner, tile, copy, trees_of, work_size, work_on}
use Rattle.sigma_spl.proofs.CopiesMerge.{low, high}
use Rattle.sigma_spl.proofs.Moved.{at-below}
use Rattle.sigma_spl.proofs.Natural.{at-natural}
use Rattle.sigma_spl.specs.Plain.Copies.{copy_size, copy_on}
use Rattle.sigma_spl.specs.Plain.Shape.{Fits}
use Rattle.sigma_spl.proofs.PlainLemmas.Vectors.{Keeps, reduced, under_keeps, trees_keep, term_vector}
use Rattle.tree_model.specs.Trees.{PlainTrees, single, tensor, trees_size, trees_on}
use Rattle.spl_ast.specs.Meaning.{IsVector}
use Rattle.spl_ast.proofs.Vectors.{residue_at, list_vector, take_vector, drop_vector}
use Rattle.operators.specs.Paths.Loop.{loop_at}
use Rattle.operators.specs.Paths.Tensors.{Path, count_of, size_under, under, place, local, AreInRange, Reads}
use Rattle.operators.proofs.PathLemmas.PathPlaces.{at-under}
use Rattle.tree_model.specs.Breakdown.{Breakdown, size_of}
use Rattle.tree_model.specs.Whole.{rooted_of}
use Rattle.tree_model.proofs.RootedTrees.{rooted_size}
use Rattle.matrix_meaning.specs.declared.Request.{Request}

-- ---- the items that are looked at

pub copied : (n : ℕ) (x : List ℕ) → length x ≡ n → x ≡ list_below n (slice_index x)
copied n x long = fill_by_all (slice_index x) x n 0 long (λ i below. refl)

matrix_reads : (m n : ℕ) (e : ℕ → ℕ → ℕ) → Reads n (matrix_times m n e)
matrix_reads m n e x = list_below-same n _ _ (λ k below. ap (λ s. s % m) (sum_below-same n _ _ (λ l within. ap (λ z. e k l * z) (at-list_below n (slice_index x) l within))))

blocks_read : (r s : ℕ) (a : Operator) → Reads (r * s) (on_blocks r s a)
blocks_read r s a x =
    list_below-same (r * s) _ _ (λ p below.
    let some : 0 < s = factor_positive r s p below in
    ap (λ y. slice_index (a y) (p % s)) (list_below-same s _ _ (λ j within. at-list_below (r * s) (slice_index x) (p / s * s + j) (place_below (p / s) j r s (div_below p s r some below) within))))

trees_read : (m : ℕ) (trees : PlainTrees) → Reads (trees_size trees) (trees_on m trees)
trees_read m (single kind root tree) x = matrix_reads m (size_of tree) (entry_of kind m (size_of tree) root) x
trees_read m (tensor kind root tree others) x = ap (on_columns (size_of tree) (trees_size others) (transform kind m (size_of tree) root)) (blocks_read (size_of tree) (trees_size others) (trees_on m others) x)

pub gather_reads : (n : ℕ) (f : ℕ → ℕ) → ((i : ℕ) → i < n → f i < n) → Reads n (gather n f)
gather_reads n f inside x = list_below-same n _ _ (λ i below. at-list_below n (slice_index x) (f i) (inside i below))

turn_inside : (v i : ℕ) → i < v * v → stride v v i < v * v
turn_inside v i below = (stride_below v v i below).1

work_reads : (m : ℕ) (w : PlainWork) → Reads (work_size w) (work_on m w)
work_reads m (kernel k) x = trees_read m (trees_of k) x
work_reads m (rows root size) x = matrix_reads m size (entry_of Dft m size root) x
work_reads m (horner root size) x = matrix_reads m size (entry_of Dft m size root) x
work_reads m (tile lanes) x = gather_reads (lanes * lanes) (stride lanes lanes) (turn_inside lanes) x
work_reads m (copy size) x = list_below-same size _ _ (λ i below. at-list_below size (slice_index x) i below)

-- ---- what is made of them

gather_keeps : (m n : ℕ) (f : ℕ → ℕ) → ((i : ℕ) → i < n → f i < n) → Keeps m n (gather n f)
gather_keeps m n f inside x v = list_vector m n _ (λ i below. residue_at m n x (f i) v (inside i below))

work_keeps : (m : ℕ) (w : PlainWork) → Keeps m (work_size w) (work_on m w)
work_keeps m (kernel k) x v = trees_keep m (trees_of k) x v
work_keeps m (rows root size) x v = reduced m size x _ v
work_keeps m (horner root size) x v = reduced m size x _ v
work_keeps m (tile lanes) x v = gather_keeps m (lanes * lanes) (stride lanes lanes) (turn_inside lanes) x v
work_keeps m (copy size) x v = list_vector m size _ (λ i below. residue_at m size x i v below)

pub trees_sized : (m : ℕ) (trees : PlainTrees) → HasSize (trees_size trees) (trees_on m trees)
trees_sized m (single kind root tree) x = length-list_below (size_of tree) _
trees_sized m (tensor kind root tree others) x = length-list_below (size_of tree * trees_size others) _

pub rooted_sized : (m : ℕ) (p : Request) (t : Breakdown) → HasSize (size_of t) (trees_on m (rooted_of p t))
rooted_sized m p t x = trees_sized m (rooted_of p t) x ∙ rooted_size p t

work_sized : (m : ℕ) (w : PlainWork) → HasSize (work_size w) (work_on m w)
work_sized m (kernel k) x = trees_sized m (trees_of k) x
work_sized m (rows root size) x = length-list_below size _
work_sized m (horner root size) x = length-list_below size _
work_sized m (tile lanes) x = length-list_below (lanes * lanes) _
work_sized m (copy size) x = length-list_below size _

pub copy_sized : (m : ℕ) (t : PlainTerm) → HasSize (copy_size t) (copy_on m t)
copy_sized m same x = refl
copy_sized m (gath f) x = refl
copy_sized m (scat f) x = refl
copy_sized m (diag path factors) x = refl
copy_sized m (nest path w) x = work_sized m w x
copy_sized m (move path ks) x = length-list_below (length ks) _
copy_sized m (product a b) x = refl
copy_sized m (beside path k a l b) x = length-list_below (k + l) _

-- ---- loops

under_loops : (m n : ℕ) (path : Path) (d : ℕ) (a : Operator) (x : List ℕ) (worth : List ℕ → ℕ → ℕ) → Reads d a →
    size_under path d ≡ n → IsVector m n (under path d a x) →
    ((vs : List ℕ) (k : ℕ) → AreInRange path vs → k < d → worth vs k ≡ slice_index (a (local path d vs x)) k) →
    under path d a x ≡ list_below n (λ w. (loop_at (loops_of (map count_of path)) d (place path d) worth w + 0) % m)
under_loops m n path d a x worth reads size v alike =
    copied n (under path d a x) v.size
    ∙ list_below-same n _ _ (λ w below.
    sym (at-natural path d w worth (λ s. (s + 0) % m ≡ slice_index (under path d a x) w) (subst (λ z. w < z) (sym size) below) (λ vs k range within there.
    ap (λ s. (s + 0) % m) (alike vs k range within ∙ sym (at-under path d a x vs k reads range within) ∙ ap (slice_index (under path d a x)) there)
    ∙ ap (λ s. s % m) (omega arith)
    ∙ mod-eq_of_lt (residue_at m n (under path d a x) w v below))))

under_vector : (m n : ℕ) (path : Path) (d : ℕ) (a : Operator) (x : List ℕ) → Keeps m d a → size_under path d ≡ n →
    IsVector m n x → IsVector m n (under path d a x)
under_vector m n path d a x keep size v = subst (λ z. IsVector m z (under path d a x)) size (under_keeps m path d a keep x (subst (λ z. IsVector m z x) (sym size) v))

pub nest_under : (m n : ℕ) (path : Path) (w : PlainWork) (x : List ℕ) → size_under path (work_size w) ≡ n →
    IsVector m n x → under path (work_size w) (work_on m w) x ≡ term_on m n (nest path w) x
nest_under m n path w x size v =
    under_loops m n path (work_size w) (work_on m w) x _ (work_reads m w) size (under_vector m n path (work_size w) (work_on m w) x (work_keeps m w) size v) (λ vs k range within. refl)

pub move_under : (m n : ℕ) (path : Path) (ks : List ℕ) (x : List ℕ) → AreBelow (length ks) ks →
    size_under path (length ks) ≡ n → IsVector m n x →
    under path (length ks) (gather (length ks) (slice_index ks)) x ≡ term_on m n (move path ks) x
move_under m n path ks x below size v =
    let d = length ks in
    let inside : (i : ℕ) → i < d → slice_index ks i < d = λ i within. at-below d ks i below within in
    under_loops m n path d (gather d (slice_index ks)) x _ (gather_reads d (slice_index ks) inside) size (under_vector m n path d (gather d (slice_index ks)) x (gather_keeps m d (slice_index ks) inside) size v)
    (λ vs k range within.
    at-list_below d _ k within
    ∙ at-list_below d _ k within
    ∙ sym (at-list_below d (λ j. slice_index x (place path d vs j)) (slice_index ks k) (inside k within))
    ∙ sym (at-list_below d _ k within))

-- ---- two parts

front_is : (k l : ℕ) (x : List ℕ) → length x ≡ k + l → take k x ≡ list_below k (slice_index x)
front_is k l x long = fill_by_all (slice_index x) (take k x) k 0 (length-take-le k x (omega (arith, long))) (λ i below. get_or-take k x i 0 below)

back_is : (k l : ℕ) (x : List ℕ) → length x ≡ k + l → drop k x ≡ list_below l (λ j. slice_index x (k + j))
back_is k l x long = fill_by_all (λ j. slice_index x (k + j)) (drop k x) l 0 (omega (arith, length-drop k x, long)) (λ i below. get_or-drop k x i 0)

joined : (k l : ℕ) (u v : List ℕ) → length u ≡ k → length v ≡ l →
    u ++ v ≡ list_below (k + l) (λ w. if nat_lt w k then slice_index u w else slice_index v (w - k))
joined k l u v first second =
    let f : ℕ → ℕ = λ w. if nat_lt w k then slice_index u w else slice_index v (w - k) in
    ap₂ (λ p q. p ++ q)
    (copied k u first ∙ list_below-same k _ f (λ w below. sym (low w k _ _ below)))
    (copied l v second ∙ list_below-same l _ (λ j. f (k + j)) (λ j below. sym (high (k + j) k _ _ (omega arith) ∙ ap (slice_index v) (omega arith))))
    ∙ sym (list_below-append k l f)

pub both_joined : (k l : ℕ) (a b : Operator) (x u v : List ℕ) → length x ≡ k + l → length u ≡ k → length v ≡ l →
    u ≡ a (take k x) → v ≡ b (drop k x) → u ++ v ≡ both k l a b x
both_joined k l a b x u v long first second u_is v_is =
    joined k l u v first second
    ∙ ap₂ (λ p q. list_below (k + l) (λ w. if nat_lt w k then slice_index p w else slice_index q (w - k))) (u_is ∙ ap a (front_is k l x long)) (v_is ∙ ap b (back_is k l x long))

-- ---- from equations

pub nest_times : (m n : ℕ) (t : PlainTerm) (path p : Path) (w : PlainWork) (x y : List ℕ) → t ≡ nest path w → p ≡ path →
    Fits n t → IsVector m n x → y ≡ under p (copy_size t) (copy_on m t) x → y ≡ term_on m n t x
nest_times m n t path p w x y is taken fits v e =
    let P : PlainTerm → Type 0 = λ s. Fits n s → y ≡ under p (copy_size s) (copy_on m s) x → y ≡ term_on m n s x in
    subst P (sym is) (λ h f. f ∙ ap (λ q. under q (work_size w) (work_on m w) x) taken ∙ nest_under m n path w x h.1 v) fits e

pub move_times : (m n : ℕ) (t : PlainTerm) (path p : Path) (ks : List ℕ) (x y : List ℕ) → t ≡ move path ks → p ≡ path →
    Fits n t → IsVector m n x → y ≡ under p (copy_size t) (copy_on m t) x → y ≡ term_on m n t x
move_times m n t path p ks x y is taken fits v e =
    let P : PlainTerm → Type 0 = λ s. Fits n s → y ≡ under p (copy_size s) (copy_on m s) x → y ≡ term_on m n s x in
    subst P (sym is) (λ h f. f ∙ ap (λ q. under q (length ks) (gather (length ks) (slice_index ks)) x) taken ∙ move_under m n path ks x h.0 h.1 v) fits e

pub parts_joined : (m k l : ℕ) (a b : PlainTerm) (x front back u v out : List ℕ) → IsVector m (k + l) x → Fits k a →
    Fits l b → front ≡ take k x → back ≡ drop k x → u ≡ term_on m k a front → v ≡ term_on m l b back →
    out ≡ u ++ v → out ≡ both k l (term_on m k a) (term_on m l b) x
parts_joined m k l a b x front back u v out whole fits_a fits_b is_front is_back is_u is_v joined =
    let first = is_u ∙ ap (term_on m k a) is_front in
    let second = is_v ∙ ap (term_on m l b) is_back in
    joined
    ∙ both_joined k l (term_on m k a) (term_on m l b) x u v whole.size
    (ap length first ∙ (term_vector m k a (take k x) fits_a (take_vector m k l x whole)).size)
    (ap length second ∙ (term_vector m l b (drop k x) fits_b (drop_vector m k l x whole)).size)
    first second
