-- A formula takes residues to residues.
use Rattle.std.proofs.Common.{◌≡◌, ℕ, ◌+◌, ◌-◌, ◌*◌, ◌/◌, ◌%◌, ◌<◌, ◌≤◌, List, ◌++◌, take, drop, sym, subst, arith}
use Rattle.std.proofs.Common.{length, ⊎_elim, length-append, length-drop}
use Rattle.std.specs.Prelude.{slice_index}
use Rattle.std.proofs.lemmas.List.{length-take-le, get_or-take, get_or-drop, get_or_append_left, get_or-append_right}
use Rattle.std.proofs.lemmas.List.Elements.{All-get_or, All-from_get_or}
use Rattle.std.proofs.lemmas.Bool.{cases_lt}
use Rattle.std.proofs.lemmas.Nat.{mod_below, div_below}
use Rattle.operators.specs.Operator.{column, block, stride}
use Rattle.operators.specs.Sum.{list_below}
use Rattle.operators.proofs.Lists.{length-list_below, at-list_below, place_below, factor_positive}
use Rattle.spl_ast.specs.Formula.{Formula, Identity, Fourier, Hadamard, Twiddles, Diagonal, Stride, Permutation}
use Rattle.spl_ast.specs.Formula.{GoodThomasIn, GoodThomasOut, Product, TensorLeft, TensorRight, DirectSum, Pending}
use Rattle.spl_ast.specs.Formula.{size_of}
use Rattle.spl_ast.specs.Meaning.{apply, IsVector}
use Rattle.spl_ast.specs.Shape.{IsShaped, IsSize}

-- a shaped formula has a row
pub shaped_size : (f : Formula) → IsShaped f → 0 < size_of f
shaped_size (Identity n) h = omega arith
shaped_size (Fourier n w) h = omega arith
shaped_size (Hadamard n) h = omega arith
shaped_size (Twiddles n s w) h = omega arith
shaped_size (Diagonal c) h = omega arith
shaped_size (Stride n r) h = omega arith
shaped_size (Permutation k) h = omega arith
shaped_size (GoodThomasIn r s) h = omega arith
shaped_size (GoodThomasOut r s) h = omega arith
shaped_size (Product a b) h = shaped_size a h.0
shaped_size (TensorLeft a k) h = omega arith
shaped_size (TensorRight k a) h = omega arith
shaped_size (DirectSum a b) h = omega (arith, shaped_size a h.0)
shaped_size (Pending a) h = shaped_size a h

pub size_is_size : (f : Formula) → IsShaped f → IsSize (size_of f)
size_is_size (Identity n) h = h
size_is_size (Fourier n w) h = h.0
size_is_size (Hadamard n) h = h.0
size_is_size (Twiddles n s w) h = h.0
size_is_size (Diagonal c) h = h.0
size_is_size (Stride n r) h = h.0
size_is_size (Permutation k) h = h.0
size_is_size (GoodThomasIn r s) h = h.0
size_is_size (GoodThomasOut r s) h = h.0
size_is_size (Product a b) h = size_is_size a h.0
size_is_size (TensorLeft a k) h = h.2
size_is_size (TensorRight k a) h = h.2
size_is_size (DirectSum a b) h = h.2
size_is_size (Pending a) h = size_is_size a h

pub residue_at : (m n : ℕ) (x : List ℕ) (i : ℕ) → IsVector m n x → i < n → slice_index x i < m
residue_at m n x i v h = All-get_or (λ (r : ℕ). r < m) x i 0 (omega (arith, v.size)) v.residues

pub vector_of : (m n : ℕ) (x : List ℕ) → length x ≡ n → ((i : ℕ) → i < n → slice_index x i < m) → IsVector m n x
vector_of m n x long below =
    record {
      size = long;
      residues = All-from_get_or (λ (r : ℕ). r < m) x 0 (λ i h. below i (omega (arith, long)));
    }

pub list_vector : (m n : ℕ) (f : ℕ → ℕ) → ((i : ℕ) → i < n → f i < m) → IsVector m n (list_below n f)
list_vector m n f below =
    vector_of m n (list_below n f) (length-list_below n f)
    (λ i h. let P : ℕ → Type 0 = λ v. v < m in subst P (sym (at-list_below n f i h)) (below i h))

-- a residue is below a modulus that is not 0
positive : (m n : ℕ) (x : List ℕ) → IsVector m n x → {i : ℕ} → i < n → 0 < m
positive m n x v {i} h = omega (arith, residue_at m n x i v h)

pub column_vector : (m r k j : ℕ) (x : List ℕ) → j < k → IsVector m (r * k) x → IsVector m r (column r k j x)
column_vector m r k j x h v = list_vector m r _ (λ i l. residue_at m (r * k) x (i * k + j) v (place_below i j r k l h))

pub block_vector : (m k r j : ℕ) (x : List ℕ) → j < k → IsVector m (k * r) x → IsVector m r (block r j x)
block_vector m k r j x h v = list_vector m r _ (λ i l. residue_at m (k * r) x (j * r + i) v (place_below j i k r h l))

pub take_vector : (m a b : ℕ) (x : List ℕ) → IsVector m (a + b) x → IsVector m a (take a x)
take_vector m a b x v =
    let len : a ≤ length x = omega (arith, v.size) in
    vector_of m a (take a x) (length-take-le a x len)
    (λ i h. let P : ℕ → Type 0 = λ n. n < m in subst P (sym (get_or-take a x i 0 h)) (residue_at m (a + b) x i v (omega arith)))

pub drop_vector : (m a b : ℕ) (x : List ℕ) → IsVector m (a + b) x → IsVector m b (drop a x)
drop_vector m a b x v =
    vector_of m b (drop a x) (omega (arith, length-drop a x, v.size))
    (λ i h. let P : ℕ → Type 0 = λ n. n < m in subst P (sym (get_or-drop a x i 0)) (residue_at m (a + b) x (a + i) v (omega arith)))

pub append_vector : (m a b : ℕ) (x y : List ℕ) → IsVector m a x → IsVector m b y → IsVector m (a + b) (x ++ y)
append_vector m a b x y v w =
    vector_of m (a + b) (x ++ y) (omega (arith, length-append x y, v.size, w.size))
    (λ i h. let P : ℕ → Type 0 = λ n. n < m in
    ⊎_elim
    (λ l. subst P (sym (get_or_append_left x y 0 i (omega (arith, v.size)))) (residue_at m a x i v l))
    (λ l. subst P (sym (get_or-append_right x y a i 0 v.size l)) (residue_at m b y (i - a) w (omega arith)))
    (cases_lt i a))

-- the places of a stride permutation
pub stride_place : (n r i : ℕ) → 0 < r → (n / r) * r ≡ n → i < n → stride r (n / r) i < n
stride_place n r i pos e h =
    let s = n / r in
    let lt : i < r * s = omega arith in
    let s_pos : 0 < s = factor_positive r s i lt in
    let col : i / s < r = div_below i s r s_pos lt in
    let row : i % s < s = mod_below i s s_pos in
    omega (arith, place_below (i % s) (i / s) s r row col)

pub apply_vector : (m : ℕ) (f : Formula) (x : List ℕ) → IsShaped f → IsVector m (size_of f) x →
    IsVector m (size_of f) (apply m f x)
apply_vector m (Identity n) x s v = v
apply_vector m (Fourier n w) x s v = list_vector m n _ (λ i h. mod_below _ m (positive m n x v h))
apply_vector m (Hadamard n) x s v = list_vector m n _ (λ i h. mod_below _ m (positive m n x v h))
apply_vector m (Twiddles n r w) x s v = list_vector m n _ (λ i h. mod_below _ m (positive m n x v h))
apply_vector m (Diagonal c) x s v = list_vector m (length c) _ (λ i h. mod_below _ m (positive m (length c) x v h))
apply_vector m (Stride n r) x s v = list_vector m n _ (λ i h. residue_at m n x _ v (stride_place n r i (omega (arith, s.1.0)) s.2 h))
apply_vector m (Permutation k) x s v = list_vector m (length k) _ (λ i h. residue_at m (length k) x _ v (s.1.below i h))
apply_vector m (GoodThomasIn r c) x s v = list_vector m (r * c) _ (λ i h. residue_at m (r * c) x _ v (mod_below _ (r * c) (omega (arith, s.0.0))))
apply_vector m (GoodThomasOut r c) x s v =
    list_vector m (r * c) _ (λ i h. residue_at m (r * c) x _ v (place_below (i % r) (i % c) r c (mod_below i r (omega (arith, s.1.first))) (mod_below i c (omega (arith, s.1.second)))))
apply_vector m (Product a b) x s v =
    let e : size_of a ≡ size_of b = s.2 in
    let y : IsVector m (size_of b) x = subst (λ (n : ℕ). IsVector m n x) e v in
    apply_vector m a (apply m b x) s.0 (subst (λ (n : ℕ). IsVector m n (apply m b x)) (sym e) (apply_vector m b x s.1 y))
apply_vector m (TensorLeft a k) x s v =
    list_vector m (size_of a * k) _
    (λ p h.
    let pos : 0 < k = omega (arith, s.1.0) in
    residue_at m (size_of a) _ (p / k)
    (apply_vector m a (column (size_of a) k (p % k) x) s.0 (column_vector m (size_of a) k (p % k) x (mod_below p k pos) v)) (div_below p k (size_of a) pos h))
apply_vector m (TensorRight k a) x s v =
    list_vector m (k * size_of a) _
    (λ p h.
    let r = size_of a in
    let pos : 0 < r = shaped_size a s.1 in
    residue_at m r _ (p % r)
    (apply_vector m a (block r (p / r) x) s.1 (block_vector m k r (p / r) x (div_below p r k pos h) v)) (mod_below p r pos))
apply_vector m (DirectSum a b) x s v =
    append_vector m (size_of a) (size_of b) _ _
    (apply_vector m a _ s.0 (take_vector m (size_of a) (size_of b) x v))
    (apply_vector m b _ s.1 (drop_vector m (size_of a) (size_of b) x v))
apply_vector m (Pending a) x s v = apply_vector m a x s v
