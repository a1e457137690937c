-- The term of a formula does what the formula does.
use Rattle.sigma_lower.proofs.Words.{chosen, nat_le, ◌≡◌, ℕ, zero, suc, ◌+◌, ◌*◌, ◌-◌, ◌/◌, ◌%◌, ◌<◌, ◌≤◌, ◌^◌, arith}
use Rattle.sigma_lower.proofs.Words.{refl, sym, ap, ap₂, ◌∙◌, List, [], ◌∷◌, ◌++◌, length, inl, inr, subst, mod-lt}
use Rattle.sigma_lower.proofs.Words.{take, drop, mul_comm, map, slice_index, if◌then◌else◌, pow-succ', cases_lt}
use Rattle.sigma_lower.proofs.Words.{nat_tests, length-map, fill_by_all, Mapping, Strided, ThomasIn, ThomasOut, at}
use Rattle.sigma_lower.proofs.Words.{Kind, Dft, Wht, transform, IsPowerOfTwo, gather, scale, on_blocks, on_columns}
use Rattle.sigma_lower.proofs.Words.{stride, list_below-same, IsMove, IsGoodTerm, IsVector, term_on, kernel, horner}
use Rattle.sigma_lower.proofs.Words.{short, list_vector, one_more, halvings, hadamard_term, fourier_term, term_of}
use Rattle.sigma_lower.proofs.Words.{wrapped, Formula, Identity, Fourier, Hadamard, Twiddles, Diagonal, Stride}
use Rattle.sigma_lower.proofs.Words.{Permutation, GoodThomasIn, GoodThomasOut, Product, TensorLeft, TensorRight}
use Rattle.sigma_lower.proofs.Words.{DirectSum, Pending, size_of, IsShaped, shaped_size, Blocks, Columns, Path}
use Rattle.sigma_lower.proofs.Words.{size_under, under, size_under-push, mod-eq_of_lt, length-append, nat_lt, entry_of}
use Rattle.sigma_lower.proofs.Words.{Operator, list_below, under-vector, vector-fill, apply, under-push}
use Rattle.std.proofs.Common.{length-drop}
use Rattle.std.specs.Int.{IsGcd}
use Rattle.std.proofs.Math.Pow.{pow_pos}
use Rattle.std.proofs.lemmas.Nat.{mul-mod_first}
use Rattle.std.proofs.lemmas.List.{get_or-map, length-take-le, get_or-take, get_or-drop, get_or_append_left}
use Rattle.std.proofs.lemmas.List.{get_or-append_right}
use Rattle.matrix_meaning.specs.Laws.{twiddle}
use Rattle.matrix_meaning.proofs.WalshHadamard.{split}
use Rattle.sigma_spl.specs.Copies.{both}
use Rattle.sigma_spl.specs.Nest.{values, twiddles}
use Rattle.sigma_spl.specs.Term.{gath, diag, nest}
use Rattle.sigma_spl.proofs.CopiesMerge.{low, high}
use Rattle.sigma_spl.proofs.Keeps.{under-none, both-equal, front, back, front-vector, back-vector}
use Rattle.sigma_lower.proofs.Moves.{left_positive, move-wrapped, strided-move, in-move, out-move}
use Rattle.sigma_lower.proofs.Parts.{transform-work, nest-lowers, move-lowers, diag-lowers, product-lowers, lowers-as}
use Rattle.sigma_lower.proofs.Parts.{size-more, more-lowers, under-keeps, Lowers}
use Rattle.sigma_lower.proofs.TreeTerms.Lowering.{AreCoprime}
use Rattle.sigma_lower.proofs.TreeTerms.Permuted.{gather-under}
use Rattle.spl_ast.proofs.Vectors.{apply_vector, residue_at}

-- ---- vectors

-- ---- permutations

pub gath-lowers : (m : ℕ) (path : Path) (n : ℕ) (f : Mapping) → 0 < size_under path n → IsMove 0 n f →
    Lowers m (size_under path n) (gath (wrapped path n f)) (under path n (gather n (at f)))
gath-lowers m path n f positive h = record { good = move-wrapped path n f positive h; on = λ x v. sym (gather-under path n f x h.permutes.there_below) }

-- ---- WHT

transform-vector : (m n w : ℕ) (kind : Kind) (y : List ℕ) → 0 < m → IsVector m n (transform kind m n w y)
transform-vector m n w kind y positive = list_vector m n _ (λ i below. mod-lt _ positive)

hadamard-one : (m : ℕ) (y : List ℕ) → IsVector m 1 y → y ≡ transform Wht m 1 0 y
unfolding lib.Count.ones
hadamard-one m y v =
    sym (vector-fill m 1 y _ v (λ i below.
    let first : i ≡ 0 = omega arith in
    let value : 0 + 1 * slice_index y 0 ≡ slice_index y 0 = omega arith in
    subst (λ j. (0 + entry_of Wht m 1 0 j 0 * slice_index y 0) % m ≡ slice_index y j) (sym first)
    (ap (λ s. s % m) value ∙ mod-eq_of_lt (residue_at m 1 y 0 v (omega arith)))))

hadamard-lowers : (m : ℕ) (path : Path) (k : ℕ) → 0 < m → Lowers m (size_under path (2 ^ k)) (hadamard_term path k)
    (under path (2 ^ k) (transform Wht m (2 ^ k) 0))
hadamard-lowers m path zero positive =
    record {
      good = tt;
      on = λ x v. sym (under-vector m path 1 (λ y. y) (transform Wht m 1 0) x (λ y w. hadamard-one m y w) v ∙ sym (under-vector m path 1 (λ y. y) (transform Wht m 1 0) x (λ y w. hadamard-one m y w) v) ∙ under-none m path 1 x v)
          ∙ under-vector m path 1 (λ y. y) (transform Wht m 1 0) x (λ y w. hadamard-one m y w) v;
    }
hadamard-lowers m path (suc k) positive =
    let n = 2 ^ k in
    let twice : 2 ^ suc k ≡ 2 * n = pow-succ' 2 k in
    let inner : Lowers m (size_under (path ++ Blocks 2 ∷ []) n) (hadamard_term (path ++ Blocks 2 ∷ []) k) (under (path ++ Blocks 2 ∷ []) n (transform Wht m n 0)) = hadamard-lowers m (path ++ Blocks 2 ∷ []) k positive in
    let e : size_under (path ++ Blocks 2 ∷ []) n ≡ size_under path (2 * n) = size_under-push path (Blocks 2) n in
    let first : Lowers m (size_under path (2 * n)) (hadamard_term (path ++ Blocks 2 ∷ []) k) (under path (2 * n) (on_blocks 2 n (transform Wht m n 0))) =
    record {
      good = subst (λ z. IsGoodTerm 0 z (hadamard_term (path ++ Blocks 2 ∷ []) k)) e inner.good;
      on = λ x v. ap (λ z. term_on m z (hadamard_term (path ++ Blocks 2 ∷ []) k) x) (sym e) ∙ inner.on x (subst (λ z. IsVector m z x) (sym e) v) ∙ under-push path (Blocks 2) n (transform Wht m n 0) x;
    } in
    let last : Lowers m (size_under path (2 * n)) (nest (one_more path (Columns n)) (kernel (short Wht 0 2))) (under path (2 * n) (on_columns 2 n (transform Wht m 2 0))) =
    more-lowers m path (Columns n) 2 (nest (one_more path (Columns n)) (kernel (short Wht 0 2))) (transform Wht m 2 0) (λ y w. transform-vector m 2 0 Wht y positive)
    (nest-lowers m (one_more path (Columns n)) (kernel (short Wht 0 2)) tt (transform-work Wht m 2 0)) in
    let both_parts = product-lowers m path (2 * n) _ _ (on_columns 2 n (transform Wht m 2 0)) (on_blocks 2 n (transform Wht m n 0)) (λ y w. blocks-vector m 2 n (transform Wht m n 0) y (λ z u. transform-vector m n 0 Wht z positive) w) last first in
    subst (λ z. Lowers m (size_under path z) (hadamard_term path (suc k)) (under path z (transform Wht m z 0))) (sym twice)
    (lowers-as m path (2 * n) (hadamard_term path (suc k)) _ (transform Wht m (2 * n) 0) (λ y w. sym (split m 2 n 0 y positive (k, refl))) both_parts) where
      blocks-vector : (m c n : ℕ) (a : Operator) (y : List ℕ) → ((z : List ℕ) → IsVector m n z → IsVector m n (a z)) →
          IsVector m (c * n) y → IsVector m (c * n) (on_blocks c n a y)
      blocks-vector m c n a y keep v = under-keeps m (Blocks c ∷ []) n a y keep v

halved : (n half b k : ℕ) → 2 ≤ n → n / 2 ≡ half → halvings b half ≡ k → halvings (suc b) n ≡ suc k
halved n half b k two is steps =
    let more : (if nat_lt n 2 then 0 else suc (halvings b (n / 2))) ≡ suc (halvings b (n / 2)) = grind (arith, nat_tests) in more ∙ ap suc (ap (halvings b) is ∙ steps)

pub halvings-power : (k b : ℕ) → k ≤ b → halvings b (2 ^ k) ≡ k
halvings-power zero zero h = refl
halvings-power zero (suc b) h = refl
halvings-power (suc k) zero h = absurd (omega arith)
halvings-power (suc k) (suc b) h =
    let twice : 2 ^ suc k ≡ 2 * 2 ^ k = pow-succ' 2 k in
    let some : 0 < 2 ^ k = pow_pos k in
    let half : 2 ^ suc k / 2 ≡ 2 ^ k = ap (λ z. z / 2) twice ∙ omega arith in
    halved (2 ^ suc k) (2 ^ k) b k (omega (arith, twice, some)) half (halvings-power k b (omega arith))

pub power-above : (k : ℕ) → k ≤ 2 ^ k
power-above zero = omega arith
power-above (suc k) = let twice : 2 ^ suc k ≡ 2 * 2 ^ k = pow-succ' 2 k in let some : 0 < 2 ^ k = pow_pos k in omega (arith, twice, some, power-above k)

-- ---- direct sums

append-fill : (k l : ℕ) (u v : List ℕ) → length u ≡ k → length v ≡ l →
    list_below (k + l) (λ w. if nat_lt w k then slice_index u w else slice_index v (w - k)) ≡ u ++ v
append-fill k l u v p q =
    let whole : length (u ++ v) ≡ k + l = length-append u v ∙ ap₂ (λ a b. a + b) p q in
    list_below-same (k + l) _ (slice_index (u ++ v)) (λ w below.
    elim (cases_lt w k) [
      | inl here ↦ low w k _ _ here ∙ sym (get_or_append_left u v 0 w (omega (arith, p)))
      | inr there ↦ high w k _ _ (omega arith) ∙ sym (get_or-append_right u v k w 0 p (omega arith))
    ])
    ∙ sym (fill_by_all (slice_index (u ++ v)) (u ++ v) (k + l) 0 whole (λ i below. refl))

front-take : (k l : ℕ) (x : List ℕ) → length x ≡ k + l → front k x ≡ take k x
front-take k l x size =
    list_below-same k (slice_index x) (slice_index (take k x)) (λ i below. sym (get_or-take k x i 0 below))
    ∙ sym (fill_by_all (slice_index (take k x)) (take k x) k 0 (length-take-le k x (omega (arith, size))) (λ i below. refl))

back-drop : (k l : ℕ) (x : List ℕ) → length x ≡ k + l → back k l x ≡ drop k x
back-drop k l x size =
    list_below-same l _ (slice_index (drop k x)) (λ i below. sym (get_or-drop k x i 0))
    ∙ sym (fill_by_all (slice_index (drop k x)) (drop k x) l 0 (length-drop k x ∙ ap (λ z. z - k) size ∙ omega arith) (λ i below. refl))

sum-on : (m k l : ℕ) (a b : Operator) (x : List ℕ) → IsVector m (k + l) x → length (a (take k x)) ≡ k →
    length (b (drop k x)) ≡ l → both k l a b x ≡ a (take k x) ++ b (drop k x)
sum-on m k l a b x v p q =
    ap₂ (λ u w. list_below (k + l) (λ i. if nat_lt i k then slice_index (a u) i else slice_index (b w) (i - k))) (front-take k l x v.size) (back-drop k l x v.size)
    ∙ append-fill k l (a (take k x)) (b (drop k x)) p q

-- ---- formulas

fourier-lowers : (m : ℕ) (path : Path) (n w : ℕ) → Lowers m (size_under path n) (fourier_term path n w)
    (under path n (transform Dft m n w))
fourier-lowers m path n w =
    chosen (λ t. Lowers m (size_under path n) t (under path n (transform Dft m n w))) (nat_le n 8)
    (nest path (kernel (short Dft w n))) (nest path (horner w n))
    (λ few. nest-lowers m path (kernel (short Dft w n)) tt (transform-work Dft m n w))
    (nest-lowers m path (horner w n) tt (transform-work Dft m n w))

-- a diagonal's values count modulo m
residues-scale : (m : ℕ) (c y : List ℕ) → scale m (length c) (slice_index (map (λ v. v % m) c)) y ≡ scale m (length c)
    (slice_index c) y
residues-scale m c y = list_below-same (length c) _ _ (λ i below. ap (λ v. (v * slice_index y i) % m) (get_or-map (λ v. v % m) c i 0 0 below) ∙ mul-mod_first (slice_index c i) (slice_index y i) m)

diagonal-lowers : (m : ℕ) (path : Path) (c : List ℕ) → Lowers m (size_under path (length c))
    (diag path (values (map (λ v. v % m) c))) (under path (length c) (scale m (length c) (slice_index c)))
diagonal-lowers m path c =
    let reduced : List ℕ = map (λ v. v % m) c in
    let size : length reduced ≡ length c = length-map c (λ v. v % m) in
    lowers-as m path (length c) (diag path (values reduced)) (scale m (length c) (slice_index reduced)) (scale m (length c) (slice_index c)) (λ y w. residues-scale m c y)
    (subst (λ n. Lowers m (size_under path n) (diag path (values reduced)) (under path n (scale m n (slice_index reduced)))) size (diag-lowers m path (values reduced)))

pub coprime : (r s : ℕ) → 2 ≤ r → 2 ≤ s → IsGcd r s 1 → r * s ≤ 1048576 → AreCoprime r s
coprime r s h g gcd small = record { left = omega arith; right = omega arith; gcd = gcd; small = small }

pub lowers : (m : ℕ) (path : Path) (f : Formula) → 0 < m → 0 < size_under path (size_of f) → IsShaped f →
    Lowers m (size_under path (size_of f)) (term_of m path f) (under path (size_of f) (apply m f))
lowers m path (Identity n) positive some shaped = record { good = tt; on = λ x v. sym (under-none m path n x v) }
lowers m path (Fourier n w) positive some shaped = fourier-lowers m path n w
lowers m path (Hadamard n) positive some shaped = power shaped.1 where
  power : IsPowerOfTwo n → Lowers m (size_under path n) (hadamard_term path (halvings n n))
      (under path n (transform Wht m n 0))
  power (k, is) =
      let steps : halvings n n ≡ k = ap (λ z. halvings z z) is ∙ halvings-power k (2 ^ k) (power-above k) in
      subst (λ z. Lowers m (size_under path n) (hadamard_term path z) (under path n (transform Wht m n 0))) (sym steps)
      (subst (λ z. Lowers m (size_under path z) (hadamard_term path k) (under path z (transform Wht m z 0))) (sym is) (hadamard-lowers m path k positive))
lowers m path (Twiddles n s w) positive some shaped =
    subst (λ z. Lowers m (size_under path z) (diag path (twiddles (n / s) s w)) (under path z (scale m z (twiddle m s w)))) shaped.2 (diag-lowers m path (twiddles (n / s) s w))
lowers m path (Diagonal c) positive some shaped = diagonal-lowers m path c
lowers m path (Stride n r) positive some shaped =
    let whole : r * (n / r) ≡ n = mul_comm r (n / r) ∙ shaped.2 in
    let count : 1 ≤ n / r = left_positive (n / r) r (omega (arith, shaped.2, shaped.0.0)) in
    let high : r * (n / r) ≤ 1048576 = omega (arith, whole, shaped.0.1) in
    subst (λ z. Lowers m (size_under path z) (gath (wrapped path (r * (n / r)) (Strided r (n / r)))) (under path z (gather z (stride r (n / r))))) whole
    (gath-lowers m path (r * (n / r)) (Strided r (n / r)) (subst (λ z. 0 < size_under path z) (sym whole) some) (strided-move r (n / r) shaped.1.0 count high))
lowers m path (Permutation k) positive some shaped = move-lowers m path k shaped.1.below
lowers m path (GoodThomasIn r s) positive some shaped = gath-lowers m path (r * s) (ThomasIn r s) some (in-move r s (coprime r s shaped.1.first shaped.1.second shaped.1.coprime shaped.0.1))
lowers m path (GoodThomasOut r s) positive some shaped = gath-lowers m path (r * s) (ThomasOut r s) some (out-move r s (coprime r s shaped.1.first shaped.1.second shaped.1.coprime shaped.0.1))
lowers m path (Product a b) positive some shaped =
    let size : size_of a ≡ size_of b = shaped.2 in
    let second : Lowers m (size_under path (size_of a)) (term_of m path b) (under path (size_of a) (apply m b)) =
    subst (λ z. Lowers m (size_under path z) (term_of m path b) (under path z (apply m b))) (sym size) (lowers m path b positive (subst (λ z. 0 < size_under path z) size some) shaped.1) in
    product-lowers m path (size_of a) (term_of m path a) (term_of m path b) (apply m a) (apply m b) (λ y w. subst (λ z. IsVector m z (apply m b y)) (sym size) (apply_vector m b y shaped.1 (subst (λ z. IsVector m z y) size w)))
    (lowers m path a positive some shaped.0) second
lowers m path (TensorLeft a k) positive some shaped =
    more-lowers m path (Columns k) (size_of a) (term_of m (one_more path (Columns k)) a) (apply m a) (λ y w. apply_vector m a y shaped.0 w)
    (lowers m (one_more path (Columns k)) a positive (subst (λ z. 0 < z) (sym (size-more path (Columns k) (size_of a))) some) shaped.0)
lowers m path (TensorRight k a) positive some shaped =
    more-lowers m path (Blocks k) (size_of a) (term_of m (one_more path (Blocks k)) a) (apply m a) (λ y w. apply_vector m a y shaped.1 w)
    (lowers m (one_more path (Blocks k)) a positive (subst (λ z. 0 < z) (sym (size-more path (Blocks k) (size_of a))) some) shaped.1)
lowers m path (DirectSum a b) positive some shaped =
    let k = size_of a in
    let l = size_of b in
    let first = lowers m [] a positive (shaped_size a shaped.0) shaped.0 in
    let second = lowers m [] b positive (shaped_size b shaped.1) shaped.1 in
    record {
      good = (shaped_size a shaped.0, shaped_size b shaped.1, refl, first.good, second.good);
      on = λ x v.
          under-vector m path (k + l) (both k l (term_on m k (term_of m [] a)) (term_on m l (term_of m [] b))) (apply m (DirectSum a b)) x (λ y w.
          let front_is : IsVector m k (take k y) = subst (IsVector m k) (front-take k l y w.size) (front-vector m k l y w) in
          let back_is : IsVector m l (drop k y) = subst (IsVector m l) (back-drop k l y w.size) (back-vector m k l y w) in
          both-equal k l (term_on m k (term_of m [] a)) (term_on m l (term_of m [] b)) (apply m a) (apply m b) y (first.on (front k y) (front-vector m k l y w)) (second.on (back k l y) (back-vector m k l y w))
          ∙ sum-on m k l (apply m a) (apply m b) y w (apply_vector m a (take k y) shaped.0 front_is).size (apply_vector m b (drop k y) shaped.1 back_is).size) v;
    }
lowers m path (Pending a) positive some shaped = lowers m path a positive some shaped
