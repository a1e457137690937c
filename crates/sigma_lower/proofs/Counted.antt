-- The operations of the term of a formula.
use Rattle.sigma_lower.proofs.Words.{chosen, is-one, ◌==◌, ◌≡◌, ℕ, zero, suc, ◌+◌, ◌-◌, ◌*◌, ◌^◌, ◌<◌, arith, refl, sym}
use Rattle.sigma_lower.proofs.Words.{ap, ap₂, ◌∙◌, [], ◌∷◌, ◌++◌, length, inl, inr, pow-succ', cases_lt, nat_tests, Wht}
use Rattle.sigma_lower.proofs.Words.{IsPowerOfTwo, work_cost, operations, one_more, halvings, hadamard_term}
use Rattle.sigma_lower.proofs.Words.{fourier_term, term_of, Formula, Fourier, Hadamard, Twiddles, Diagonal, Product}
use Rattle.sigma_lower.proofs.Words.{TensorLeft, TensorRight, DirectSum, Pending, size_of, IsShaped, Tensor, Blocks}
use Rattle.sigma_lower.proofs.Words.{Columns, Path, count_of, copies_of, size_under, size_under-copies, leaf, term_cost}
use Rattle.sigma_lower.proofs.Words.{copies_of-push}
use Rattle.tree_model.specs.KernelCosts.{kernel_cost, product_cost}
use Rattle.sigma_lower.proofs.Lowers.{halvings-power, power-above}
use Rattle.sigma_lower.proofs.Parts.{size-more}

copies-more : (path : Path) (t : Tensor) → copies_of (one_more path t) ≡ copies_of path * count_of t
copies-more path t =
    chosen (λ p. copies_of p ≡ copies_of path * count_of t) (count_of t == 1) path (path ++ t ∷ [])
    (λ one. omega (arith, ap (λ c. copies_of path * c) (is-one (count_of t) one))) (copies_of-push path t)

-- ---- WHT

-- of two items: an addition and a subtraction
two-cost : (weight m : ℕ) → kernel_cost weight m Wht (leaf 2) 0 ≡ 2
unfolding lib.Count.ones
two-cost weight m = ap (λ c. 2 + (0 + (0 + 0 + 0) + (0 + 0 + c))) (minus m) ∙ omega arith where
  minus : (m : ℕ) → product_cost weight m 0 (m - 1) ≡ 0
  minus m = grind (arith, nat_tests)

hadamard-step : (c n k inner columns all : ℕ) → inner ≡ c * 2 * (n * k) → columns ≡ c * n * 2 → all ≡ 2 * n →
    inner + columns ≡ c * (all * suc k)
hadamard-step c n k inner columns all e f g =
    let right : c * (2 * n * suc k) ≡ c * 2 * (n * k) + c * n * 2 = omega arith in omega (arith, e, f, right, ap (λ z. c * (z * suc k)) g)

hadamard-cost : (weight m n : ℕ) (path : Path) (k : ℕ) → term_cost weight (work_cost weight m) n (hadamard_term path k)
    ≡ copies_of path * (2 ^ k * k)
hadamard-cost weight m n path zero = omega arith
hadamard-cost weight m n path (suc k) =
    hadamard-step (copies_of path) (2 ^ k) k _ _ (2 ^ suc k)
    (hadamard-cost weight m n (path ++ Blocks 2 ∷ []) k ∙ ap (λ c. c * (2 ^ k * k)) (copies_of-push path (Blocks 2)))
    (ap₂ (λ a b. a * b) (copies-more path (Columns (2 ^ k))) (two-cost weight m))
    (pow-succ' 2 k)

-- ---- formulas

fourier-cost : (weight m : ℕ) (path : Path) (size n w : ℕ) →
    term_cost weight (work_cost weight m) size (fourier_term path n w)
    ≡ copies_of path * operations weight m (Fourier n w)
fourier-cost weight m path size n w =
    elim (cases_lt 8 n) [
      | inl long ↦ grind (arith, nat_tests)
      | inr short ↦ grind (arith, nat_tests)
    ]

scaled-sum : (c k a : ℕ) → c * k * a ≡ c * (k * a)
scaled-sum c k a = omega arith

weighted-items : (weight n c k : ℕ) → n ≡ c * k → weight * n ≡ c * (weight * k)
weighted-items weight n c k is = ap (λ x. weight * x) is ∙ omega arith

lower-cost : (weight m n : ℕ) (path : Path) (f : Formula) → 0 < m → IsShaped f → n ≡ size_under path (size_of f) →
    term_cost weight (work_cost weight m) n (term_of m path f) ≡ copies_of path * operations weight m f
lower-cost weight m n path (Fourier k w) positive shaped is = fourier-cost weight m path n k w
lower-cost weight m n path (Hadamard k) positive shaped is = power shaped.1 where
  power : IsPowerOfTwo k → term_cost weight (work_cost weight m) n (hadamard_term path (halvings k k))
      ≡ copies_of path * (k * halvings k k)
  power (e, whole) =
      let steps : halvings k k ≡ e = ap (λ z. halvings z z) whole ∙ halvings-power e (2 ^ e) (power-above e) in
      ap (λ z. term_cost weight (work_cost weight m) n (hadamard_term path z)) steps ∙ hadamard-cost weight m n path e ∙ ap₂ (λ a b. copies_of path * (a * b)) (sym whole) (sym steps)
lower-cost weight m n path (Twiddles k s w) positive shaped is = weighted-items weight n (copies_of path) k (is ∙ size_under-copies path k)
lower-cost weight m n path (Diagonal c) positive shaped is = weighted-items weight n (copies_of path) (length c) (is ∙ size_under-copies path (length c))
lower-cost weight m n path (Product a b) positive shaped is =
    let first = lower-cost weight m n path a positive shaped.0 is in
    let second = lower-cost weight m n path b positive shaped.1 (is ∙ ap (size_under path) shaped.2) in
    ap₂ (λ x y. x + y) second first ∙ together (copies_of path) (operations weight m b) (operations weight m a) where
      together : (c x y : ℕ) → c * x + c * y ≡ c * (y + x)
      together c x y = omega arith
lower-cost weight m n path (TensorLeft a k) positive shaped is =
    lower-cost weight m n (one_more path (Columns k)) a positive shaped.0 (is ∙ sym (size-more path (Columns k) (size_of a))) ∙ ap (λ c. c * operations weight m a) (copies-more path (Columns k)) ∙ scaled-sum (copies_of path) k (operations weight m a)
lower-cost weight m n path (TensorRight k a) positive shaped is =
    lower-cost weight m n (one_more path (Blocks k)) a positive shaped.1 (is ∙ sym (size-more path (Blocks k) (size_of a))) ∙ ap (λ c. c * operations weight m a) (copies-more path (Blocks k)) ∙ scaled-sum (copies_of path) k (operations weight m a)
lower-cost weight m n path (DirectSum a b) positive shaped is =
    ap₂ (λ x y. copies_of path * (x + y)) (lower-cost weight m (size_of a) [] a positive shaped.0 refl ∙ one (operations weight m a)) (lower-cost weight m (size_of b) [] b positive shaped.1 refl ∙ one (operations weight m b)) where
      one : (x : ℕ) → 1 * x ≡ x
      one x = omega arith
lower-cost weight m n path (Pending a) positive shaped is = lower-cost weight m n path a positive shaped is
lower-cost weight m n path _ positive shaped is = omega arith

-- for each copy under the path
pub lower_counts : (weight m : ℕ) (path : Path) (f : Formula) → 0 < m → IsShaped f →
    term_cost weight (work_cost weight m) (size_under path (size_of f)) (term_of m path f)
    ≡ copies_of path * operations weight m f
lower_counts weight m path f positive shaped = lower-cost weight m (size_under path (size_of f)) path f positive shaped refl
