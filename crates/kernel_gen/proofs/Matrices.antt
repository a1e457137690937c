-- The code of a matrix whose first column is 1.
use Rattle.std.proofs.Common.{◌≡◌, ℕ, zero, suc, ◌+◌, ◌-◌, ◌*◌, ◌%◌, ◌<◌, arith, refl, sym, ap, ap₂, ◌∙◌, List, [], ◌∷◌}
use Rattle.std.proofs.Common.{◌++◌, length, map, mod-lt}
use Rattle.std.specs.Prelude.{slice_index}
use Rattle.std.proofs.Math.Nat.{one-mul}
use Rattle.icode.proofs.SequenceLemmas.Placing.{length-mapped}
use Rattle.operators.specs.Operator.{Operator, matrix_times}
use Rattle.operators.specs.Sum.{sum_below, list_below}
use Rattle.operators.proofs.Lists.{length-list_below}
use Rattle.operators.proofs.Sums.{sum_below-same, sum_below-add}
use Rattle.operators.proofs.Places.{list_below-suc}
use Rattle.kernel_gen.specs.Making.{row_make, matrix_make}
use Rattle.tree_model.specs.KernelCosts.{product_cost, products_cost}
use Rattle.kernel_gen.proofs.Below.{AllBelow}
use Rattle.kernel_gen.proofs.Pieces.{Does, DoesAt, does_at-same, does-same, does-size, does-none, does-beside}
use Rattle.kernel_gen.proofs.Rows.{sum_below-constant}
use Rattle.kernel_gen.proofs.Sums.{dot, sum_on, sum_cost, does-sum}

-- the first term of a sum
sum_below-first : (n : ℕ) (f : ℕ → ℕ) → sum_below (suc n) f ≡ f 0 + sum_below n (λ i. f (suc i))
sum_below-first zero f = omega arith
sum_below-first (suc n) f = let first = sum_below-first n f in omega arith

dot-sum : (e : ℕ → ℕ) (l : ℕ) (xs : List ℕ) → dot e l xs ≡ sum_below (length xs) (λ i. e (l + i) * slice_index xs i)
dot-sum e l [] = refl
dot-sum e l (x ∷ xs) =
    ap₂ (λ a b. a + b) (ap (λ k. e k * x) (omega arith))
    (dot-sum e (l + 1) xs ∙ sum_below-same (length xs) _ _ (λ i below. ap (λ k. e k * slice_index xs i) (omega arith)))
    ∙ sym (sum_below-first (length xs) (λ i. e (l + i) * slice_index (x ∷ xs) i))

cost-sum : (weight m : ℕ) (e : ℕ → ℕ) (l : ℕ) (ins : List ℕ) →
    sum_cost weight m e l ins ≡ length ins + sum_below (length ins) (λ i. product_cost weight m 0 (e (l + i)))
cost-sum weight m e l [] = refl
cost-sum weight m e l (i ∷ ins) =
    let rest : sum_cost weight m e (l + 1) ins ≡ length ins + sum_below (length ins) (λ j. product_cost weight m 0 (e (l + suc j))) =
    cost-sum weight m e (l + 1) ins ∙ ap (λ z. length ins + z) (sum_below-same (length ins) _ _ (λ j below. ap (λ k. product_cost weight m 0 (e k)) (omega arith))) in
    let first = sum_below-first (length ins) (λ j. product_cost weight m 0 (e (l + j))) in
    let head : product_cost weight m 0 (e l) ≡ product_cost weight m 0 (e (l + 0)) = ap (λ k. product_cost weight m 0 (e k)) (omega arith) in
    omega (arith, rest, first, head)

-- one row
abbrev row_on : ℕ → ℕ → (ℕ → ℕ) → Operator
row_on m n e x = (sum_below n (λ l. e l * slice_index x l) % m) ∷ []

abbrev row_cost : ℕ → ℕ → ℕ → (ℕ → ℕ) → ℕ
row_cost weight m n e = (n - 1) + sum_below n (λ l. product_cost weight m 0 (e l))

row-value : (m : ℕ) (e : ℕ → ℕ) (x : ℕ) (xs : List ℕ) → e 0 ≡ 1 →
    sum_on m e 1 (x ∷ xs) ≡ row_on m (suc (length xs)) e (x ∷ xs)
row-value m e x xs one =
    let rest : dot e 1 xs ≡ sum_below (length xs) (λ i. e (suc i) * slice_index xs i) =
    dot-sum e 1 xs ∙ sum_below-same (length xs) _ _ (λ i below. ap (λ k. e k * slice_index xs i) (omega arith)) in
    let first = sum_below-first (length xs) (λ l. e l * slice_index (x ∷ xs) l) in
    let head : e 0 * x ≡ x = ap (λ z. z * x) one ∙ one-mul x in
    ap (λ z. (z % m) ∷ []) (omega (arith, rest, first, head))

row-cost : (weight m : ℕ) (e : ℕ → ℕ) (ins : List ℕ) → e 0 ≡ 1 →
    sum_cost weight m e 1 ins ≡ row_cost weight m (suc (length ins)) e
row-cost weight m e ins one =
    let rest : sum_cost weight m e 1 ins ≡ length ins + sum_below (length ins) (λ i. product_cost weight m 0 (e (suc i))) =
    cost-sum weight m e 1 ins ∙ ap (λ z. length ins + z) (sum_below-same (length ins) _ _ (λ j below. ap (λ k. product_cost weight m 0 (e k)) (omega arith))) in
    let first = sum_below-first (length ins) (λ l. product_cost weight m 0 (e l)) in
    let head : product_cost weight m 0 (e 0) ≡ 0 = ap (product_cost weight m 0) one in
    omega (arith, rest, first, head)

module _ (m weight : ℕ) (positive : 0 < m) where
  does-row : (n : ℕ) (e : ℕ → ℕ) → 0 < n → e 0 ≡ 1 → ((l : ℕ) → e l < m) →
      Does m weight n 1 (row_cost weight m n e) (row_make m e) (row_on m n e)
  does-row n e some one small =
      record { at = at; residues = λ x size residues. (mod-lt _ positive, tt); width = λ x size. refl }
    where
      at : (ins : List ℕ) (next : ℕ) → length ins ≡ n → AllBelow next ins →
          DoesAt m weight 1 (row_cost weight m n e) ins next (row_make m e ins next) (row_on m n e)
      at [] next size under = absurd (omega arith)
      at (i ∷ ins) next size under =
          does_at-same m weight 1 (sum_cost weight m e 1 ins) (row_cost weight m n e) (i ∷ ins) next (row_make m e (i ∷ ins) next) (sum_on m e 1) (row_on m n e)
          (row-cost weight m e ins one ∙ ap (λ k. row_cost weight m k e) size)
          (λ g residues.
          row-value m e (g i) (map g ins) one
          ∙ ap (λ k. row_on m (suc k) e (g i ∷ map g ins)) (length-mapped g ins)
          ∙ ap (λ k. row_on m k e (g i ∷ map g ins)) size)
          (does-sum m weight positive e 1 i ins next small under)

  does-matrix_rows : (n : ℕ) (e : ℕ → ℕ → ℕ) (k : ℕ) → 0 < n → ((i : ℕ) → e i 0 ≡ 1) → ((i l : ℕ) → e i l < m) →
      Does m weight n k (sum_below k (λ i. row_cost weight m n (e i))) (matrix_make m e k)
      (λ x. list_below k (λ i. sum_below n (λ l. e i l * slice_index x l) % m))
  does-matrix_rows n e zero some ones small = does-none m weight n
  does-matrix_rows n e (suc k) some ones small =
      let cost = sum_below (suc k) (λ i. row_cost weight m n (e i)) in
      let first : Operator = λ x. list_below k (λ i. sum_below n (λ l. e i l * slice_index x l) % m) in
      does-same m weight n (suc k) cost cost (matrix_make m e (suc k)) (λ x. first x ++ row_on m n (e k) x) _ refl
      (λ x size residues. sym (list_below-suc k (λ i. sum_below n (λ l. e i l * slice_index x l) % m)))
      (λ x size. length-list_below (suc k) _)
      (does-size m weight n n (k + 1) (suc k) cost (matrix_make m e (suc k)) (λ x. first x ++ row_on m n (e k) x) refl (omega arith)
      (does-beside m weight n k 1 (sum_below k (λ i. row_cost weight m n (e i))) (row_cost weight m n (e k)) (matrix_make m e k) (row_make m (e k)) first (row_on m n (e k))
      (does-matrix_rows n e k some ones small)
      (does-row n (e k) some (ones k) (small k))))

  pub does-matrix : (n : ℕ) (e : ℕ → ℕ → ℕ) → 0 < n → ((i : ℕ) → e i 0 ≡ 1) → ((i l : ℕ) → e i l < m) →
      Does m weight n n (n * (n - 1) + products_cost weight m 0 e n n) (matrix_make m e n) (matrix_times m n e)
  does-matrix n e some ones small =
      does-same m weight n n (sum_below n (λ i. row_cost weight m n (e i))) (n * (n - 1) + products_cost weight m 0 e n n) (matrix_make m e n) (matrix_times m n e) (matrix_times m n e)
      (sum_below-add n (λ _. n - 1) (λ i. sum_below n (λ l. product_cost weight m 0 (e i l))) ∙ ap (λ z. z + products_cost weight m 0 e n n) (sum_below-constant n (n - 1)))
      (λ x size residues. refl) (λ x size. length-list_below n _)
      (does-matrix_rows n e n some ones small)
