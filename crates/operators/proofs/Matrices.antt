-- The laws of `matrix_times`.
use Rattle.std.proofs.Common.{◌≡◌, ℕ, ◌+◌, ◌*◌, ◌/◌, ◌%◌, ◌<◌, refl, sym, ap, ap₂, ◌∙◌, List, mul_assoc}
use Rattle.std.specs.Prelude.{slice_index}
use Rattle.std.proofs.lemmas.Nat.{mul-mod_second}
use Rattle.ring_mod.proofs.Congruence.{same-mul}
use Rattle.operators.specs.Operator.{matrix_times, column, block, on_columns, on_blocks}
use Rattle.operators.specs.Sum.{sum_below}
use Rattle.operators.proofs.Sums.{sum_below-same, sum_below-rows, mul-sum_below, same-sum_below}
use Rattle.operators.proofs.Lists.{at-list_below, list_below-same, list_below-same_rows, at-on_blocks, row-of}
use Rattle.operators.proofs.Lists.{column-of}

pub at-matrix_times : (m n : ℕ) (e : ℕ → ℕ → ℕ) (x : List ℕ) (k : ℕ) → k < n →
    slice_index (matrix_times m n e x) k ≡ sum_below n (λ l. e k l * slice_index x l) % m
at-matrix_times m n e x k below = at-list_below n (λ i. sum_below n (λ l. e i l * slice_index x l) % m) k below

-- matrices with the same entries modulo m
pub matrix_times-same : (m n : ℕ) (e d : ℕ → ℕ → ℕ) (x : List ℕ) → ((k l : ℕ) → k < n → l < n → e k l % m ≡ d k l % m) →
    matrix_times m n e x ≡ matrix_times m n d x
matrix_times-same m n e d x h =
    list_below-same n _ _ (λ k row. same-sum_below m n _ _ (λ l column.
    same-mul m (e k l) (d k l) (slice_index x l) (slice_index x l) (h k l row column) refl))

-- `(E tensor I_s) (I_r tensor D)` is the matrix `E tensor D`
pub on_columns-on_blocks : (m r s : ℕ) (e d : ℕ → ℕ → ℕ) (x : List ℕ) →
    on_columns r s (matrix_times m r e) (on_blocks r s (matrix_times m s d) x) ≡ matrix_times m (r * s)
    (λ p q. e (p / s) (q / s) * d (p % s) (q % s)) x
on_columns-on_blocks m r s e d x =
    list_below-same_rows r s _ _ (λ a b row below.
    ap₂ (λ p q. slice_index (matrix_times m r e (column r s q (on_blocks r s (matrix_times m s d) x))) p) (row-of a b s below) (column-of a b s below)
    ∙ at-matrix_times m r e (column r s b (on_blocks r s (matrix_times m s d) x)) a row
    ∙ same-sum_below m r _ _ (λ i within.
    ap (λ y. (e a i * y) % m)
    (at-list_below r _ i within
    ∙ at-on_blocks r s (matrix_times m s d) x i b within below
    ∙ at-matrix_times m s d (block s i x) b below
    ∙ ap (λ n. n % m) (sum_below-same s _ (λ j. d b j * slice_index x (i * s + j)) (λ j inside. ap (λ y. d b j * y) (at-list_below s _ j inside))))
    ∙ mul-mod_second (e a i) (sum_below s (λ j. d b j * slice_index x (i * s + j))) m
    ∙ ap (λ n. n % m) (mul-sum_below s (e a i) (λ j. d b j * slice_index x (i * s + j)) ∙ sum_below-same s _ _ (λ j inside. simp (row-of, column-of, mul_assoc))))
    ∙ ap (λ n. n % m) (sym (sum_below-rows r s (λ l. (e ((a * s + b) / s) (l / s) * d ((a * s + b) % s) (l % s)) * slice_index x l))))
