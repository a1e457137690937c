-- A permutation under `tensor I` moves whole lines.
use Rattle.std.proofs.Common.{◌≡◌, ℕ, ◌+◌, ◌*◌, ◌/◌, ◌%◌, ◌<◌, arith, sym, ap, ap₂, ◌∙◌, List, mod-lt}
use Rattle.std.proofs.Math.Nat.{div-add-mod'}
use Rattle.std.specs.Prelude.{slice_index}
use Rattle.operators.specs.Identities.{widened, MovesWholeLines, WholeLines}
use Rattle.operators.specs.Operator.{gather, column, on_columns}
use Rattle.operators.proofs.Lists.{at-list_below, list_below-same_rows, row-of, column-of, place_below, factor_positive}

-- a gather of each column is a gather
on_columns-gather : (m k : ℕ) (f : ℕ → ℕ) (x : List ℕ) → ((i : ℕ) → i < m → f i < m) →
    on_columns m k (gather m f) x ≡ gather (m * k) (widened k f) x
on_columns-gather m k f x below =
    list_below-same_rows m k _ _ (λ a b row within.
    ap₂ (λ i j. slice_index (gather m f (column m k j x)) i) (row-of a b k within) (column-of a b k within)
    ∙ at-list_below m (λ i. slice_index (column m k b x) (f i)) a row
    ∙ at-list_below m (λ i. slice_index x (i * k + b)) (f a) (below a row)
    ∙ sym (ap₂ (λ i j. slice_index x (f i * k + j)) (row-of a b k within) (column-of a b k within)))

-- the item l of line t stands in the row t / q, in its line t mod q
line-place : (q v t l : ℕ) → t * v + l ≡ (t / q) * (q * v) + ((t % q) * v + l)
line-place q v t l =
    let whole : t ≡ t / q * q + t % q = sym (div-add-mod' t q) in
    ap (λ n. n * v + l) whole ∙ omega arith

moves_whole_lines : (m q v : ℕ) (f : ℕ → ℕ) → MovesWholeLines v (m * (q * v)) (widened (q * v) f)
moves_whole_lines m q v f t l within below = (
  ap (λ n. n % v) (start ∙ regrouped) ∙ column-of (f (t / q) * q + t % q) 0 v positive,
  item ∙ ap (λ n. n + l) (sym start),
)
  where
    positive : 0 < v
    positive = omega arith

    wide : 0 < q * v
    wide = factor_positive m (q * v) (t * v + l) below

    q_positive : 0 < q
    q_positive = factor_positive v q 0 (omega (arith, wide))

    inside : (j : ℕ) → j < v → (t % q) * v + j < q * v
    inside j h = place_below (t % q) j q v (mod-lt t q_positive) h

    -- where the item j of the line comes from
    taken : (j : ℕ) → j < v → widened (q * v) f (t * v + j) ≡ f (t / q) * (q * v) + ((t % q) * v + j)
    taken j h =
        ap (widened (q * v) f) (line-place q v t j)
        ∙ ap₂ (λ a b. f a * (q * v) + b) (row-of (t / q) ((t % q) * v + j) (q * v) (inside j h)) (column-of (t / q) ((t % q) * v + j) (q * v) (inside j h))

    start : widened (q * v) f (t * v) ≡ f (t / q) * (q * v) + ((t % q) * v + 0)
    start = ap (widened (q * v) f) (omega arith) ∙ taken 0 positive

    item : widened (q * v) f (t * v + l) ≡ (f (t / q) * (q * v) + ((t % q) * v + 0)) + l
    item = taken l within ∙ omega arith

    regrouped : f (t / q) * (q * v) + ((t % q) * v + 0) ≡ (f (t / q) * q + t % q) * v + 0
    regrouped = omega arith

pub whole_lines : WholeLines
whole_lines m q v f x below = (on_columns-gather m (q * v) f x below, moves_whole_lines m q v f)
