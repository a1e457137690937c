-- The laws of `list_below` and of the operators, place by place.
use Rattle.std.proofs.Common.{◌≡◌, ℕ, ◌+◌, ◌*◌, ◌/◌, ◌%◌, ◌<◌, arith, ap, ap₂, ◌∙◌, List, length, inl, inr, subst}
use Rattle.std.proofs.Common.{eq-zero-or-pos, mul-zero, mod-lt, div-lt_iff_lt-mul}
use Rattle.std.proofs.Math.Nat.{div-add-mod'}
use Rattle.std.specs.Prelude.{slice_index}
use Rattle.std.proofs.lemmas.List.FromFn.{get_or-map-range_with_len, length-map-range_with_len, fill_by_all}
use Rattle.std.proofs.lemmas.Nat.{mul-add-lt, div-mul-add, mod-mul-add}
use Rattle.operators.specs.Sum.{list_below}
use Rattle.operators.specs.Operator.{Operator, gather, column, block, on_columns, on_blocks, stride}

pub length-list_below : (n : ℕ) (f : ℕ → ℕ) → length (list_below n f) ≡ n
length-list_below n f = length-map-range_with_len f 0 n

pub at-list_below : (n : ℕ) (f : ℕ → ℕ) (k : ℕ) → k < n → slice_index (list_below n f) k ≡ f k
at-list_below n f k below = get_or-map-range_with_len f 0 n k k 0 below (omega arith)

pub list_below-same : (n : ℕ) (f g : ℕ → ℕ) → ((k : ℕ) → k < n → f k ≡ g k) → list_below n f ≡ list_below n g
list_below-same n f g h =
    fill_by_all g (list_below n f) n 0 (length-list_below n f) (λ k below. at-list_below n f k below ∙ h k below)

-- ---- places in rows of s items

pub row-of : (a b s : ℕ) → b < s → (a * s + b) / s ≡ a
row-of a b s below = div-mul-add a s b below

pub column-of : (a b s : ℕ) → b < s → (a * s + b) % s ≡ b
column-of a b s below = mod-mul-add a s b below

pub place_below : (a b r s : ℕ) → a < r → b < s → a * s + b < r * s
place_below a b r s row below = omega (arith, mul-add-lt a s b r row below)

pub factor_positive : (r s p : ℕ) → p < r * s → 0 < s
factor_positive r s p below =
    elim (eq-zero-or-pos s) [
      | inl zero_wide ↦
          let empty : r * s ≡ 0 = ap (λ n. r * n) zero_wide ∙ mul-zero r in absurd (omega arith)
      | inr positive ↦ positive
    ]

-- what holds at each place of each row holds at each place
pub by_rows : (r s : ℕ) (P : ℕ → Type 0) → ((a b : ℕ) → a < r → b < s → P (a * s + b)) → (p : ℕ) → p < r * s → P p
by_rows r s P h p below =
    let positive : 0 < s = factor_positive r s p below in
    subst P (div-add-mod' p s) (h (p / s) (p % s) ((div-lt_iff_lt-mul positive).1 below) (mod-lt p positive))

pub list_below-same_rows : (r s : ℕ) (f g : ℕ → ℕ) → ((a b : ℕ) → a < r → b < s → f (a * s + b) ≡ g (a * s + b)) →
    list_below (r * s) f ≡ list_below (r * s) g
list_below-same_rows r s f g h = list_below-same (r * s) f g (by_rows r s (λ p. f p ≡ g p) h)

-- ---- operators

pub at-on_columns : (r s : ℕ) (op : Operator) (x : List ℕ) (a b : ℕ) → a < r → b < s →
    slice_index (on_columns r s op x) (a * s + b) ≡ slice_index (op (column r s b x)) a
at-on_columns r s op x a b row below =
    at-list_below (r * s) (λ p. slice_index (op (column r s (p % s) x)) (p / s)) (a * s + b) (place_below a b r s row below)
    ∙ ap₂ (λ i j. slice_index (op (column r s j x)) i) (row-of a b s below) (column-of a b s below)

pub at-on_blocks : (r s : ℕ) (op : Operator) (x : List ℕ) (a b : ℕ) → a < r → b < s →
    slice_index (on_blocks r s op x) (a * s + b) ≡ slice_index (op (block s a x)) b
at-on_blocks r s op x a b row below =
    at-list_below (r * s) (λ p. slice_index (op (block s (p / s) x)) (p % s)) (a * s + b) (place_below a b r s row below)
    ∙ ap₂ (λ i j. slice_index (op (block s i x)) j) (row-of a b s below) (column-of a b s below)

pub at-stride : (r s : ℕ) (x : List ℕ) (a b : ℕ) → a < r → b < s →
    slice_index (gather (r * s) (stride r s) x) (a * s + b) ≡ slice_index x (b * r + a)
at-stride r s x a b row below =
    at-list_below (r * s) (λ p. slice_index x (stride r s p)) (a * s + b) (place_below a b r s row below)
    ∙ ap₂ (λ i j. slice_index x (j * r + i)) (row-of a b s below) (column-of a b s below)

-- operators that are equal at each list
pub on_columns-same : (r s : ℕ) (a b : Operator) (x : List ℕ) → ((y : List ℕ) → a y ≡ b y) →
    on_columns r s a x ≡ on_columns r s b x
on_columns-same r s a b x h = list_below-same (r * s) _ _ (λ p _. ap (λ y. slice_index y (p / s)) (h (column r s (p % s) x)))

pub on_blocks-same : (r s : ℕ) (a b : Operator) (x : List ℕ) → ((y : List ℕ) → a y ≡ b y) →
    on_blocks r s a x ≡ on_blocks r s b x
on_blocks-same r s a b x h = list_below-same (r * s) _ _ (λ p _. ap (λ y. slice_index y (p % s)) (h (block s (p / s) x)))
