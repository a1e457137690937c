-- What an operator gives at a place, and lists that agree at each place.
use Rattle.std.proofs.Common.{arith, ◌-◌, ◌≡◌, ℕ, ◌+◌, ◌*◌, ◌<◌, sym, ap, ◌∙◌, List, length, ext_get_or, subst}
use Rattle.std.proofs.Common.{mul_comm, zero, suc, add-zero, add-one, add-suc, append-nil, append_assoc, [], ◌∷◌, ◌++◌}
use Rattle.std.proofs.Common.{ap₂, ◌/◌, ◌%◌, ◌≤◌, mod-lt, div-lt_iff_lt-mul, le_trans, le_of_lt, mul-le-mul_left}
use Rattle.std.proofs.Math.Nat.{div-mul-le_self}
use Rattle.std.specs.List.{between}
use Rattle.std.proofs.lemmas.List.FromFn.{fill_by_all, map-range_with_len_more}
use Rattle.std.proofs.lemmas.List.Edits.{length-between, get_or-between}
use Rattle.std.specs.Prelude.{slice_index}
use Rattle.operators.specs.Identities.{turn}
use Rattle.operators.specs.Sum.{list_below}
use Rattle.operators.specs.Operator.{Operator, column, block, on_columns, on_blocks}
use Rattle.operators.proofs.Lists.{at-list_below, length-list_below, list_below-same, list_below-same_rows, row-of}
use Rattle.operators.proofs.Lists.{column-of, by_rows, at-on_columns, at-on_blocks, at-stride, place_below}
use Rattle.operators.proofs.Lists.{factor_positive}

pub on_columns_at : (r s : ℕ) (op : Operator) (x : List ℕ) (p a b : ℕ) → a < r → b < s → p ≡ a * s + b →
    slice_index (on_columns r s op x) p ≡ slice_index (op (column r s b x)) a
on_columns_at r s op x p a b row below e = ap (slice_index (on_columns r s op x)) e ∙ at-on_columns r s op x a b row below

pub on_blocks_at : (r s : ℕ) (op : Operator) (x : List ℕ) (p a b : ℕ) → a < r → b < s → p ≡ a * s + b →
    slice_index (on_blocks r s op x) p ≡ slice_index (op (block s a x)) b
on_blocks_at r s op x p a b row below e = ap (slice_index (on_blocks r s op x)) e ∙ at-on_blocks r s op x a b row below

pub turn_at : (r s : ℕ) (x : List ℕ) (p a b : ℕ) → a < r → b < s → p ≡ a * s + b →
    slice_index (turn r s x) p ≡ slice_index x (b * r + a)
turn_at r s x p a b row below e = ap (slice_index (turn r s x)) e ∙ at-stride r s x a b row below

pub column_at : (r s b : ℕ) (x : List ℕ) (a : ℕ) → a < r → slice_index (column r s b x) a ≡ slice_index x (a * s + b)
column_at r s b x a row = at-list_below r (λ i. slice_index x (i * s + b)) a row

pub block_at : (s a : ℕ) (x : List ℕ) (b : ℕ) → b < s → slice_index (block s a x) b ≡ slice_index x (a * s + b)
block_at s a x b below = at-list_below s (λ j. slice_index x (a * s + j)) b below

-- lists of one length that agree at each place of three levels
pub same_by_three : (a b c : ℕ) (xs ys : List ℕ) → length xs ≡ a * b * c → length ys ≡ a * b * c →
    ((i j k : ℕ) → i < a → j < b → k < c → slice_index xs ((i * b + j) * c + k) ≡ slice_index ys ((i * b + j) * c + k))
    → xs ≡ ys
same_by_three a b c xs ys left right h =
    ext_get_or 0 xs ys (left ∙ sym right) (λ p below.
    by_rows (a * b) c (λ p. slice_index xs p ≡ slice_index ys p)
    (λ u k row within. by_rows a b (λ u. slice_index xs (u * c + k) ≡ slice_index ys (u * c + k)) (λ i j h_i h_j. h i j k h_i h_j within) u row)
    p (subst (λ n. p < n) left below))

pub place_below_turned : (a b r s : ℕ) → a < r → b < s → a * s + b < s * r
place_below_turned a b r s row below = subst (λ n. a * s + b < n) (mul_comm r s) (place_below a b r s row below)

-- the places of a stride permutation are its places
pub stride_below : (r s p : ℕ) → p < r * s → (0 < s) × ((p % s) * r + p / s < r * s)
stride_below r s p below =
    let positive : 0 < s = factor_positive r s p below in
    let row : p / s < r = (div-lt_iff_lt-mul positive).1 below in
    (positive, place_below_turned (p % s) (p / s) s r (mod-lt p positive) row)

-- the exponent of a twiddle factor is no more than its place
pub twiddle_exponent_below : (s p : ℕ) → 0 < s → (p / s) * (p % s) ≤ p
twiddle_exponent_below s p positive =
    let inside : p % s < s = mod-lt p positive in
    le_trans (mul-le-mul_left (p / s) (le_of_lt inside)) (div-mul-le_self p s)

-- one more item at the end
pub list_below-suc : (n : ℕ) (f : ℕ → ℕ) → list_below (suc n) f ≡ list_below n f ++ f n ∷ []
list_below-suc n f = ap (λ k. list_below k f) (sym (add-one n)) ∙ map-range_with_len_more f 0 n n (omega arith)

-- a list of a + b items, by its first a and its last b
pub list_below-append : (a b : ℕ) (f : ℕ → ℕ) → list_below (a + b) f ≡ list_below a f ++ list_below b (λ j. f (a + j))
list_below-append a zero f = ap (λ n. list_below n f) (add-zero a) ∙ sym (append-nil (list_below a f))
list_below-append a (suc b) f =
    ap (λ n. list_below n f) (add-suc a b)
    ∙ list_below-suc (a + b) f
    ∙ ap (λ l. l ++ f (a + b) ∷ []) (list_below-append a b f)
    ∙ append_assoc (list_below a f) (list_below b (λ j. f (a + j))) (f (a + b) ∷ [])
    ∙ ap (λ l. list_below a f ++ l) (sym (list_below-suc b (λ j. f (a + j))))

-- one more block
pub on_blocks_more : (r s : ℕ) (op : Operator) (x : List ℕ) → ((y : List ℕ) → length y ≡ s → length (op y) ≡ s) →
    on_blocks (r + 1) s op x ≡ on_blocks r s op x ++ op (block s r x)
on_blocks_more r s op x size =
    let rows : (r + 1) * s ≡ r * s + s = omega arith in
    let item = λ (p : ℕ). slice_index (op (block s (p / s) x)) (p % s) in
    ap (λ n. list_below n item) rows
    ∙ list_below-append (r * s) s item
    ∙ ap (λ l. on_blocks r s op x ++ l)
    (sym (fill_by_all (λ j. item (r * s + j)) (op (block s r x)) s 0 (size (block s r x) (length-list_below _ _))
    (λ j below. sym (ap₂ (λ a b. slice_index (op (block s a x)) b) (row-of r j s below) (column-of r j s below)))))

-- a part of a list is a block
pub between-block : (s i : ℕ) (x : List ℕ) (start end : ℕ) → start ≡ i * s → end ≡ i * s + s → end ≤ length x →
    between start end x ≡ block s i x
between-block s i x start end from to inside =
    let width : end - start ≡ s = omega arith in
    fill_by_all _ (between start end x) s 0 (length-between x start end inside ∙ width) (λ j below.
    get_or-between x start end j 0 (omega arith) ∙ ap (λ n. slice_index x (n + j)) from)

-- on columns as on blocks, between two stride permutations
pub on_columns-turned : (r s : ℕ) (op : Operator) (x : List ℕ) →
    on_columns r s op x ≡ turn r s (on_blocks s r op (turn s r x))
on_columns-turned r s op x =
    list_below-same_rows r s _ _ (λ i j row below.
    ap₂ (λ a b. slice_index (op (column r s b x)) a) (row-of i j s below) (column-of i j s below)
    ∙ ap (λ y. slice_index (op y) i) (list_below-same r _ _ (λ i' row'. sym (at-stride s r x j i' below row')))
    ∙ sym (at-on_blocks s r op (turn s r x) j i below row)
    ∙ sym (ap₂ (λ a b. slice_index (on_blocks s r op (turn s r x)) (b * r + a)) (row-of i j s below) (column-of i j s below)))
