-- Matrices by what they do to a list. All of them are square.
use Rattle.std.specs.Prelude.{ℕ, ◌+◌, ◌*◌, ◌/◌, ◌%◌, List, slice_index}
use Rattle.operators.specs.Sum.{sum_below, list_below}

-- what takes a list to a list, as a matrix does
abbrev pub Operator : Type 0
Operator = List ℕ → List ℕ

-- The matrix whose entry in row k and column l is e k l, times x, modulo m: in row k the sum over l of e k l times the item of x at l
abbrev pub matrix_times : ℕ → ℕ → (ℕ → ℕ → ℕ) → Operator
matrix_times m n e x = list_below n (λ k. sum_below n (λ l. e k l * slice_index x l) % m)

-- the item f i of x at each place i
abbrev pub gather : ℕ → (ℕ → ℕ) → Operator
gather n f x = list_below n (λ i. slice_index x (f i))

-- c i times the item of x at each place i, modulo m
abbrev pub scale : ℕ → ℕ → (ℕ → ℕ) → Operator
scale m n c x = list_below n (λ i. (c i * slice_index x i) % m)

-- x as r rows of s items: the column j
abbrev pub column : ℕ → ℕ → ℕ → Operator
column r s j x = list_below r (λ i. slice_index x (i * s + j))

-- x as rows of s items: the row i
abbrev pub block : ℕ → ℕ → Operator
block s i x = list_below s (λ j. slice_index x (i * s + j))

-- `A tensor I_s`, for an A of size r: A on each column
abbrev pub on_columns : ℕ → ℕ → Operator → Operator
on_columns r s a x = list_below (r * s) (λ p. slice_index (a (column r s (p % s) x)) (p / s))

-- `I_r tensor A`, for an A of size s: A on each row
abbrev pub on_blocks : ℕ → ℕ → Operator → Operator
on_blocks r s a x = list_below (r * s) (λ p. slice_index (a (block s (p / s) x)) (p % s))

-- the direct sum of r operators of size s: the operator i on the row i
abbrev pub on_each_block : ℕ → ℕ → (ℕ → Operator) → Operator
on_each_block r s a x = list_below (r * s) (λ p. slice_index (a (p / s) (block s (p / s) x)) (p % s))

-- the stride permutation L(r * s, r): it puts the item j * r + i at the place i * s + j
abbrev pub stride : ℕ → ℕ → ℕ → ℕ
stride r s p = (p % s) * r + p / s

-- the places of `GTIN`, for coprime r and s: the item (s * i + r * j) mod r * s goes to the place i * s + j
abbrev pub good_thomas_in : ℕ → ℕ → ℕ → ℕ
good_thomas_in r s p = (s * (p / s) + r * (p % s)) % (r * s)

-- the places of `GTOUT`: the item (k mod r) * s + k mod s goes to the place k
abbrev pub good_thomas_out : ℕ → ℕ → ℕ → ℕ
good_thomas_out r s k = (k % r) * s + k % s
