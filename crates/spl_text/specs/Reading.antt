-- Reading a formula from left to right, up to the first fault.
use Rattle.std.specs.Prelude.{ℕ, zero, suc, ◌+◌, List, ◌∷◌, [], length, codes, Result, Ok, Err}
use Rattle.grammar.specs.Reading.{Place, start, ended, pure_at, word_at, one_of_at, optional_at}
use Rattle.grammar.specs.Stops.{Stop, Lost, Fault, ◌>>=◌, spelling_only, tested_at}
use Rattle.spl_ast.specs.Formula.{Formula, Identity, Fourier, Hadamard, Twiddles, Diagonal, Stride, Permutation, GoodThomasIn, GoodThomasOut, Product, TensorLeft, TensorRight, DirectSum}
use Rattle.spl_text.specs.declared.reading.Head.{Head}
use Rattle.spl_text.specs.declared.reading.Head.TheVariants as head
use Rattle.spl_text.specs.Arguments.{factor_at, comma_at, close_at, one_size_at, two_sizes_at, size_value_at, sizes_value_at, values_at}
use Rattle.spl_text.specs.Fault.{TextFault, TooDeep, shape_fault}

abbrev pub heads : List (List ℕ × Head)
heads =
    (codes "I(", head.I) ∷ (codes "DFT(", head.Dft) ∷ (codes "WHT(", head.Wht) ∷ (codes "T(", head.T)
    ∷ (codes "DIAG(", head.Diag) ∷ (codes "L(", head.L) ∷ (codes "PERM(", head.Perm)
    ∷ (codes "GTIN(", head.GtIn) ∷ (codes "GTOUT(", head.GtOut) ∷ (codes "TIMES(", head.Times)
    ∷ (codes "LEFT(", head.Left) ∷ (codes "RIGHT(", head.Right) ∷ (codes "SUM(", head.Sum) ∷ []

abbrev pub plain : {A : Type 0} → (Place ℕ → Result (A × Place ℕ) ℕ) → Place ℕ → Result (A × Place ℕ) (Stop TextFault)
plain read place = spelling_only (read place)

abbrev pub two_formulas_by : (Place ℕ → Result (Formula × Place ℕ) (Stop TextFault)) → (Formula → Formula → Formula) → Place ℕ → Result (Formula × Place ℕ) (Stop TextFault)
two_formulas_by read make = do
  a ← read
  _ ← plain comma_at
  b ← read
  _ ← plain close_at
  plain (pure_at (make a b))

abbrev pub tensor_left_by : (Place ℕ → Result (Formula × Place ℕ) (Stop TextFault)) → Place ℕ → Result (Formula × Place ℕ) (Stop TextFault)
tensor_left_by read = do
  a ← read
  _ ← plain comma_at
  k ← plain factor_at
  _ ← plain close_at
  plain (pure_at (TensorLeft a k))

abbrev pub tensor_right_by : (Place ℕ → Result (Formula × Place ℕ) (Stop TextFault)) → Place ℕ → Result (Formula × Place ℕ) (Stop TextFault)
tensor_right_by read = do
  k ← plain factor_at
  _ ← plain comma_at
  a ← read
  _ ← plain close_at
  plain (pure_at (TensorRight k a))

-- a part made of numbers
abbrev pub made_at : {A : Type 0} → (Place ℕ → Result (A × Place ℕ) ℕ) → (A → Formula) → Place ℕ → Result (Formula × Place ℕ) (Stop TextFault)
made_at read make = do
  x ← plain read
  plain (pure_at (make x))

-- what comes after the head of a part, where its formulas are read so
abbrev pub arguments_by : (Place ℕ → Result (Formula × Place ℕ) (Stop TextFault)) → Head → Place ℕ → Result (Formula × Place ℕ) (Stop TextFault)
arguments_by read head.I = made_at one_size_at Identity
arguments_by read head.Dft = made_at size_value_at (λ x. Fourier x.0 x.1)
arguments_by read head.Wht = made_at one_size_at Hadamard
arguments_by read head.T = made_at sizes_value_at (λ x. Twiddles x.0 x.1 x.2)
arguments_by read head.Diag = made_at values_at Diagonal
arguments_by read head.L = made_at two_sizes_at (λ x. Stride x.0 x.1)
arguments_by read head.Perm = made_at values_at Permutation
arguments_by read head.GtIn = made_at two_sizes_at (λ x. GoodThomasIn x.0 x.1)
arguments_by read head.GtOut = made_at two_sizes_at (λ x. GoodThomasOut x.0 x.1)
arguments_by read head.Times = two_formulas_by read Product
arguments_by read head.Left = tensor_left_by read
arguments_by read head.Right = tensor_right_by read
arguments_by read head.Sum = two_formulas_by read DirectSum

-- the parenthesis before this place is one too many
abbrev pub too_deep : Result (Head × Place ℕ) ℕ → Result (Formula × Place ℕ) (Stop TextFault)
too_deep (Ok x) = Err (Fault (TooDeep (length x.1.rest + 1)))
too_deep (Err left) = Err (Lost left)

-- with a number of parentheses left to open
unfoldable pub formula_at : ℕ → Place ℕ → Result (Formula × Place ℕ) (Stop TextFault)
formula_at zero place = too_deep (one_of_at heads place)
formula_at (suc depth) place = tested_at (length place.rest) shape_fault ((plain (one_of_at heads) >>= arguments_by (formula_at depth)) place)

-- a formula and a line end that may be left out
abbrev pub line_at : Place ℕ → Result (Formula × Place ℕ) (Stop TextFault)
line_at = do
  f ← formula_at 128
  _ ← plain (optional_at tt (word_at (codes "\n")))
  plain (pure_at f)

abbrev pub ended_formula : Result Formula ℕ → Result Formula (Stop TextFault)
ended_formula (Ok f) = Ok f
ended_formula (Err left) = Err (Lost left)

abbrev pub all_of : Result (Formula × Place ℕ) (Stop TextFault) → Result Formula (Stop TextFault)
all_of (Ok x) = ended_formula (ended x.0 x.1.rest x.1.far)
all_of (Err stop) = Err stop

-- the formula that the whole text spells, or the first fault
abbrev pub whole_line : List ℕ → Result Formula (Stop TextFault)
whole_line text = all_of (line_at (start text))
