-- Reading the parts of a line.
use Rattle.std.specs.Prelude.{ℕ, zero, suc, ◌^◌, List, [], ◌∷◌, length, Bool, true, false, codes, Option, Some, None, Result, Err}
use Rattle.icode.specs.Plain.{PlainExpr, PlainPart, Sum, Proc, Var, Product, Rem, Quot, parts_of}
use Rattle.grammar.specs.Reading.{Place, ◌>>=◌, pure_at, word_at, one_of_at, number_at, named_number_at}
use Rattle.listing_text.specs.declared.reading.Head.{Head}
use Rattle.listing_text.specs.declared.reading.Head.TheVariants as heads

-- each number is below this
abbrev pub above_all : ℕ
above_all = 2 ^ 64

abbrev pub refuse : {A : Type 0} → Place ℕ → Result (A × Place ℕ) ℕ
refuse place = Err (length place.rest)

-- up to a given number, until there are no more
abbrev pub others_of : {A : Type 0} → Option A → (Place ℕ → Result (List A × Place ℕ) ℕ) → Place ℕ → Result (List A × Place ℕ) ℕ
others_of None more = pure_at []
others_of (Some x) more = do
  others ← more
  pure_at (x ∷ others)

unfoldable pub up_to_at : {A : Type 0} → ℕ → (Place ℕ → Result (Option A × Place ℕ) ℕ) → Place ℕ → Result (List A × Place ℕ) ℕ
up_to_at zero read = pure_at []
up_to_at (suc count) read = do
  first ← read
  others_of first (up_to_at count read)

-- how a part begins; the empty word is for none
abbrev pub part_heads : List (List ℕ × Head)
part_heads = (codes "+q*", heads.Proc) ∷ (codes "+v", heads.Var) ∷ (codes "+(", heads.Inner) ∷ ([], heads.End) ∷ []

-- a second variable, or none
abbrev pub second_heads : List (List ℕ × Bool)
second_heads = (codes "v", true) ∷ ([], false) ∷ []

abbrev pub division_words : List (List ℕ × Bool)
division_words = (codes ")%", true) ∷ (codes ")/", false) ∷ []

abbrev pub variable_at : ℕ → Bool → Place ℕ → Result (Option PlainPart × Place ℕ) ℕ
variable_at depth true = do
  inner ← number_at above_all
  factor ← named_number_at (codes "*") above_all
  pure_at (Some (Product depth inner factor))
variable_at depth false = do
  factor ← number_at above_all
  pure_at (Some (Var depth factor))

abbrev pub divided : PlainExpr → Bool → ℕ → ℕ → PlainPart
divided of true divisor factor = Rem of divisor factor
divided of false divisor factor = Quot of divisor factor

abbrev pub part_by : (Place ℕ → Result (PlainExpr × Place ℕ) ℕ) → Head → Place ℕ → Result (Option PlainPart × Place ℕ) ℕ
part_by inner heads.Proc = do
  factor ← number_at above_all
  pure_at (Some (Proc factor))
part_by inner heads.Var = do
  depth ← number_at above_all
  _ ← word_at (codes "*")
  two ← one_of_at second_heads
  variable_at depth two
part_by inner heads.Inner = do
  of ← inner
  is_remainder ← one_of_at division_words
  divisor ← number_at above_all
  factor ← named_number_at (codes "*") above_all
  pure_at (Some (divided of is_remainder divisor factor))
part_by inner heads.End = pure_at None

abbrev pub part_at : (Place ℕ → Result (PlainExpr × Place ℕ) ℕ) → Place ℕ → Result (Option PlainPart × Place ℕ) ℕ
part_at inner = do
  head ← one_of_at part_heads
  part_by inner head

-- a constant and its mark, if there is one
abbrev pub constant_at : List ℕ → Place ℕ → Result (ℕ × Place ℕ) ℕ
constant_at [] = number_at above_all
constant_at (b ∷ mark) = do
  constant ← number_at above_all
  _ ← word_at (b ∷ mark)
  pure_at constant

-- a place with this mark after each constant, where this reads what stands in parentheses
abbrev pub sum_by : List ℕ → (Place ℕ → Result (PlainExpr × Place ℕ) ℕ) → Place ℕ → Result (PlainExpr × Place ℕ) ℕ
sum_by mark inner = do
  constant ← constant_at mark
  parts ← up_to_at 64 (part_at inner)
  pure_at (Sum constant (parts_of parts))

-- what stands in one of the parentheses that are left to open, whose number is given
unfoldable pub marked_inner_at : List ℕ → ℕ → Place ℕ → Result (PlainExpr × Place ℕ) ℕ
marked_inner_at mark zero = refuse
marked_inner_at mark (suc depth) = sum_by mark (marked_inner_at mark depth)

-- a place, given how many parentheses are left to open
abbrev pub marked_sum_at : List ℕ → ℕ → Place ℕ → Result (PlainExpr × Place ℕ) ℕ
marked_sum_at mark depth = sum_by mark (marked_inner_at mark depth)

-- in a listing there is no mark
abbrev pub inner_at : ℕ → Place ℕ → Result (PlainExpr × Place ℕ) ℕ
inner_at depth = marked_inner_at [] depth

abbrev pub sum_at : ℕ → Place ℕ → Result (PlainExpr × Place ℕ) ℕ
sum_at depth = marked_sum_at [] depth
