-- The lines of a phase, and reading them.
use Rattle.std.specs.Prelude.{ℕ, ◌≤◌, List, [], ◌∷◌, Bool, true, false, codes, Result}
use Rattle.icode.specs.declared.program.Array.{Array}
use Rattle.icode.specs.declared.program.Array.TheVariants as arrays
use Rattle.icode.specs.Plain.{PlainOp, Load, Store, Zero, Add, Sub, Neg, MulConst, MulTable, Tile, plain_op}
use Rattle.icode.specs.Limits.{sum_depth}
use Rattle.grammar.specs.Reading.{Place, ◌>>=◌, pure_at, word_at, one_of_at, number_at, named_number_at}
use Rattle.listing_text.specs.declared.acts.Word.{Word}
use Rattle.listing_text.specs.declared.acts.Word.TheVariants as words
use Rattle.listing_text.specs.declared.acts.Act.{Act}
use Rattle.listing_text.specs.declared.acts.Act.TheVariants as acts
use Rattle.listing_text.specs.Reading.{above_all, sum_at}
use Rattle.listing_text.specs.Wording.{PlainAct, Open, Close, Do}

abbrev pub plain_act : Act → PlainAct
plain_act (acts.Open depth count) = Open depth count
plain_act acts.Close = Close
plain_act (acts.Do op) = Do (plain_op op)

abbrev pub act_words : List (List ℕ × Word)
act_words =
    (codes "for v", words.For) ∷ (codes "end", words.End) ∷ (codes "ld r", words.Load) ∷ (codes "st ", words.Store) ∷ (codes "zero r", words.Zero)
    ∷ (codes "add r", words.Add) ∷ (codes "sub r", words.Sub) ∷ (codes "neg r", words.Neg) ∷ (codes "mul r", words.Mul) ∷ (codes "tile r", words.Tile) ∷ []

abbrev pub array_words : List (List ℕ × Array)
array_words = (codes "X[", arrays.X) ∷ (codes "Y[", arrays.Y) ∷ (codes "A[", arrays.A) ∷ (codes "B[", arrays.B) ∷ []

-- what a factor is: a table's entries or a constant
abbrev pub factor_words : List (List ℕ × Bool)
factor_words = (codes " t", true) ∷ (codes " ", false) ∷ []

abbrev pub factor_at : ℕ → ℕ → Bool → Place ℕ → Result (PlainAct × Place ℕ) ℕ
factor_at register source true = do
  table ← number_at above_all
  _ ← word_at (codes "[")
  place ← sum_at 64
  step ← named_number_at (codes "] step ") above_all
  pure_at (Do (MulTable register source table place step))
factor_at register source false = do
  factor ← number_at above_all
  pure_at (Do (MulConst register source factor))

abbrev pub operands_at : Word → Place ℕ → Result (PlainAct × Place ℕ) ℕ
operands_at words.For = do
  depth ← number_at above_all
  count ← named_number_at (codes " ") above_all
  pure_at (Open depth count)
operands_at words.End = pure_at Close
operands_at words.Load = do
  register ← number_at above_all
  _ ← word_at (codes " ")
  array ← one_of_at array_words
  place ← sum_at 64
  _ ← word_at (codes "]")
  pure_at (Do (Load register array place))
operands_at words.Store = do
  array ← one_of_at array_words
  place ← sum_at 64
  register ← named_number_at (codes "] r") above_all
  pure_at (Do (Store array place register))
operands_at words.Zero = do
  register ← number_at above_all
  pure_at (Do (Zero register))
operands_at words.Add = do
  register ← number_at above_all
  left ← named_number_at (codes " r") above_all
  right ← named_number_at (codes " r") above_all
  pure_at (Do (Add register left right))
operands_at words.Sub = do
  register ← number_at above_all
  left ← named_number_at (codes " r") above_all
  right ← named_number_at (codes " r") above_all
  pure_at (Do (Sub register left right))
operands_at words.Neg = do
  register ← number_at above_all
  source ← named_number_at (codes " r") above_all
  pure_at (Do (Neg register source))
operands_at words.Mul = do
  register ← number_at above_all
  source ← named_number_at (codes " r") above_all
  is_table ← one_of_at factor_words
  factor_at register source is_table
operands_at words.Tile = do
  register ← number_at above_all
  source ← named_number_at (codes " r") above_all
  pure_at (Do (Tile register source))

unfoldable pub act_at : Place ℕ → Result (PlainAct × Place ℕ) ℕ
act_at = do
  word ← one_of_at act_words
  operands_at word

-- a line of a phase, with its end
unfoldable pub act_line_at : Place ℕ → Result (PlainAct × Place ℕ) ℕ
act_line_at = do
  act ← act_at
  _ ← word_at (codes "\n")
  pure_at act

-- no more than 64 parentheses are open at once
abbrev pub OpFits : PlainOp → Type 0
OpFits (Load register array place) = sum_depth place ≤ 64
OpFits (Store array place register) = sum_depth place ≤ 64
OpFits (Zero register) = Unit {0}
OpFits (Add register left right) = Unit {0}
OpFits (Sub register left right) = Unit {0}
OpFits (Neg register source) = Unit {0}
OpFits (MulConst register source factor) = Unit {0}
OpFits (MulTable register source table place step) = sum_depth place ≤ 64
OpFits (Tile register source) = Unit {0}

abbrev pub ActFits : PlainAct → Type 0
ActFits (Open depth count) = Unit {0}
ActFits Close = Unit {0}
ActFits (Do op) = OpFits op
