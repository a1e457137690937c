-- Reading the lines of a phase in C.
use Rattle.std.specs.Prelude.{ℕ, List, [], ◌∷◌, Bool, true, false, ◌&&◌, ◌==◌, codes, Option, Some, None, Result, if◌then◌else◌}
use Rattle.icode.specs.declared.program.Array.{Array}
use Rattle.icode.specs.declared.program.Array.TheVariants as arrays
use Rattle.icode.specs.Plain.{Load, Store, Zero, Add, Sub, Neg, MulConst, MulTable, Tile}
use Rattle.grammar.specs.Reading.{Place, ◌>>=◌, pure_at, word_at, one_of_at, number_at, named_number_at}
use Rattle.listing_text.specs.Reading.{above_all, sum_at, refuse}
use Rattle.listing_text.specs.Wording.{PlainAct, Open, Close, Do}
use Rattle.c_print.specs.declared.lines.Word.{Word}
use Rattle.c_print.specs.declared.lines.Word.TheVariants as words
use Rattle.c_print.specs.declared.lines.Value.{Value}
use Rattle.c_print.specs.declared.lines.Value.TheVariants as values

abbrev pub c_words : List (List ℕ × Word)
c_words =
    (codes "for (uint64_t v", words.For) ∷ (codes "for (int k = 0; k < V; k++) for (int l = 0; l < V; l++) r[", words.Tile) ∷ (codes "for (int l = 0; l < V; l++) ", words.Lanes) ∷ (codes "}", words.End) ∷ []

-- what the lanes go to: a register or an array
abbrev pub target_words : List (List ℕ × Option Array)
target_words = (codes "r[", None) ∷ (codes "X[", Some arrays.X) ∷ (codes "Y[", Some arrays.Y) ∷ (codes "A[", Some arrays.A) ∷ (codes "B[", Some arrays.B) ∷ []

-- what a register becomes
abbrev pub value_words : List (List ℕ × Value)
value_words =
    (codes "0;", values.Zero) ∷ (codes "add(r[", values.Add) ∷ (codes "sub(0, r[", values.Neg) ∷ (codes "sub(r[", values.Sub) ∷ (codes "mul(r[", values.Mul)
    ∷ (codes "X[", values.Load arrays.X) ∷ (codes "Y[", values.Load arrays.Y) ∷ (codes "A[", values.Load arrays.A) ∷ (codes "B[", values.Load arrays.B) ∷ []

abbrev pub factor_words : List (List ℕ × Bool)
factor_words = (codes "t", true) ∷ ([], false) ∷ []

abbrev pub same_loop : ℕ → ℕ → ℕ → ℕ → Place ℕ → Result (PlainAct × Place ℕ) ℕ
same_loop first second count third = if first == second && first == third then pure_at (Open first count) else refuse

abbrev pub loop_at : Place ℕ → Result (PlainAct × Place ℕ) ℕ
loop_at = do
  first ← number_at above_all
  second ← named_number_at (codes " = 0; v") above_all
  count ← named_number_at (codes " < ") above_all
  third ← named_number_at (codes "; v") above_all
  _ ← word_at (codes "++) {")
  same_loop first second count third

abbrev pub tile_at : Place ℕ → Result (PlainAct × Place ℕ) ℕ
tile_at = do
  register ← number_at above_all
  source ← named_number_at (codes " + k][l] = r[") above_all
  _ ← word_at (codes " + l][k];")
  pure_at (Do (Tile register source))

abbrev pub c_factor_at : ℕ → ℕ → Bool → Place ℕ → Result (PlainAct × Place ℕ) ℕ
c_factor_at register source true = do
  table ← number_at above_all
  _ ← word_at (codes "[")
  place ← sum_at 64
  step ← named_number_at (codes " + ") above_all
  _ ← word_at (codes " * l]);")
  pure_at (Do (MulTable register source table place step))
c_factor_at register source false = do
  factor ← number_at above_all
  _ ← word_at (codes ");")
  pure_at (Do (MulConst register source factor))

abbrev pub value_at : ℕ → Value → Place ℕ → Result (PlainAct × Place ℕ) ℕ
value_at register values.Zero = pure_at (Do (Zero register))
value_at register values.Add = do
  left ← number_at above_all
  right ← named_number_at (codes "][l], r[") above_all
  _ ← word_at (codes "][l]);")
  pure_at (Do (Add register left right))
value_at register values.Sub = do
  left ← number_at above_all
  right ← named_number_at (codes "][l], r[") above_all
  _ ← word_at (codes "][l]);")
  pure_at (Do (Sub register left right))
value_at register values.Neg = do
  source ← number_at above_all
  _ ← word_at (codes "][l]);")
  pure_at (Do (Neg register source))
value_at register values.Mul = do
  source ← number_at above_all
  _ ← word_at (codes "][l], ")
  is_table ← one_of_at factor_words
  c_factor_at register source is_table
value_at register (values.Load array) = do
  place ← sum_at 64
  _ ← word_at (codes " + l];")
  pure_at (Do (Load register array place))

abbrev pub target_at : Option Array → Place ℕ → Result (PlainAct × Place ℕ) ℕ
target_at None = do
  register ← number_at above_all
  _ ← word_at (codes "][l] = ")
  value ← one_of_at value_words
  value_at register value
target_at (Some array) = do
  place ← sum_at 64
  register ← named_number_at (codes " + l] = r[") above_all
  _ ← word_at (codes "][l];")
  pure_at (Do (Store array place register))

abbrev pub c_operands_at : Word → Place ℕ → Result (PlainAct × Place ℕ) ℕ
c_operands_at words.For = loop_at
c_operands_at words.Tile = tile_at
c_operands_at words.Lanes = do
  target ← one_of_at target_words
  target_at target
c_operands_at words.End = pure_at Close

unfoldable pub c_act_at : Place ℕ → Result (PlainAct × Place ℕ) ℕ
c_act_at = do
  word ← one_of_at c_words
  c_operands_at word

-- a line of a phase, with its end
unfoldable pub c_line_at : Place ℕ → Result (PlainAct × Place ℕ) ℕ
c_line_at = do
  act ← c_act_at
  _ ← word_at (codes "\n")
  pure_at act
