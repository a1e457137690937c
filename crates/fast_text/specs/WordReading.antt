-- Reading the C text of a program on words, from left to right: what each line of it stands for.
use Rattle.std.specs.Prelude.{ℕ, zero, suc, ◌+◌, ◌-◌, List, [], ◌∷◌, ◌++◌, length, Bool, true, false, codes, decimal}
use Rattle.std.specs.Prelude.{Result}
use Rattle.icode.specs.declared.program.Array.{Array}
use Rattle.icode.specs.declared.program.Array.TheVariants as arrays
use Rattle.icode.specs.Machine.{whole_lines}
use Rattle.icode.specs.Plain.{PlainExpr, PlainOp, Load, Store, Zero, Add, Sub, Neg, MulConst, MulTable, Tile}
use Rattle.grammar.specs.Reading.{Place, ◌>>=◌, pure_at, word_at, one_of_at, number_at, named_number_at, optional_at}
use Rattle.listing_text.specs.declared.draft.Header.{Header}
use Rattle.listing_text.specs.Drafts.{header_at}
use Rattle.listing_text.specs.Numbers.{numbered_text}
use Rattle.listing_text.specs.Reading.{above_all, marked_sum_at, refuse}
use Rattle.listing_text.specs.Wording.{program_of}
use Rattle.word_code.specs.declared.program.Reduction.{Reduction}
use Rattle.word_code.specs.Words.{Width}
use Rattle.word_code.specs.WordProgram.{WordBody, PlainWordProgram, Loop, Do, NoStmts, AndStmts}
use Rattle.fast_text.specs.FunctionText.{each_from, static_phase_text, parameters_text, functions_to_link_text}
use Rattle.fast_text.specs.TextForm.{TextForm, with_arrays, named_function, named_header, named_product}
use Rattle.fast_text.specs.TextForm.{named_product_header}
use Rattle.fast_text.specs.FirstValues.{first_values_text, own_arrays_text, callers_arrays_text}
use Rattle.fast_text.specs.WordFront.{functions_text, arrays_text}
use Rattle.fast_text.specs.WordText.{sources_text, targets_text, entries_text, declared_text}

-- a place of a listing, with a mark after each constant
abbrev pub index_at : Place ℕ → Result (PlainExpr × Place ℕ) ℕ
index_at = marked_sum_at (codes "ULL") 64

-- ---- lines of a phase

-- a loop's begin, an end, a reduction, or an operation with its bias and its quotient
pub data WordAct : Type 0 where
  Opens : (count : ℕ) → WordAct
  Closes : WordAct
  Reduces : (reduction : Reduction) → WordAct
  Does : (bias quotient : ℕ) → (op : PlainOp) → WordAct

-- how a line begins
pub data LineHead : Type 0 where
  ForHead : LineHead
  EndHead : LineHead
  RegisterHead : LineHead
  StoreHead : LineHead
  TileHead : LineHead

abbrev pub line_heads : List (List ℕ × LineHead)
line_heads =
    (codes "for (uint64_t v", ForHead) ∷ (codes "}\n", EndHead) ∷ (codes "r", RegisterHead) ∷
    (codes "store(", StoreHead)
    ∷ (codes "{ vec b[] = {r", TileHead) ∷ []

-- how what a register becomes begins
pub data ValueHead : Type 0 where
  ZeroHead : ValueHead
  LoadHead : ValueHead
  AddHead : ValueHead
  SubHead : ValueHead
  NegHead : ValueHead
  MulHead : ValueHead
  ReducedHead : ValueHead

abbrev pub value_heads : List (List ℕ × ValueHead)
value_heads =
    (codes "splat(0);\n", ZeroHead) ∷ (codes "load(", LoadHead) ∷ (codes "add(r", AddHead) ∷ (codes "sub(r", SubHead)
    ∷ (codes "neg(r", NegHead) ∷ (codes "mul(r", MulHead) ∷ (codes "reduced(r", ReducedHead) ∷ []

abbrev pub array_heads : List (List ℕ × Array)
array_heads =
    (codes "X + ", arrays.X) ∷ (codes "Y + ", arrays.Y) ∷ (codes "A + ", arrays.A) ∷ (codes "B + ", arrays.B) ∷ []

-- the factors of a product: one for all lanes, or one for each from an entry of a table on
abbrev pub factor_heads : List (List ℕ × Bool)
factor_heads = (codes ", splat(", false) ∷ (codes ", load(t", true) ∷ []

-- one for all lanes is an entry of a table or a constant
abbrev pub splat_heads : List (List ℕ × Bool)
splat_heads = (codes "t", true) ∷ ([], false) ∷ []

-- an operation without a bias and without a quotient
abbrev pub plainly : PlainOp → WordAct
plainly op = Does 0 0 op

-- the quotients of a table's entries stand in the table of the same number, at the same place
abbrev pub quotients_at : ℕ → PlainExpr → ℕ → Place ℕ → Result (Unit {0} × Place ℕ) ℕ
quotients_at table place step = word_at (codes ", " ++ entries_text (codes "u") table place step ++ codes ");\n")

abbrev pub splat_at : ℕ → ℕ → Bool → Place ℕ → Result (WordAct × Place ℕ) ℕ
splat_at register source true = do
  table ← number_at above_all
  _ ← word_at (codes "[")
  place ← index_at
  _ ← word_at (codes "])")
  _ ← quotients_at table place 0
  pure_at (plainly (MulTable register source table place 0))
splat_at register source false = do
  factor ← number_at above_all
  quotient ← named_number_at (codes "ULL), splat(") above_all
  _ ← word_at (codes "ULL));\n")
  pure_at (Does 0 quotient (MulConst register source factor))

abbrev pub factor_at : ℕ → ℕ → Bool → Place ℕ → Result (WordAct × Place ℕ) ℕ
factor_at register source true = do
  table ← number_at above_all
  _ ← word_at (codes " + ")
  place ← index_at
  _ ← word_at (codes ")")
  _ ← quotients_at table place 1
  pure_at (plainly (MulTable register source table place 1))
factor_at register source false = do
  is_table ← one_of_at splat_heads
  splat_at register source is_table

abbrev pub value_at : ℕ → ValueHead → Place ℕ → Result (WordAct × Place ℕ) ℕ
value_at register ZeroHead = pure_at (plainly (Zero register))
value_at register LoadHead = do
  array ← one_of_at array_heads
  place ← index_at
  _ ← word_at (codes ");\n")
  pure_at (plainly (Load register array place))
value_at register AddHead = do
  left ← number_at above_all
  right ← named_number_at (codes ", r") above_all
  _ ← word_at (codes ");\n")
  pure_at (plainly (Add register left right))
value_at register SubHead = do
  left ← number_at above_all
  right ← named_number_at (codes ", r") above_all
  bias ← named_number_at (codes ", ") above_all
  _ ← word_at (codes "ULL);\n")
  pure_at (Does bias 0 (Sub register left right))
value_at register NegHead = do
  source ← number_at above_all
  bias ← named_number_at (codes ", ") above_all
  _ ← word_at (codes "ULL);\n")
  pure_at (Does bias 0 (Neg register source))
value_at register MulHead = do
  source ← number_at above_all
  is_row ← one_of_at factor_heads
  factor_at register source is_row
value_at register ReducedHead = do
  _ ← word_at (decimal register)
  amount ← named_number_at (codes ", ") above_all
  _ ← word_at (codes "ULL);\n")
  pure_at (Reduces (record { register = register; amount = amount }))

-- a line in this number of loops, for these lanes
abbrev pub line_by : ℕ → ℕ → LineHead → Place ℕ → Result (WordAct × Place ℕ) ℕ
line_by lanes depth ForHead = do
  _ ← word_at (decimal depth ++ codes " = 0; v" ++ decimal depth)
  count ← named_number_at (codes " < ") above_all
  _ ← word_at (codes "; v" ++ decimal depth ++ codes "++) {\n")
  pure_at (Opens count)
line_by lanes depth EndHead = pure_at Closes
line_by lanes depth RegisterHead = do
  register ← number_at above_all
  _ ← word_at (codes " = ")
  value ← one_of_at value_heads
  value_at register value
line_by lanes depth StoreHead = do
  array ← one_of_at array_heads
  place ← index_at
  register ← named_number_at (codes ", r") above_all
  _ ← word_at (codes ");\n")
  pure_at (plainly (Store array place register))
line_by lanes depth TileHead = do
  source ← number_at above_all
  _ ← word_at (codes "," ++ sources_text (lanes - 1) (source + 1) ++ codes "}; tile(b); r")
  register ← number_at above_all
  _ ← word_at (numbered_text (codes " = b[") 0 (codes "]; ") ++ targets_text (lanes - 1) (register + 1) 1 ++ codes
      "}\n")
  pure_at (plainly (Tile register source))

unfoldable pub line_at : ℕ → ℕ → Place ℕ → Result (WordAct × Place ℕ) ℕ
line_at lanes depth = do
  head ← one_of_at line_heads
  line_by lanes depth head

-- ---- phases

-- the statements from this line on, where these reductions stand before it and the lines after it are read so, in a
-- number of loops and after some reductions
abbrev pub body_by : (ℕ → List Reduction → Place ℕ → Result (WordBody × Place ℕ) ℕ) → ℕ → List Reduction → WordAct →
    Place ℕ → Result (WordBody × Place ℕ) ℕ
body_by more depth before (Opens count) = do
  body ← more (depth + 1) []
  rest ← more depth []
  pure_at (AndStmts (Loop count body) rest)
body_by more depth before Closes = pure_at NoStmts
body_by more depth before (Reduces reduction) = more depth (before ++ reduction ∷ [])
body_by more depth before (Does bias quotient op) = do
  rest ← more depth []
  pure_at (AndStmts (Do (record { before = before; bias = bias; quotient = quotient }) op) rest)

-- the statements to the end of a loop or a phase, which have up to a given number of lines
unfoldable pub body_at : ℕ → ℕ → ℕ → List Reduction → Place ℕ → Result (WordBody × Place ℕ) ℕ
body_at zero lanes depth before = refuse
body_at (suc lines) lanes depth before = do
  act ← line_at lanes depth
  body_by (body_at lines lanes) depth before act

-- a line takes a byte at least
abbrev pub whole_body_at : ℕ → Place ℕ → Result (WordBody × Place ℕ) ℕ
whole_body_at lanes place = body_at (length place.rest) lanes 0 [] place

-- ---- the whole text

-- up to a given number of items by their numbers, from this number on
unfoldable pub numbered_at : {A : Type 0} → ℕ → (ℕ → Place ℕ → Result (A × Place ℕ) ℕ) → ℕ → Place ℕ →
    Result (List A × Place ℕ) ℕ
numbered_at zero read number = pure_at []
numbered_at (suc count) read number = optional_at [] (do
  first ← read number
  others ← numbered_at count read (number + 1)
  pure_at (first ∷ others))

-- as many as there are: each takes a byte at least
abbrev pub all_from_0 : {A : Type 0} → (ℕ → Place ℕ → Result (A × Place ℕ) ℕ) → Place ℕ → Result (List A × Place ℕ) ℕ
all_from_0 read place = numbered_at (length place.rest) read 0 place

abbrev pub entry_at : Place ℕ → Result (ℕ × Place ℕ) ℕ
entry_at = do
  entry ← number_at above_all
  _ ← word_at (codes "ULL,")
  pure_at entry

-- the table of this name and number
abbrev pub table_at : List ℕ → ℕ → Place ℕ → Result (List ℕ × Place ℕ) ℕ
table_at name number = do
  _ ← word_at (codes "static const word " ++ name ++ decimal number ++ codes "[] = {")
  entries ← all_from_0 (λ _. entry_at)
  _ ← word_at (codes "};\n")
  pure_at entries

-- the phase of this number, between these words
abbrev pub phase_at : List ℕ → List ℕ → ℕ → ℕ → ℕ → Place ℕ → Result (WordBody × Place ℕ) ℕ
phase_at before behind lanes regs number = do
  _ ← word_at (numbered_text before number behind ++ each_from declared_text regs 0)
  whole_body_at lanes

abbrev pub phases_at : List ℕ → List ℕ → Header → Place ℕ → Result (List WordBody × Place ℕ) ℕ
phases_at before behind h = all_from_0 (phase_at before behind h.lanes h.regs)

abbrev pub rough_words : List (List ℕ × Bool)
rough_words = (codes "#define ROUGH 1\n", true) ∷ (codes "#define ROUGH 0\n", false) ∷ []

-- the modulus and the lanes, which the first line has too
abbrev pub sizes_of : Header → List ℕ
sizes_of h =
    codes "#include <stdint.h>\n" ++ numbered_text (codes "#define M ") h.modulus (codes "ULL\n")
    ++ numbered_text (codes "#define V ") h.lanes (codes "\n")

-- what stands before the arrays and the phases
pub record Front : Type 0 where
  pub header : Header
  pub width : Width
  pub tables : List (List ℕ)
  pub quotients : List (List ℕ)

unfoldable pub front_at : Place ℕ → Result (Front × Place ℕ) ℕ
front_at = do
  h ← header_at (codes "/* program size ") (codes " */\n")
  _ ← word_at (sizes_of h)
  half ← named_number_at (codes "#define HALF ") above_all
  _ ← word_at (codes "\n")
  rough ← one_of_at rough_words
  _ ← word_at functions_text
  tables ← all_from_0 (table_at (codes "t"))
  quotients ← all_from_0 (table_at (codes "u"))
  pure_at (record {
    header = h;
    width = record { half = half; rough = rough };
    tables = tables;
    quotients = quotients;
  })

abbrev pub words_of : Front → List WordBody → PlainWordProgram
words_of front phases =
    record {
      width = front.width;
      frame = program_of front.header front.tables [];
      quotients = front.quotients;
      phases = phases;
    }

-- what arrays have to hold before the first phase: any words or 0
abbrev pub either_of : (Bool → List ℕ) → List (List ℕ × Bool)
either_of text = (text true, true) ∷ (text false, false) ∷ []

abbrev pub own_first_values : List (List ℕ × Bool)
own_first_values = either_of (λ fresh. first_values_text own_arrays_text fresh)

abbrev pub callers_first_values : List (List ℕ × Bool)
callers_first_values = either_of (λ fresh. first_values_text (callers_arrays_text fresh) fresh)

-- how many words an array has
abbrev pub words_in : Header → ℕ
words_in h = whole_lines h.size h.line

-- the text of a form that has statements: whether arrays may hold any words, and the program
unfoldable pub words_at : TextForm → Place ℕ → Result ((Bool × PlainWordProgram) × Place ℕ) ℕ
words_at with_arrays = do
  front ← front_at
  fresh ← one_of_at own_first_values
  _ ← word_at (arrays_text (words_in front.header))
  phases ← phases_at (codes "void phase") (codes "(uint64_t q) {\n(void)q;\n") front.header
  pure_at (fresh, words_of front phases)
words_at (named_function name) = do
  front ← front_at
  phases ← phases_at (static_phase_text name) parameters_text front.header
  fresh ← one_of_at callers_first_values
  _ ← word_at (functions_to_link_text name (words_in front.header) front.header.procs (length phases))
  pure_at (fresh, words_of front phases)
words_at (named_header name) = refuse
words_at (named_product name) = refuse
words_at (named_product_header name) = refuse
