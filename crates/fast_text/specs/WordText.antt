-- The C text of a program on words. Its functions and vectors are those of the first lines, its registers variables, which
-- are 0 where a phase begins. It is meant for words of 32, 52 and 64 bits.
use Rattle.std.specs.Prelude.{ℕ, zero, suc, ◌+◌, ◌==◌, Bool, List, [], ◌∷◌, ◌++◌, codes, decimal, flat_map, length, map}
use Rattle.std.specs.Prelude.{if◌then◌else◌}
use Rattle.icode.specs.declared.program.Array.{Array}
use Rattle.icode.specs.Machine.{whole_lines}
use Rattle.icode.specs.Plain.{PlainExpr, PlainOp, Load, Store, Zero, Add, Sub, Neg, MulConst, MulTable, Tile}
use Rattle.listing_text.specs.Listing.{sum_with, array_text, header_text}
use Rattle.listing_text.specs.Wording.{header_of}
use Rattle.listing_text.specs.Numbers.{numbered_text}
use Rattle.word_code.specs.declared.program.Reduction.{Reduction}
use Rattle.word_code.specs.WordProgram.{Note, WordStmt, WordBody, PlainWordProgram, Loop, Do, NoStmts, AndStmts}
use Rattle.fast_text.specs.WordFront.{functions_text, sizes_text, arrays_text}
use Rattle.fast_text.specs.FirstValues.{first_values_text, own_arrays_text, callers_arrays_text}
use Rattle.fast_text.specs.ProductText.{products_text, product_function_text, product_guard_text}
use Rattle.fast_text.specs.ProductText.{product_macros_text, product_asked_text, declared_product_text}
use Rattle.fast_text.specs.TextForm.{TextForm, with_arrays, named_function, named_header, named_product}
use Rattle.fast_text.specs.TextForm.{named_product_header}
use Rattle.fast_text.specs.FunctionText.{each_from, static_phase_text, parameters_text}
use Rattle.fast_text.specs.FunctionText.{functions_to_link_text, capital, guard_text, lengths_text}
use Rattle.fast_text.specs.FunctionText.{counts_text, asked_text, declared_functions_text, word_type_text}
use Rattle.fast_text.specs.FunctionText.{line_bytes_text, linkage_text}
use Rattle.word_code.specs.Bytes.{bytes_of_line}

-- a place: its constant and its parts. The constant is unsigned, of 64 bits, and each sum has one, so sums and what is made of
-- them wrap at the same base as in programs
abbrev pub index_text : PlainExpr → List ℕ
index_text place = sum_with (codes "ULL") place

abbrev pub register_text : ℕ → List ℕ
register_text register = codes "r" ++ decimal register

-- a register becomes what the text after it says
abbrev pub becomes_text : ℕ → List ℕ
becomes_text register = register_text register ++ codes " = "

unfoldable pub reduction_text : Reduction → List ℕ
reduction_text r = becomes_text r.register ++ codes "reduced(" ++ register_text r.register ++ numbered_text (codes ", ") r.amount (codes "ULL);\n")

-- it becomes what a function makes of another one, and of what comes after that
abbrev pub call_text : ℕ → List ℕ → ℕ → List ℕ
call_text register function source = becomes_text register ++ function ++ register_text source

abbrev pub load_text : ℕ → Array → PlainExpr → List ℕ
load_text register array place =
    becomes_text register ++ codes "load(" ++ array_text array ++ codes " + " ++ index_text place
    ++ codes ");\n"

abbrev pub store_text : Array → PlainExpr → ℕ → List ℕ
store_text array place register =
    codes "store(" ++ array_text array ++ codes " + " ++ index_text place ++ codes ", "
    ++ register_text register ++ codes ");\n"

abbrev pub addition_text : ℕ → ℕ → ℕ → List ℕ
addition_text register left right =
    call_text register (codes "add(") left ++ codes ", " ++ register_text right ++ codes ");\n"

abbrev pub subtraction_text : ℕ → ℕ → ℕ → ℕ → List ℕ
subtraction_text register left right bias =
    call_text register (codes "sub(") left ++ codes ", " ++ register_text right
    ++ numbered_text (codes ", ") bias (codes "ULL);\n")

abbrev pub negation_text : ℕ → ℕ → ℕ → List ℕ
negation_text register source bias =
    call_text register (codes "neg(") source ++ numbered_text (codes ", ") bias (codes "ULL);\n")

-- a product by the same factor on all lanes
abbrev pub const_product_text : ℕ → ℕ → ℕ → ℕ → List ℕ
const_product_text register source factor quotient =
    call_text register (codes "mul(") source ++ numbered_text (codes ", splat(") factor (codes "ULL)")
    ++ numbered_text (codes ", splat(") quotient (codes "ULL));\n")

-- one entry of a table, or of its quotients, for all lanes
abbrev pub entry_text : List ℕ → ℕ → PlainExpr → List ℕ
entry_text name table place =
    codes "splat(" ++ name ++ decimal table ++ codes "[" ++ index_text place ++ codes "])"

-- one for each lane, from the place on
abbrev pub row_text : List ℕ → ℕ → PlainExpr → List ℕ
row_text name table place =
    codes "load(" ++ name ++ decimal table ++ codes " + " ++ index_text place ++ codes ")"

abbrev pub entries_text : List ℕ → ℕ → PlainExpr → ℕ → List ℕ
entries_text name table place step =
    if step == 0 then entry_text name table place else row_text name table place

-- a product by the entries of a table
abbrev pub table_product_text : ℕ → ℕ → ℕ → PlainExpr → ℕ → List ℕ
table_product_text register source table place step =
    call_text register (codes "mul(") source ++ codes ", " ++ entries_text (codes "t") table place step
    ++ codes ", " ++ entries_text (codes "u") table place step ++ codes ");\n"

-- a number of registers from this one on
abbrev pub sources_text : ℕ → ℕ → List ℕ
sources_text zero register = []
sources_text (suc n) register = numbered_text (codes "r") register (codes ",") ++ sources_text n (register + 1)

-- a number of registers from this one on become the vectors from number k on
abbrev pub targets_text : ℕ → ℕ → ℕ → List ℕ
targets_text zero register k = []
targets_text (suc n) register k = becomes_text register ++ numbered_text (codes "b[") k (codes "]; ") ++ targets_text n (register + 1) (k + 1)

unfoldable pub tile_text : ℕ → ℕ → ℕ → List ℕ
tile_text lanes register source =
    codes "{ vec b[] = {" ++ sources_text lanes source ++ codes "}; tile(b); " ++ targets_text lanes register 0 ++ codes "}\n"

-- an operation, for these lanes
unfoldable pub word_op_text : ℕ → Note → PlainOp → List ℕ
word_op_text lanes note (Load register array place) = load_text register array place
word_op_text lanes note (Store array place register) = store_text array place register
word_op_text lanes note (Zero register) = becomes_text register ++ codes "splat(0);\n"
word_op_text lanes note (Add register left right) = addition_text register left right
word_op_text lanes note (Sub register left right) = subtraction_text register left right note.bias
word_op_text lanes note (Neg register source) = negation_text register source note.bias
word_op_text lanes note (MulConst register source factor) =
    const_product_text register source factor note.quotient
word_op_text lanes note (MulTable register source table place step) =
    table_product_text register source table place step
word_op_text lanes note (Tile register source) = tile_text lanes register source

-- the loop at this depth begins
unfoldable pub loop_text : ℕ → ℕ → List ℕ
loop_text depth count =
    numbered_text (codes "for (uint64_t v") depth (codes " = 0; v") ++ numbered_text [] depth (codes " < ") ++ numbered_text [] count (codes "; v")
    ++ numbered_text [] depth (codes "++) {\n")

-- statements inside a number of loops
abbrev mutual
  pub word_stmt_text : ℕ → ℕ → WordStmt → List ℕ
  word_stmt_text lanes depth (Loop count body) = loop_text depth count ++ word_body_text lanes (depth + 1) body ++ codes "}\n"
  word_stmt_text lanes depth (Do note op) = flat_map reduction_text note.before ++ word_op_text lanes note op

  pub word_body_text : ℕ → ℕ → WordBody → List ℕ
  word_body_text lanes depth NoStmts = []
  word_body_text lanes depth (AndStmts stmt rest) = word_stmt_text lanes depth stmt ++ word_body_text lanes depth rest

-- the first line: the header of the listing, in a comment
abbrev pub word_header_text : PlainWordProgram → List ℕ
word_header_text p = codes "/* " ++ header_text (header_of p.frame) ++ codes " */\n"

unfoldable pub word_table_text : List ℕ → ℕ → List ℕ → List ℕ
word_table_text name number entries =
    codes "static const word " ++ name ++ decimal number ++ codes "[] = {" ++ flat_map (λ c. decimal c ++ codes "ULL,") entries ++ codes "};\n"

-- the tables from this number on
abbrev pub word_tables_text : List ℕ → ℕ → List (List ℕ) → List ℕ
word_tables_text name number [] = []
word_tables_text name number (entries ∷ tables) = word_table_text name number entries ++ word_tables_text name (number + 1) tables

-- a register, which need not be used
abbrev pub declared_text : ℕ → List ℕ
declared_text register = numbered_text (codes "vec r") register (codes " = splat(0); ") ++ numbered_text (codes "(void)r") register (codes ";\n")

-- what a phase does, in a program with these lanes and registers
abbrev pub word_phase_text : ℕ → ℕ → WordBody → List ℕ
word_phase_text lanes regs body = each_from declared_text regs 0 ++ word_body_text lanes 0 body ++ codes "}\n"

-- the phases from this number on, each with a text before its number and one after it
abbrev pub word_phases_text : List ℕ → List ℕ → ℕ → ℕ → ℕ → List WordBody → List ℕ
word_phases_text before behind lanes regs number [] = []
word_phases_text before behind lanes regs number (body ∷ phases) =
    numbered_text before number behind ++ word_phase_text lanes regs body ++ word_phases_text before behind lanes regs (number + 1) phases

-- how many words an array has
abbrev pub words_of_array : PlainWordProgram → ℕ
words_of_array p = whole_lines p.frame.size p.frame.line

-- what stands before the arrays and the phases
abbrev pub front_text : PlainWordProgram → List ℕ
front_text p =
    word_header_text p ++ sizes_text p.width p.frame.modulus p.frame.lanes ++ functions_text ++ word_tables_text (codes "t") 0 p.frame.tables
    ++ word_tables_text (codes "u") 0 p.quotients

abbrev pub all_phases_text : List ℕ → List ℕ → PlainWordProgram → List ℕ
all_phases_text before behind p = word_phases_text before behind p.frame.lanes p.frame.regs 0 p.phases

-- arrays, and a function for each phase
abbrev pub arrays_and_phases_text : Bool → PlainWordProgram → List ℕ
arrays_and_phases_text fresh p =
    front_text p ++ first_values_text own_arrays_text fresh ++ arrays_text (words_of_array p)
    ++ all_phases_text (codes "void phase") (codes "(uint64_t q) {\n(void)q;\n") p

-- a function to link
abbrev pub named_function_text : List ℕ → Bool → PlainWordProgram → List ℕ
named_function_text name fresh p =
    front_text p ++ all_phases_text (static_phase_text name) parameters_text p
    ++ first_values_text (callers_arrays_text fresh) fresh
    ++ functions_to_link_text name (words_of_array p) p.frame.procs (length p.phases)

-- its sizes and counts as macros
abbrev pub macros_text : List ℕ → PlainWordProgram → List ℕ
macros_text capitals p =
    lengths_text capitals p.frame.size (words_of_array p) ++ line_bytes_text capitals (bytes_of_line p)
    ++ counts_text capitals p.frame.modulus p.frame.procs (length p.phases)

-- and its header
abbrev pub named_header_text : List ℕ → Bool → PlainWordProgram → List ℕ
named_header_text name fresh p =
    let capitals = map capital name in
    word_header_text p ++ guard_text capitals ++ macros_text capitals p
    ++ first_values_text (callers_arrays_text fresh) fresh
    ++ linkage_text (asked_text capitals name ++ declared_functions_text name (word_type_text p.width.half))

-- the function that multiplies vectors of this program place by place, and its header
abbrev pub named_product_text : List ℕ → PlainWordProgram → List ℕ
named_product_text name p =
    word_header_text p ++ sizes_text p.width p.frame.modulus p.frame.lanes ++ functions_text ++ products_text
    ++ product_function_text name p.frame.size

abbrev pub named_product_header_text : List ℕ → PlainWordProgram → List ℕ
named_product_header_text name p =
    let capitals = map capital name in
    word_header_text p ++ product_guard_text capitals
    ++ product_macros_text capitals p.frame.size p.frame.modulus
    ++ linkage_text (product_asked_text capitals name ++ declared_product_text name (word_type_text p.width.half))

-- of a program that may read what is left over, or that does not
abbrev pub words_text : TextForm → Bool → PlainWordProgram → List ℕ
words_text with_arrays fresh p = arrays_and_phases_text fresh p
words_text (named_function name) fresh p = named_function_text name fresh p
words_text (named_header name) fresh p = named_header_text name fresh p
words_text (named_product name) fresh p = named_product_text name p
words_text (named_product_header name) fresh p = named_product_header_text name p
