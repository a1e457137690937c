-- The C text of a program: its statements and expressions are those of the listing, each in the words of C.
use Rattle.std.specs.Prelude.{ℕ, ◌*◌, List, [], ◌∷◌, ◌++◌, length, codes, decimal, flat_map}
use Rattle.icode.specs.Plain.{PlainOp, PlainProgram, Load, Store, Zero, Add, Sub, Neg, MulConst, MulTable, Tile}
use Rattle.icode.specs.Machine.{whole_lines}
use Rattle.listing_text.specs.declared.draft.Header.{Header}
use Rattle.listing_text.specs.Wording.{PlainAct, Open, Close, Do, Wording, text_of}
use Rattle.listing_text.specs.Numbers.{numbered_text}
use Rattle.listing_text.specs.Listing.{sum_text, array_text, header_text}

-- for each lane l, the rest of the line
unfoldable pub lane_loop : List ℕ
lane_loop = codes "for (int l = 0; l < V; l++) "

unfoldable pub tile_loops : List ℕ
tile_loops = codes "for (int k = 0; k < V; k++) for (int l = 0; l < V; l++) "

-- lane l of a register
abbrev pub lane_text : ℕ → List ℕ
lane_text register = codes "r[" ++ decimal register ++ codes "][l]"

-- lane l of a register becomes what the text after it says
abbrev pub becomes_text : ℕ → List ℕ
becomes_text register = lane_loop ++ lane_text register ++ codes " = "

unfoldable pub c_op_text : PlainOp → List ℕ
c_op_text (Load register array place) = becomes_text register ++ array_text array ++ codes "[" ++ sum_text place ++ codes " + l];"
c_op_text (Store array place register) = lane_loop ++ array_text array ++ codes "[" ++ sum_text place ++ codes " + l] = " ++ lane_text register ++ codes ";"
c_op_text (Zero register) = becomes_text register ++ codes "0;"
c_op_text (Add register left right) = becomes_text register ++ codes "add(" ++ lane_text left ++ codes ", " ++ lane_text right ++ codes ");"
c_op_text (Sub register left right) = becomes_text register ++ codes "sub(" ++ lane_text left ++ codes ", " ++ lane_text right ++ codes ");"
c_op_text (Neg register source) = becomes_text register ++ codes "sub(0, " ++ lane_text source ++ codes ");"
c_op_text (MulConst register source factor) = becomes_text register ++ codes "mul(" ++ lane_text source ++ codes ", " ++ decimal factor ++ codes ");"
c_op_text (MulTable register source table place step) =
    becomes_text register ++ codes "mul(" ++ lane_text source ++ codes ", t" ++ decimal table ++ codes "[" ++ sum_text place ++ codes " + " ++ decimal step ++ codes " * l]);"
c_op_text (Tile register source) = tile_loops ++ codes "r[" ++ decimal register ++ codes " + k][l] = r[" ++ decimal source ++ codes " + l][k];"

-- the loop at this depth begins
unfoldable pub loop_text : ℕ → ℕ → List ℕ
loop_text depth count = codes "for (uint64_t v" ++ decimal depth ++ codes " = 0; v" ++ decimal depth ++ codes " < " ++ decimal count ++ codes "; v" ++ decimal depth ++ codes "++) {\n"

-- a line of a phase: a loop's begin, an end, or an operation
abbrev pub c_line_text : PlainAct → List ℕ
c_line_text (Open depth count) = loop_text depth count
c_line_text Close = codes "}\n"
c_line_text (Do op) = c_op_text op ++ codes "\n"

-- the first line: the header of the listing, in a comment
abbrev pub c_header_text : Header → List ℕ
c_header_text h = codes "/* " ++ header_text h ++ codes " */\n"

-- the modulus, the lanes, and the memory with its four arrays, whose words are given
unfoldable pub front_text : ℕ → ℕ → ℕ → List ℕ
front_text modulus lanes words =
    codes "#include <stdint.h>\n" ++ numbered_text (codes "#define M ") modulus (codes "ULL\n") ++ numbered_text (codes "#define V ") lanes (codes "\n")
    ++ codes "#define X (W + 0)\n" ++ numbered_text (codes "#define Y (W + ") words (codes ")\n") ++ numbered_text (codes "#define A (W + ") (2 * words) (codes ")\n")
    ++ numbered_text (codes "#define B (W + ") (3 * words) (codes ")\n") ++ numbered_text (codes "static uint64_t W[") (4 * words) (codes "];\n")

abbrev pub joined_text : List ℕ → List ℕ
joined_text [] = []
joined_text (c ∷ cs) = decimal c ++ flat_map (λ c. codes "," ++ decimal c) cs

unfoldable pub c_table_text : ℕ → List ℕ → List ℕ
c_table_text number entries = codes "static const uint64_t t" ++ decimal number ++ codes "[" ++ decimal (length entries) ++ codes "] = {" ++ joined_text entries ++ codes "};\n"

-- the sum, the difference and the product of two residues
unfoldable pub add_text : List ℕ
add_text = codes "static uint64_t add(uint64_t a, uint64_t b) { uint64_t c = a + b; return c >= M ? c - M : c; }\n"

unfoldable pub sub_text : List ℕ
sub_text = codes "static uint64_t sub(uint64_t a, uint64_t b) { return a >= b ? a - b : a + M - b; }\n"

unfoldable pub mul_text : List ℕ
mul_text = codes "static uint64_t mul(uint64_t a, uint64_t b) { return (uint64_t)((unsigned __int128)a * b % M); }\n"

unfoldable pub functions_text : List ℕ
functions_text = add_text ++ sub_text ++ mul_text

-- how a phase begins, given the program's registers and the phase's number
unfoldable pub phase_start_text : ℕ → ℕ → List ℕ
phase_start_text regs number = numbered_text (codes "void phase") number (codes "(uint64_t q) {\n") ++ numbered_text (codes "uint64_t r[") regs (codes "][V];\n") ++ codes "(void)q;\n"

abbrev pub c_wording : Wording
c_wording = record {
  header = c_header_text;
  front = λ h. front_text h.modulus h.lanes (whole_lines h.size h.line);
  table = c_table_text;
  between = functions_text;
  phase = phase_start_text;
  line = c_line_text;
}

abbrev pub c_text_of : PlainProgram → List ℕ
c_text_of p = text_of c_wording p
