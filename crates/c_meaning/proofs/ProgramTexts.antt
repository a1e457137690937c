-- The C text of a program is that of its tree.
use Rattle.std.proofs.Common.{◌≡◌, ℕ, ◌+◌, ◌*◌, List, [], ◌∷◌, ◌++◌, codes, decimal, refl, sym, ap, ap₂, ◌∙◌, append_assoc}
use Rattle.std.proofs.lemmas.List.{append-nil}
use Rattle.std.specs.Fmt.{digits}
use Rattle.std.specs.Prelude.{flat_map}
use Rattle.icode.specs.declared.program.Array.{Array}
use Rattle.icode.specs.declared.program.Array.TheVariants as arrays
use Rattle.icode.specs.Machine.{whole_lines}
use Rattle.icode.specs.Plain.{PlainExpr, PlainOp, PlainStmt, PlainBody, Load, Store, Zero, Add, Sub, Neg, MulConst, MulTable, Tile, Loop, Do, NoStmts, AndStmts}
use Rattle.listing_text.specs.Listing.{sum_text, array_text, header_text}
use Rattle.listing_text.specs.Wording.{header_of, stmt_lines, body_lines, tables_text, phases_text}
use Rattle.c_print.specs.CText.{lane_text, becomes_text, lane_loop, tile_loops, c_op_text, loop_text, c_line_text, front_text, c_table_text, phase_start_text, c_wording}
use Rattle.c_meaning.specs.Syntax.{CExpr, Element}
use Rattle.c_meaning.specs.Spelling.{expr_text, name_text, stmt_text, stmts_text, procedure_text}
use Rattle.c_meaning.specs.Units as units
use Rattle.c_meaning.specs.PlaceTrees.{place_tree}
use Rattle.c_meaning.specs.Types.{Bare, ULL}
use Rattle.c_meaning.specs.Functions.{modulus_name}
use Rattle.c_meaning.specs.ProgramTrees.{lanes_name, memory_name, number, register, call, becomes, at_lane, at_step, table_name, array_name, op_tree, stmt_tree, body_tree, phase_tree, phase_trees, table_trees, unit_of}
use Rattle.c_meaning.specs.ProgramLaws.{ProgramsAreTrees}
use Rattle.c_meaning.proofs.PlaceTexts.{places_are_trees}
use Rattle.c_meaning.proofs.FunctionValues.{functions_are_trees}

array_is : (array : Array) → name_text (array_name array) ≡ array_text array
array_is arrays.X = refl
array_is _ = refl

place_is : (place : PlainExpr) → expr_text (place_tree place) ≡ sum_text place
place_is place = sym (places_are_trees place).0

-- what a register becomes
becomes_shape : (loop lane is value : List ℕ) → loop ++ (lane ++ (is ++ value)) ≡ (loop ++ lane ++ is) ++ value
becomes_shape loop lane is value = simp append_assoc

becomes_is : (r : ℕ) (value : CExpr) → stmt_text (becomes r value) ≡ becomes_text r ++ (expr_text value ++ codes ";")
unfolding lane_loop
becomes_is r value = becomes_shape lane_loop (lane_text r) (codes " = ") (expr_text value ++ codes ";")

load_shape : (start array opened place lane closed end : List ℕ) → start ++ ((array ++ (opened ++ (place ++ lane) ++ closed)) ++ end)
    ≡ start ++ array ++ opened ++ place ++ (lane ++ closed ++ end)
load_shape start array opened place lane closed end = simp append_assoc

store_shape : (start array opened place lane closed is register end : List ℕ) →
    start ++ ((array ++ (opened ++ (place ++ lane) ++ closed)) ++ (is ++ (register ++ end)))
    ≡ start ++ array ++ opened ++ place ++ (lane ++ closed ++ is) ++ register ++ end
store_shape start array opened place lane closed is register end = simp append_assoc

table_shape : (start name left comma t table opened place plus step times closed ended end : List ℕ) →
    start ++ ((name ++ (left ++ (comma ++ (((t ++ table) ++ (opened ++ (place ++ (plus ++ (step ++ times))) ++ closed)) ++ ended)))) ++ end)
    ≡ start ++ name ++ left ++ (comma ++ t) ++ table ++ opened ++ place ++ plus ++ step ++ (times ++ closed ++ ended ++ end)
table_shape start name left comma t table opened place plus step times closed ended end = simp append_assoc

call_shape : (start name left comma right closed end : List ℕ) → start ++ ((name ++ (left ++ (comma ++ (right ++ closed)))) ++ end)
    ≡ start ++ name ++ left ++ comma ++ right ++ (closed ++ end)
call_shape start name left comma right closed end = simp append_assoc

negation_shape : (start name right closed end : List ℕ) → start ++ ((name ++ (right ++ closed)) ++ end)
    ≡ start ++ name ++ right ++ (closed ++ end)
negation_shape start name right closed end = simp append_assoc

tile_shape : (loops opened r k closed is x l ended end : List ℕ) →
    loops ++ ((opened ++ ((r ++ k) ++ closed)) ++ (is ++ ((opened ++ ((x ++ l) ++ ended)) ++ end)))
    ≡ loops ++ opened ++ r ++ (k ++ closed ++ is ++ opened) ++ x ++ (l ++ ended ++ end)
tile_shape loops opened r k closed is x l ended end = simp append_assoc

op_is : (op : PlainOp) → stmt_text (op_tree op) ≡ c_op_text op
unfolding c_op_text lane_loop tile_loops digits
op_is (Load r array place) =
    becomes_is r (Element (array_name array) (at_lane place))
    ∙ ap₂ (λ a t. becomes_text r ++ ((a ++ (codes "[" ++ (t ++ codes " + l") ++ codes "]")) ++ codes ";")) (array_is array) (place_is place)
    ∙ load_shape (becomes_text r) (array_text array) (codes "[") (sum_text place) (codes " + l") (codes "]") (codes ";")
op_is (Store array place r) =
    ap₂ (λ a t. lane_loop ++ ((a ++ (codes "[" ++ (t ++ codes " + l") ++ codes "]")) ++ (codes " = " ++ (lane_text r ++ codes ";")))) (array_is array) (place_is place)
    ∙ store_shape lane_loop (array_text array) (codes "[") (sum_text place) (codes " + l") (codes "]") (codes " = ") (lane_text r) (codes ";")
op_is (Zero r) = becomes_is r (number 0)
op_is (Add r x y) = becomes_is r (call (codes "add") (register x) (register y)) ∙ call_shape (becomes_text r) (codes "add(") (lane_text x) (codes ", ") (lane_text y) (codes ")") (codes ";")
op_is (Sub r x y) = becomes_is r (call (codes "sub") (register x) (register y)) ∙ call_shape (becomes_text r) (codes "sub(") (lane_text x) (codes ", ") (lane_text y) (codes ")") (codes ";")
op_is (Neg r x) = becomes_is r (call (codes "sub") (number 0) (register x)) ∙ negation_shape (becomes_text r) (codes "sub(0, ") (lane_text x) (codes ")") (codes ";")
op_is (MulConst r x factor) = becomes_is r (call (codes "mul") (register x) (number factor)) ∙ call_shape (becomes_text r) (codes "mul(") (lane_text x) (codes ", ") (decimal factor) (codes ")") (codes ";")
op_is (MulTable r x table place step) =
    becomes_is r (call (codes "mul") (register x) (Element (table_name table) (at_step place step)))
    ∙ ap (λ t. becomes_text r ++ ((codes "mul(" ++ (lane_text x ++ (codes ", " ++ (((codes "t" ++ decimal table) ++ (codes "[" ++ (t ++ (codes " + " ++ (decimal step ++ codes " * l"))) ++ codes "]")) ++ codes ")")))) ++ codes ";")) (place_is place)
    ∙ table_shape (becomes_text r) (codes "mul(") (lane_text x) (codes ", ") (codes "t") (decimal table) (codes "[") (sum_text place) (codes " + ") (decimal step) (codes " * l") (codes "]") (codes ")") (codes ";")
op_is (Tile r x) = tile_shape tile_loops (codes "r[") (decimal r) (codes " + k") (codes "][l]") (codes " = ") (decimal x) (codes " + l") (codes "][k]") (codes ";")

loop_shape : (start v depth zero less count next more opened body closed end : List ℕ) →
    (start ++ (v ++ depth) ++ zero ++ (v ++ depth) ++ less ++ count ++ next ++ (v ++ depth) ++ more ++ (opened ++ body ++ closed)) ++ end
    ≡ ((start ++ v) ++ depth ++ (zero ++ v) ++ depth ++ less ++ count ++ (next ++ v) ++ depth ++ (more ++ opened)) ++ body ++ (closed ++ end)
loop_shape start v depth zero less count next more opened body closed end = simp append_assoc

mutual
  unfolding loop_text

  stmt_is : (depth : ℕ) (stmt : PlainStmt) → stmt_text (stmt_tree depth stmt) ++ codes "\n" ≡ stmt_lines c_line_text depth stmt
  stmt_is depth (Loop count body) =
      loop_shape (codes "for (uint64_t ") (codes "v") (decimal depth) (codes " = 0; ") (codes " < ") (decimal count) (codes "; ") (codes "++) ")
      (codes "{\n") (stmts_text (body_tree (depth + 1) body)) (codes "}") (codes "\n")
      ∙ ap (λ t. loop_text depth count ++ t ++ codes "}\n") (body_is (depth + 1) body)
  stmt_is depth (Do op) = ap (λ t. t ++ codes "\n") (op_is op)

  body_is : (depth : ℕ) (body : PlainBody) → stmts_text (body_tree depth body) ≡ body_lines c_line_text depth body
  body_is depth NoStmts = refl
  body_is depth (AndStmts stmt rest) = ap₂ (λ a b. a ++ b) (stmt_is depth stmt) (body_is depth rest)

phase_shape : (start phase parameter array regs closed end ignored body last : List ℕ) →
    start ++ phase ++ parameter ++ (((array ++ (regs ++ closed)) ++ end) ++ []) ++ (ignored ++ body) ++ last
    ≡ ((start ++ phase ++ parameter) ++ (array ++ regs ++ (closed ++ end)) ++ ignored) ++ body ++ last
phase_shape start phase parameter array regs closed end ignored body last = simp (append_assoc, append-nil)

phase_is : (regs phase : ℕ) (body : PlainBody) → procedure_text (phase_tree regs phase body)
    ≡ phase_start_text regs phase ++ body_lines c_line_text 0 body ++ codes "}\n"
unfolding phase_start_text
phase_is regs phase body =
    phase_shape (codes "void phase") (decimal phase) (codes "(uint64_t q) {\n") (codes "uint64_t r[") (decimal regs) (codes "][V]") (codes ";\n")
    (codes "(void)q;\n") (stmts_text (body_tree 0 body)) (codes "}\n")
    ∙ ap (λ t. phase_start_text regs phase ++ t ++ codes "}\n") (body_is 0 body)

phases_are : (regs phase : ℕ) (phases : List PlainBody) → flat_map procedure_text (phase_trees regs phase phases)
    ≡ phases_text c_wording regs phase phases
phases_are regs phase [] = refl
phases_are regs phase (body ∷ phases) = ap₂ (λ a b. a ++ b) (phase_is regs phase body) (phases_are regs (phase + 1) phases)

tables_are : (number : ℕ) (tables : List (List ℕ)) → flat_map units.table_text (table_trees number tables) ≡ tables_text c_wording number tables
unfolding c_table_text
tables_are number [] = refl
tables_are number (entries ∷ tables) = ap (λ t. c_table_text number entries ++ t) (tables_are (number + 1) tables)

front_shape : (include m modulus ull end v lanes x zero closed y second a third b fourth memory words last : List ℕ) →
    include ++ (((m ++ (modulus ++ ull) ++ end) ++ ((v ++ lanes ++ end) ++ [])) ++ (((x ++ zero ++ closed) ++ ((y ++ second ++ closed) ++ ((a ++ third ++ closed) ++ ((b ++ fourth ++ closed) ++ []))))
    ++ (memory ++ words ++ last)))
    ≡ include ++ (m ++ modulus ++ (ull ++ end)) ++ (v ++ lanes ++ end) ++ (x ++ zero ++ closed) ++ (y ++ second ++ closed) ++ (a ++ third ++ closed)
    ++ (b ++ fourth ++ closed) ++ (memory ++ words ++ last)
front_shape include m modulus ull end v lanes x zero closed y second a third b fourth memory words last = simp (append_assoc, append-nil)

zero_is : decimal 0 ≡ codes "0"
unfolding digits
zero_is = refl

front_is : (modulus lanes words : ℕ) (u : units.CUnit) → units.front_text (record u {
  macros = record { name = modulus_name; number = modulus; suffix = ULL } ∷ record { name = lanes_name; number = lanes; suffix = Bare } ∷ [];
  parts =
      record { name = array_name arrays.X; start = 0 }
      ∷ record { name = array_name arrays.Y; start = words }
      ∷ record { name = array_name arrays.A; start = 2 * words }
      ∷ record { name = array_name arrays.B; start = 3 * words }
      ∷ [];
  memory = memory_name;
  words = 4 * words;
}) ≡ front_text modulus lanes words
unfolding front_text
front_is modulus lanes words u =
    front_shape (codes "#include <stdint.h>\n") (codes "#define M ") (decimal modulus) (codes "ULL") (codes "\n") (codes "#define V ") (decimal lanes)
    (codes "#define X (W + ") (decimal 0) (codes ")\n") (codes "#define Y (W + ") (decimal words) (codes "#define A (W + ") (decimal (2 * words))
    (codes "#define B (W + ") (decimal (3 * words)) (codes "static uint64_t W[") (decimal (4 * words)) (codes "];\n")
    ∙ ap (λ zero. codes "#include <stdint.h>\n" ++ (codes "#define M " ++ decimal modulus ++ codes "ULL\n") ++ (codes "#define V " ++ decimal lanes ++ codes "\n")
    ++ (codes "#define X (W + " ++ zero ++ codes ")\n") ++ (codes "#define Y (W + " ++ decimal words ++ codes ")\n")
    ++ (codes "#define A (W + " ++ decimal (2 * words) ++ codes ")\n") ++ (codes "#define B (W + " ++ decimal (3 * words) ++ codes ")\n")
    ++ (codes "static uint64_t W[" ++ decimal (4 * words) ++ codes "];\n")) zero_is

together : (h f f' t t' a a' b b' : List ℕ) → f ≡ f' → t ≡ t' → a ≡ a' → b ≡ b' → h ++ f ++ t ++ (a ++ b) ≡ h ++ f' ++ t' ++ (a' ++ b')
together h f f' t t' a a' b b' i j k l = ap₂ (λ x y. x ++ y) (ap₂ (λ x y. h ++ x ++ y) i j) (ap₂ (λ x y. x ++ y) k l)

pub programs_are_trees : ProgramsAreTrees
programs_are_trees p =
    sym
    (together (codes "/* " ++ header_text (header_of p) ++ codes " */\n") _ _ _ _ _ _ _ _
    (front_is p.modulus p.lanes (whole_lines p.size p.line) (unit_of p)) (tables_are 0 p.tables) (sym functions_are_trees.0)
    (phases_are p.regs 0 p.phases))
