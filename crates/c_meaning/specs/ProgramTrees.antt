-- The tree of the C text of a program.
use Rattle.std.specs.Prelude.{ℕ, ◌+◌, ◌*◌, List, [], ◌∷◌, codes}
use Rattle.icode.specs.declared.program.Array.{Array}
use Rattle.icode.specs.declared.program.Array.TheVariants as arrays
use Rattle.icode.specs.Plain.{PlainExpr, PlainOp, PlainStmt, PlainBody, PlainProgram, Load, Store, Zero, Add, Sub, Neg, MulConst, MulTable, Tile, Loop, Do, NoStmts, AndStmts}
use Rattle.icode.specs.Machine.{whole_lines}
use Rattle.listing_text.specs.Listing.{header_text}
use Rattle.listing_text.specs.Wording.{header_of}
use Rattle.c_meaning.specs.Types.{Int, Word, Bare, ULL}
use Rattle.c_meaning.specs.Syntax.{Name, word, numbered, Times, Plus, Spaced, CExpr, CExprs, Constant, Named, Element, Call, Two, Nil, Cons, CStmt, CStmts, Assign, Ignore, For, Block, Skip, Then, Procedure}
use Rattle.c_meaning.specs.Units.{Table, CUnit}
use Rattle.c_meaning.specs.Functions.{modulus_name, functions}
use Rattle.c_meaning.specs.PlaceTrees.{processor, loop_variable, place_tree}

abbrev pub lanes_name : Name
lanes_name = word (codes "V")

abbrev pub memory_name : Name
memory_name = word (codes "W")

abbrev pub registers_name : Name
registers_name = word (codes "r")

abbrev pub lane : Name
lane = word (codes "l")

-- a register of a tile
abbrev pub row : Name
row = word (codes "k")

abbrev pub table_name : ℕ → Name
table_name number = numbered (codes "t") number

abbrev pub array_name : Array → Name
array_name arrays.X = word (codes "X")
array_name arrays.Y = word (codes "Y")
array_name arrays.A = word (codes "A")
array_name arrays.B = word (codes "B")

abbrev pub number : ℕ → CExpr
number n = Constant n Bare

-- for each lane, and lane l of a register
abbrev pub each_lane : CStmt → CStmt
each_lane body = For Int lane (Named lanes_name) body

abbrev pub lane_of : ℕ → CExprs
lane_of register = Cons (number register) (Cons (Named lane) Nil)

abbrev pub register : ℕ → CExpr
register r = Element registers_name (lane_of r)

-- lane l of a register becomes a value
abbrev pub becomes : ℕ → CExpr → CStmt
becomes r value = each_lane (Assign registers_name (lane_of r) value)

abbrev pub call : List ℕ → CExpr → CExpr → CExpr
call function left right = Call (word function) (Cons left (Cons right Nil))

-- the word of lane l at a place
abbrev pub at_lane : PlainExpr → CExprs
at_lane place = Cons (Two Plus Spaced (place_tree place) (Named lane)) Nil

-- the entry for lane l at a place, with a step from lane to lane
abbrev pub at_step : PlainExpr → ℕ → CExprs
at_step place step = Cons (Two Plus Spaced (place_tree place) (Two Times Spaced (number step) (Named lane))) Nil

abbrev pub op_tree : PlainOp → CStmt
op_tree (Load r array place) = becomes r (Element (array_name array) (at_lane place))
op_tree (Store array place r) = each_lane (Assign (array_name array) (at_lane place) (register r))
op_tree (Zero r) = becomes r (number 0)
op_tree (Add r x y) = becomes r (call (codes "add") (register x) (register y))
op_tree (Sub r x y) = becomes r (call (codes "sub") (register x) (register y))
op_tree (Neg r x) = becomes r (call (codes "sub") (number 0) (register x))
op_tree (MulConst r x factor) = becomes r (call (codes "mul") (register x) (number factor))
op_tree (MulTable r x table place step) =
    becomes r (call (codes "mul") (register x) (Element (table_name table) (at_step place step)))
op_tree (Tile r x) =
    For Int row (Named lanes_name) (each_lane
    (Assign registers_name (Cons (Two Plus Spaced (number r) (Named row)) (Cons (Named lane) Nil))
    (Element registers_name (Cons (Two Plus Spaced (number x) (Named lane)) (Cons (Named row) Nil)))))

-- statements inside a number of loops
abbrev mutual
  pub stmt_tree : ℕ → PlainStmt → CStmt
  stmt_tree depth (Loop count body) = For Word (loop_variable depth) (number count) (Block (body_tree (depth + 1) body))
  stmt_tree depth (Do op) = op_tree op

  pub body_tree : ℕ → PlainBody → CStmts
  body_tree depth NoStmts = Skip
  body_tree depth (AndStmts stmt rest) = Then (stmt_tree depth stmt) (body_tree depth rest)

abbrev pub phase_tree : ℕ → ℕ → PlainBody → Procedure
phase_tree regs phase body =
    record {
      name = numbered (codes "phase") phase;
      parameter = record { type = Word; name = processor };
      arrays =
          record { type = Word; name = registers_name; lengths = Cons (number regs) (Cons (Named lanes_name) Nil) }
          ∷ [];
      body = Then (Ignore (Named processor)) (body_tree 0 body);
    }

-- the tables, and the phases, from this number on
abbrev pub table_trees : ℕ → List (List ℕ) → List Table
table_trees table [] = []
table_trees table (entries ∷ tables) =
    record { name = table_name table; entries = entries } ∷ table_trees (table + 1) tables

abbrev pub phase_trees : ℕ → ℕ → List PlainBody → List Procedure
phase_trees regs phase [] = []
phase_trees regs phase (body ∷ phases) = phase_tree regs phase body ∷ phase_trees regs (phase + 1) phases

abbrev pub unit_of : PlainProgram → CUnit
unit_of p =
    let words = whole_lines p.size p.line in
    record {
      comment = header_text (header_of p);
      macros =
          record { name = modulus_name; number = p.modulus; suffix = ULL }
          ∷ record { name = lanes_name; number = p.lanes; suffix = Bare }
          ∷ [];
      parts =
          record { name = array_name arrays.X; start = 0 }
          ∷ record { name = array_name arrays.Y; start = words }
          ∷ record { name = array_name arrays.A; start = 2 * words }
          ∷ record { name = array_name arrays.B; start = 3 * words }
          ∷ [];
      memory = memory_name;
      words = 4 * words;
      tables = table_trees 0 p.tables;
      functions = functions;
      procedures = phase_trees p.regs 0 p.phases;
    }
