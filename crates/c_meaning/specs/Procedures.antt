-- Small procedures with what they leave. checks/c_meaning.py reads the rows of this file, and compares them with what
-- compilers make of the same texts: a row stands on one line
use Rattle.std.specs.Prelude.{ℕ, ℤ, pos, List, [], ◌∷◌, Bool, true, false, ◌&&◌, ◌==◌, codes}
use Rattle.c_meaning.specs.Types.{Int, Word, Bare, ULL}
use Rattle.c_meaning.specs.Syntax.{Name, word, numbered, Times, Plus, Spaced, CExpr, CExprs, Constant, Named, Element, Call, Two, Nil, Cons, CStmt, CStmts, Assign, Ignore, For, Block, Skip, Then, NewArray, Procedure}
use Rattle.c_meaning.specs.Numbers.{Outcome, Undefined, Defined}
use Rattle.c_meaning.specs.Scopes.{same_letters}
use Rattle.c_meaning.specs.Statements.{alone}
use Rattle.c_meaning.specs.Spelling.{procedure_text}
use Rattle.c_meaning.specs.Units.{CUnit, scope_of, words_of}
use Rattle.c_meaning.specs.Functions.{functions}

-- a text, its tree, the argument, and the words of W that are left
pub record Row : Type 0 where
  pub text : List ℕ
  pub tree : Procedure
  pub argument : ℕ
  pub left : Outcome (List ℕ)

abbrev pub row : List ℕ → Procedure → ℕ → Outcome (List ℕ) → Row
row text tree argument left = record { text = text; tree = tree; argument = argument; left = left }

abbrev pub memory : Name
memory = word (codes "W")

-- what stands before each procedure
abbrev pub front : CUnit
front =
    record {
      comment = codes "small";
      macros =
          record { name = word (codes "M"); number = 17; suffix = ULL }
          ∷ record { name = word (codes "V"); number = 2; suffix = Bare } ∷ [];
      parts = record { name = word (codes "X"); start = 0 } ∷ record { name = word (codes "Y"); start = 4 } ∷ [];
      memory = memory;
      words = 8;
      tables = record { name = numbered (codes "t") 0; entries = 1 ∷ 4 ∷ 16 ∷ [] } ∷ [];
      functions = functions;
      procedures = [];
    }

abbrev pub front_lines : List ℕ
front_lines = codes "/* small */\n#include <stdint.h>\n#define M 17ULL\n#define V 2\n#define X (W + 0)\n#define Y (W + 4)\nstatic uint64_t W[8];\nstatic const uint64_t t0[3] = {1,4,16};\nstatic uint64_t add(uint64_t a, uint64_t b) { uint64_t c = a + b; return c >= M ? c - M : c; }\nstatic uint64_t sub(uint64_t a, uint64_t b) { return a >= b ? a - b : a + M - b; }\nstatic uint64_t mul(uint64_t a, uint64_t b) { return (uint64_t)((unsigned __int128)a * b % M); }\n"

abbrev pub same_words : List (Outcome ℤ) → List ℕ → Bool
same_words [] [] = true
same_words (Defined (pos m) ∷ xs) (n ∷ ns) = m == n && same_words xs ns
same_words _ _ = false

abbrev pub same_left : Outcome (Name → List (Outcome ℤ)) → Outcome (List ℕ) → Bool
same_left Undefined Undefined = true
same_left (Defined words) (Defined left) = same_words (words memory) left
same_left _ _ = false

abbrev pub holds : Row → Bool
holds r =
    same_letters (procedure_text r.tree) r.text
    && same_left (alone (scope_of front) r.tree (pos r.argument) (words_of front)) r.left

-- the procedure `f` with these arrays and statements
abbrev pub f : List NewArray → CStmts → Procedure
f arrays body =
    record {
      name = word (codes "f");
      parameter = record { type = Word; name = word (codes "q") };
      arrays = arrays;
      body = body;
    }

abbrev pub n : ℕ → CExpr
n number = Constant number Bare

abbrev pub q : CExpr
q = Named (word (codes "q"))

abbrev pub v : CExpr
v = Named (numbered (codes "v") 0)

abbrev pub k : CExpr
k = Named (word (codes "k"))

abbrev pub l : CExpr
l = Named (word (codes "l"))

abbrev pub bound : CExpr
bound = Named (word (codes "V"))

abbrev pub plus : CExpr → CExpr → CExpr
plus left right = Two Plus Spaced left right

abbrev pub times : CExpr → CExpr → CExpr
times left right = Two Times Spaced left right

-- an index, and two of them
abbrev pub one : CExpr → CExprs
one i = Cons i Nil

abbrev pub both : CExpr → CExpr → CExprs
both i j = Cons i (Cons j Nil)

abbrev pub X : Name
X = word (codes "X")

abbrev pub Y : Name
Y = word (codes "Y")

abbrev pub r : Name
r = word (codes "r")

abbrev pub registers : List NewArray
registers = record { type = Word; name = r; lengths = both (n 4) bound } ∷ []

abbrev pub lanes : CStmt → CStmt
lanes body = For Int (word (codes "l")) bound body

abbrev pub rows : List Row
rows =
    row (codes "void f(uint64_t q) {\nW[1] = 5;\nW[q] = W[1] + 2;\n}\n") (f [] (Then (Assign memory (one (n 1)) (n 5)) (Then (Assign memory (one q) (plus (Element memory (one (n 1))) (n 2))) Skip))) 3 (Defined (0 ∷ 5 ∷ 0 ∷ 7 ∷ 0 ∷ 0 ∷ 0 ∷ 0 ∷ []))
    ∷ row (codes "void f(uint64_t q) {\nW[q] = 5;\n}\n") (f [] (Then (Assign memory (one q) (n 5)) Skip)) 8 Undefined
    ∷ row (codes "void f(uint64_t q) {\nY[q] = 5;\n}\n") (f [] (Then (Assign Y (one q) (n 5)) Skip)) 3 (Defined (0 ∷ 0 ∷ 0 ∷ 0 ∷ 0 ∷ 0 ∷ 0 ∷ 5 ∷ []))
    ∷ row (codes "void f(uint64_t q) {\nY[q] = 5;\n}\n") (f [] (Then (Assign Y (one q) (n 5)) Skip)) 4 Undefined
    ∷ row (codes "void f(uint64_t q) {\nX[0] = t0[q];\n}\n") (f [] (Then (Assign X (one (n 0)) (Element (numbered (codes "t") 0) (one q))) Skip)) 2 (Defined (16 ∷ 0 ∷ 0 ∷ 0 ∷ 0 ∷ 0 ∷ 0 ∷ 0 ∷ []))
    ∷ row (codes "void f(uint64_t q) {\nX[0] = t0[q];\n}\n") (f [] (Then (Assign X (one (n 0)) (Element (numbered (codes "t") 0) (one q))) Skip)) 3 Undefined
    ∷ row (codes "void f(uint64_t q) {\n(void)q;\nfor (uint64_t v0 = 0; v0 < 3; v0++) {\nX[v0] = v0 * v0 + q;\n}\n}\n") (f [] (Then (Ignore q) (Then (For Word (numbered (codes "v") 0) (n 3) (Block (Then (Assign X (one v) (plus (times v v) q)) Skip))) Skip))) 10 (Defined (10 ∷ 11 ∷ 14 ∷ 0 ∷ 0 ∷ 0 ∷ 0 ∷ 0 ∷ []))
    ∷ row (codes "void f(uint64_t q) {\nfor (uint64_t v0 = 0; v0 < q; v0++) {\nX[v0] = 1;\n}\n}\n") (f [] (Then (For Word (numbered (codes "v") 0) q (Block (Then (Assign X (one v) (n 1)) Skip))) Skip)) 0 (Defined (0 ∷ 0 ∷ 0 ∷ 0 ∷ 0 ∷ 0 ∷ 0 ∷ 0 ∷ []))
    ∷ row (codes "void f(uint64_t q) {\nfor (uint64_t v0 = 0; v0 < q; v0++) {\nX[v0] = 1;\n}\n}\n") (f [] (Then (For Word (numbered (codes "v") 0) q (Block (Then (Assign X (one v) (n 1)) Skip))) Skip)) 9 Undefined
    ∷ row (codes "void f(uint64_t q) {\nuint64_t r[4][V];\nfor (int l = 0; l < V; l++) r[q][l] = 7 + l;\nfor (int l = 0; l < V; l++) Y[q + l] = r[q][l];\n}\n") (f registers (Then (lanes (Assign r (both q l) (plus (n 7) l))) (Then (lanes (Assign Y (one (plus q l)) (Element r (both q l)))) Skip))) 1 (Defined (0 ∷ 0 ∷ 0 ∷ 0 ∷ 0 ∷ 7 ∷ 8 ∷ 0 ∷ []))
    ∷ row (codes "void f(uint64_t q) {\nuint64_t r[4][V];\nr[0][0] = 1;\nX[0] = r[0][q];\n}\n") (f registers (Then (Assign r (both (n 0) (n 0)) (n 1)) (Then (Assign X (one (n 0)) (Element r (both (n 0) q))) Skip))) 0 (Defined (1 ∷ 0 ∷ 0 ∷ 0 ∷ 0 ∷ 0 ∷ 0 ∷ 0 ∷ []))
    ∷ row (codes "void f(uint64_t q) {\nuint64_t r[4][V];\nr[0][0] = 1;\nX[0] = r[0][q];\n}\n") (f registers (Then (Assign r (both (n 0) (n 0)) (n 1)) (Then (Assign X (one (n 0)) (Element r (both (n 0) q))) Skip))) 1 Undefined
    ∷ row (codes "void f(uint64_t q) {\nuint64_t r[4][V];\nr[1][0] = 1;\nX[0] = r[0][q];\n}\n") (f registers (Then (Assign r (both (n 1) (n 0)) (n 1)) (Then (Assign X (one (n 0)) (Element r (both (n 0) q))) Skip))) 2 Undefined
    ∷ row (codes "void f(uint64_t q) {\nuint64_t r[4][V];\nfor (int k = 0; k < V; k++) for (int l = 0; l < V; l++) r[k][l] = q + k * 2 + l;\nfor (int k = 0; k < V; k++) for (int l = 0; l < V; l++) r[2 + k][l] = r[0 + l][k];\nfor (int l = 0; l < V; l++) X[l] = r[2][l];\nfor (int l = 0; l < V; l++) Y[l] = r[3][l];\n}\n") (f registers (Then (For Int (word (codes "k")) bound (lanes (Assign r (both k l) (plus (plus q (times k (n 2))) l)))) (Then (For Int (word (codes "k")) bound (lanes (Assign r (both (plus (n 2) k) l) (Element r (both (plus (n 0) l) k))))) (Then (lanes (Assign X (one l) (Element r (both (n 2) l)))) (Then (lanes (Assign Y (one l) (Element r (both (n 3) l)))) Skip))))) 5 (Defined (5 ∷ 7 ∷ 0 ∷ 0 ∷ 6 ∷ 8 ∷ 0 ∷ 0 ∷ []))
    ∷ row (codes "void f(uint64_t q) {\nX[0] = add(q, 16);\nX[1] = sub(0, q);\nX[2] = mul(q, 16);\nX[3] = sub(q, q);\n}\n") (f [] (Then (Assign X (one (n 0)) (Call (word (codes "add")) (both q (n 16)))) (Then (Assign X (one (n 1)) (Call (word (codes "sub")) (both (n 0) q))) (Then (Assign X (one (n 2)) (Call (word (codes "mul")) (both q (n 16)))) (Then (Assign X (one (n 3)) (Call (word (codes "sub")) (both q q))) Skip))))) 3 (Defined (2 ∷ 14 ∷ 14 ∷ 0 ∷ 0 ∷ 0 ∷ 0 ∷ 0 ∷ []))
    ∷ row (codes "void f(uint64_t q) {\nX[0] = q + 1;\n}\n") (f [] (Then (Assign X (one (n 0)) (plus q (n 1))) Skip)) 18446744073709551615 (Defined (0 ∷ 0 ∷ 0 ∷ 0 ∷ 0 ∷ 0 ∷ 0 ∷ 0 ∷ []))
    ∷ row (codes "void f(uint64_t q) {\nfor (int l = 0; l < q; l++) X[0] = 65536 * l;\n}\n") (f [] (Then (For Int (word (codes "l")) q (Assign X (one (n 0)) (times (n 65536) l))) Skip)) 3 (Defined (131072 ∷ 0 ∷ 0 ∷ 0 ∷ 0 ∷ 0 ∷ 0 ∷ 0 ∷ []))
    ∷ []
