-- The text of a tree.
use Rattle.std.specs.Prelude.{ℕ, List, [], ◌∷◌, ◌++◌, Option, Some, None, codes, decimal, flat_map}
use Rattle.c_meaning.specs.Types.{CType, Short, Int, Half, Long, Word, Wide, Suffix, Bare, U, ULL}
use Rattle.c_meaning.specs.Syntax.{Name, Operator, Times, Over, Modulo, Plus, Minus, ShiftLeft, ShiftRight, Less, AtLeast, Equal, And, Or, Gap, Tight, Spaced, CExpr, CExprs, Constant, Named, Element, Call, Grouped, Cast, Complement, Two, Choice, Nil, Cons, CStmt, CStmts, Assign, Ignore, For, Block, Skip, Then, Local, NewArray, Parameter, Function, Procedure}

abbrev pub with_number : List ℕ → Option ℕ → List ℕ
with_number letters None = letters
with_number letters (Some n) = letters ++ decimal n

abbrev pub name_text : Name → List ℕ
name_text name = with_number name.letters name.number

abbrev pub type_text : CType → List ℕ
type_text Short = codes "uint16_t"
type_text Int = codes "int"
type_text Half = codes "uint32_t"
type_text Long = codes "int64_t"
type_text Word = codes "uint64_t"
type_text Wide = codes "unsigned __int128"

abbrev pub constant_text : Suffix → ℕ → List ℕ
constant_text Bare n = decimal n
constant_text U n = decimal n ++ codes "u"
constant_text ULL n = decimal n ++ codes "ULL"

abbrev pub operator_text : Operator → List ℕ
operator_text Times = codes "*"
operator_text Over = codes "/"
operator_text Modulo = codes "%"
operator_text Plus = codes "+"
operator_text Minus = codes "-"
operator_text ShiftLeft = codes "<<"
operator_text ShiftRight = codes ">>"
operator_text Less = codes "<"
operator_text AtLeast = codes ">="
operator_text Equal = codes "=="
operator_text And = codes "&"
operator_text Or = codes "|"

abbrev pub between : Gap → List ℕ → List ℕ
between Tight text = text
between Spaced text = codes " " ++ (text ++ codes " ")

abbrev mutual
  pub expr_text : CExpr → List ℕ
  expr_text (Constant number suffix) = constant_text suffix number
  expr_text (Named name) = name_text name
  expr_text (Element array indices) = name_text array ++ indices_text indices
  expr_text (Call function arguments) = name_text function ++ (codes "(" ++ arguments_text arguments)
  expr_text (Grouped of) = codes "(" ++ expr_text of ++ codes ")"
  expr_text (Cast type of) = codes "(" ++ type_text type ++ codes ")" ++ expr_text of
  expr_text (Complement of) = codes "~" ++ expr_text of
  expr_text (Two operator gap left right) = expr_text left ++ (between gap (operator_text operator) ++ expr_text right)
  expr_text (Choice test one other) = expr_text test ++ codes " ? " ++ expr_text one ++ codes " : " ++ expr_text other

  pub indices_text : CExprs → List ℕ
  indices_text Nil = []
  indices_text (Cons first rest) = codes "[" ++ expr_text first ++ (codes "]" ++ indices_text rest)

  -- with the parenthesis after them
  pub arguments_text : CExprs → List ℕ
  arguments_text Nil = codes ")"
  arguments_text (Cons first rest) = expr_text first ++ more_arguments_text rest

  pub more_arguments_text : CExprs → List ℕ
  more_arguments_text Nil = codes ")"
  more_arguments_text (Cons first rest) = codes ", " ++ (expr_text first ++ more_arguments_text rest)

-- a statement, and statements with a line each
abbrev mutual
  pub stmt_text : CStmt → List ℕ
  stmt_text (Assign array indices value) =
      name_text array ++ indices_text indices ++ (codes " = " ++ (expr_text value ++ codes ";"))
  stmt_text (Ignore value) = codes "(void)" ++ expr_text value ++ codes ";"
  stmt_text (For type name bound body) =
      codes "for (" ++ type_text type ++ codes " " ++ name_text name ++ codes " = 0; " ++ name_text name ++ codes " < "
      ++ expr_text bound ++ codes "; " ++ name_text name ++ codes "++) " ++ stmt_text body
  stmt_text (Block body) = codes "{\n" ++ stmts_text body ++ codes "}"

  pub stmts_text : CStmts → List ℕ
  stmts_text Skip = []
  stmts_text (Then first rest) = stmt_text first ++ codes "\n" ++ stmts_text rest

abbrev pub parameter_text : Parameter → List ℕ
parameter_text p = type_text p.type ++ codes " " ++ name_text p.name

abbrev pub parameters_text : List Parameter → List ℕ
parameters_text [] = []
parameters_text (p ∷ ps) = parameter_text p ++ flat_map (λ p. codes ", " ++ parameter_text p) ps

abbrev pub local_text : Local → List ℕ
local_text l = type_text l.type ++ codes " " ++ name_text l.name ++ codes " = " ++ expr_text l.value ++ codes "; "

abbrev pub function_text : Function → List ℕ
function_text f =
    codes "static " ++ type_text f.result ++ codes " " ++ name_text f.name ++ codes "("
    ++ parameters_text f.parameters ++ codes ") { " ++ flat_map local_text f.locals
    ++ codes "return " ++ expr_text f.value ++ codes "; }\n"

abbrev pub array_text : NewArray → List ℕ
array_text a = type_text a.type ++ codes " " ++ name_text a.name ++ indices_text a.lengths ++ codes ";\n"

abbrev pub procedure_text : Procedure → List ℕ
procedure_text p =
    codes "void " ++ name_text p.name ++ (codes "(" ++ parameter_text p.parameter ++ codes ") {\n")
    ++ flat_map array_text p.arrays ++ stmts_text p.body ++ codes "}\n"
