-- The C that our texts are written in, as trees.
use Rattle.std.specs.Prelude.{ℕ, List, Bool, true, ◌&&◌, nat_lt, nat_le, Option, Some, None}
use Rattle.c_meaning.specs.Types.{CType, Suffix}

-- a name: letters, and for many names a number after them
pub record Name : Type 0 where
  pub letters : List ℕ
  pub number : Option ℕ

abbrev pub word : List ℕ → Name
word letters = record { letters = letters; number = None }

abbrev pub numbered : List ℕ → ℕ → Name
numbered letters number = record { letters = letters; number = Some number }

pub data Operator : Type 0 where
  Times : Operator
  Over : Operator
  Modulo : Operator
  Plus : Operator
  Minus : Operator
  ShiftLeft : Operator
  ShiftRight : Operator
  Less : Operator
  AtLeast : Operator
  Equal : Operator
  And : Operator
  Or : Operator

-- what stands on either side of an operator: nothing, or a space
pub data Gap : Type 0 where
  Tight : Gap
  Spaced : Gap

mutual
  pub data CExpr : Type 0 where
    Constant : (number : ℕ) → (suffix : Suffix) → CExpr
    Named : (name : Name) → CExpr
    -- an element of an array, with one index or several
    Element : (array : Name) → (indices : CExprs) → CExpr
    Call : (function : Name) → (arguments : CExprs) → CExpr
    Grouped : (of : CExpr) → CExpr
    Cast : (type : CType) → (of : CExpr) → CExpr
    Complement : (of : CExpr) → CExpr
    Two : (operator : Operator) → (gap : Gap) → (left right : CExpr) → CExpr
    Choice : (test one other : CExpr) → CExpr

  pub data CExprs : Type 0 where
    Nil : CExprs
    Cons : (first : CExpr) → (rest : CExprs) → CExprs

mutual
  pub data CStmt : Type 0 where
    -- an element of an array becomes a value
    Assign : (array : Name) → (indices : CExprs) → (value : CExpr) → CStmt
    -- a value that nothing uses
    Ignore : (value : CExpr) → CStmt
    -- for each value of a new variable, from 0 up to a bound
    For : (type : CType) → (name : Name) → (bound : CExpr) → (body : CStmt) → CStmt
    Block : (body : CStmts) → CStmt

  pub data CStmts : Type 0 where
    Skip : CStmts
    Then : (first : CStmt) → (rest : CStmts) → CStmts

-- a new variable, with its value
pub record Local : Type 0 where
  pub type : CType
  pub name : Name
  pub value : CExpr

-- a new array, with its length for each index
pub record NewArray : Type 0 where
  pub type : CType
  pub name : Name
  pub lengths : CExprs

pub record Parameter : Type 0 where
  pub type : CType
  pub name : Name

-- a function that computes a value
pub record Function : Type 0 where
  pub result : CType
  pub name : Name
  pub parameters : List Parameter
  pub locals : List Local
  pub value : CExpr

-- a function that changes arrays
pub record Procedure : Type 0 where
  pub name : Name
  pub parameter : Parameter
  pub arrays : List NewArray
  pub body : CStmts

-- How tightly an expression is bound (C11, 6.5): 15 one that no operator of those around it can take apart
abbrev pub binding : Operator → ℕ
binding Times = 13
binding Over = 13
binding Modulo = 13
binding Plus = 12
binding Minus = 12
binding ShiftLeft = 11
binding ShiftRight = 11
binding Less = 10
binding AtLeast = 10
binding Equal = 9
binding And = 8
binding Or = 6

abbrev pub level : CExpr → ℕ
level (Cast type of) = 14
level (Complement of) = 14
level (Two operator gap left right) = binding operator
level (Choice test one other) = 3
level _ = 15

-- The tree is the one that C's grammar gives to its text: an operator's left operand is bound as tightly as the
-- operator, and its right one more tightly. An index, an argument, a group and the middle of a choice may be anything
abbrev mutual
  pub is_read_so : CExpr → Bool
  is_read_so (Constant number suffix) = true
  is_read_so (Named name) = true
  is_read_so (Element array indices) = are_read_so indices
  is_read_so (Call function arguments) = are_read_so arguments
  is_read_so (Grouped of) = is_read_so of
  is_read_so (Cast type of) = nat_le 14 (level of) && is_read_so of
  is_read_so (Complement of) = nat_le 14 (level of) && is_read_so of
  is_read_so (Two operator gap left right) =
      (nat_le (binding operator) (level left) && nat_lt (binding operator) (level right))
      && (is_read_so left && is_read_so right)
  is_read_so (Choice test one other) =
      (nat_lt 3 (level test) && nat_le 3 (level other)) && (is_read_so test && (is_read_so one && is_read_so other))

  pub are_read_so : CExprs → Bool
  are_read_so Nil = true
  are_read_so (Cons first rest) = is_read_so first && are_read_so rest

-- so are the expressions of a statement: of an assignment anything, of `(void)` what a cast may be of, and of a loop
-- what `<` may compare with
abbrev mutual
  pub is_stmt_read_so : CStmt → Bool
  is_stmt_read_so (Assign array indices value) = are_read_so indices && is_read_so value
  is_stmt_read_so (Ignore value) = nat_le 14 (level value) && is_read_so value
  is_stmt_read_so (For type name bound body) = nat_lt 10 (level bound) && (is_read_so bound && is_stmt_read_so body)
  is_stmt_read_so (Block body) = are_stmts_read_so body

  pub are_stmts_read_so : CStmts → Bool
  are_stmts_read_so Skip = true
  are_stmts_read_so (Then first rest) = is_stmt_read_so first && are_stmts_read_so rest
