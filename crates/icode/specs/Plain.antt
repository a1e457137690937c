-- Programs as plain data, with lists in place of vectors.
use Rattle.std.specs.Prelude.{ℕ, List, [], ◌∷◌, map, Vec}
use Rattle.std.proofs.Common.{Global}
use Rattle.icode.specs.declared.program.Array.{Array}
use Rattle.icode.specs.declared.program.Op.{Op}
use Rattle.icode.specs.declared.program.Op.TheVariants as ops
use Rattle.icode.specs.declared.program.Part.{Part}
use Rattle.icode.specs.declared.program.Part.TheOpen.{Part-F, Expr-F}
use Rattle.icode.specs.declared.program.Part.TheFolds.{fold-Part, fold-Expr}
use Rattle.icode.specs.declared.program.Expr.{Expr}
use Rattle.icode.specs.declared.program.Stmt.{Stmt}
use Rattle.icode.specs.declared.program.Stmt.TheOpen.{Stmt-F}
use Rattle.icode.specs.declared.program.Stmt.TheFolds.{fold-Stmt}

-- A place: a constant and parts, which are added up
mutual
  pub data PlainExpr : Type 0 where
    Sum : (constant : ℕ) → (parts : PlainParts) → PlainExpr

  pub data PlainParts : Type 0 where
    NoParts : PlainParts
    AndParts : (part : PlainPart) → (rest : PlainParts) → PlainParts

  pub data PlainPart : Type 0 where
    Proc : (factor : ℕ) → PlainPart
    Var : (depth factor : ℕ) → PlainPart
    Product : (outer inner factor : ℕ) → PlainPart
    Rem : (of : PlainExpr) → (divisor factor : ℕ) → PlainPart
    Quot : (of : PlainExpr) → (divisor factor : ℕ) → PlainPart

pub data PlainOp : Type 0 where
  Load : (register : ℕ) → (array : Array) → (place : PlainExpr) → PlainOp
  Store : (array : Array) → (place : PlainExpr) → (register : ℕ) → PlainOp
  Zero : (register : ℕ) → PlainOp
  Add : (register left right : ℕ) → PlainOp
  Sub : (register left right : ℕ) → PlainOp
  Neg : (register source : ℕ) → PlainOp
  MulConst : (register source factor : ℕ) → PlainOp
  MulTable : (register source table : ℕ) → (place : PlainExpr) → (step : ℕ) → PlainOp
  Tile : (register source : ℕ) → PlainOp

mutual
  pub data PlainStmt : Type 0 where
    Loop : (count : ℕ) → (body : PlainBody) → PlainStmt
    Do : (op : PlainOp) → PlainStmt

  pub data PlainBody : Type 0 where
    NoStmts : PlainBody
    AndStmts : (stmt : PlainStmt) → (rest : PlainBody) → PlainBody

pub record PlainProgram : Type 0 where
  pub size : ℕ
  pub modulus : ℕ
  pub procs : ℕ
  pub line : ℕ
  pub lanes : ℕ
  pub regs : ℕ
  pub tables : List (List ℕ)
  pub phases : List PlainBody

-- The views of the code's types

abbrev pub parts_of : List PlainPart → PlainParts
parts_of [] = NoParts
parts_of (part ∷ parts) = AndParts part (parts_of parts)

abbrev pub part_view : Part-F PlainPart PlainExpr → PlainPart
part_view (Part-F.Proc factor) = Proc factor
part_view (Part-F.Var depth factor) = Var depth factor
part_view (Part-F.Product outer inner factor) = Product outer inner factor
part_view (Part-F.Rem of divisor factor) = Rem of divisor factor
part_view (Part-F.Quot of divisor factor) = Quot of divisor factor

abbrev pub expr_view : Expr-F PlainPart PlainExpr → PlainExpr
expr_view e = Sum e.constant (parts_of e.parts.items)

abbrev pub plain_expr : Expr → PlainExpr
plain_expr = fold-Expr PlainPart PlainExpr part_view expr_view

abbrev pub plain_part : Part → PlainPart
plain_part = fold-Part PlainPart PlainExpr part_view expr_view

abbrev pub plain_op : Op → PlainOp
plain_op (ops.Load register array place) = Load register array (plain_expr place)
plain_op (ops.Store array place register) = Store array (plain_expr place) register
plain_op (ops.Zero register) = Zero register
plain_op (ops.Add register left right) = Add register left right
plain_op (ops.Sub register left right) = Sub register left right
plain_op (ops.Neg register source) = Neg register source
plain_op (ops.MulConst register source factor) = MulConst register source factor
plain_op (ops.MulTable register source table place step) = MulTable register source table (plain_expr place) step
plain_op (ops.Tile register source) = Tile register source

abbrev pub body_of : List PlainStmt → PlainBody
body_of [] = NoStmts
body_of (stmt ∷ stmts) = AndStmts stmt (body_of stmts)

abbrev pub stmt_view : Stmt-F PlainStmt → PlainStmt
stmt_view (Stmt-F.Loop count body) = Loop count (body_of body.items)
stmt_view (Stmt-F.Do op) = Do (plain_op op)

abbrev pub plain_stmt : Stmt → PlainStmt
plain_stmt = fold-Stmt PlainStmt stmt_view

abbrev pub plain_body : List Stmt → PlainBody
plain_body body = body_of (map plain_stmt body)

abbrev pub plain_tables : List (Vec ℕ Global) → List (List ℕ)
plain_tables tables = map (λ entries. entries.items) tables

abbrev pub plain_phases : List (Vec Stmt Global) → List PlainBody
plain_phases phases = map (λ body. plain_body body.items) phases
