-- The views of the code's types, one layer at a time.
use Rattle.std.proofs.Common.{◌≡◌, ℕ, Vec, Global, map, sym, ap, ◌∙◌}
use Rattle.icode.specs.declared.program.Op.{Op}
use Rattle.icode.specs.declared.program.Expr.{Expr}
use Rattle.icode.specs.declared.program.Part.TheVariants as parts
use Rattle.icode.specs.declared.program.Part.TheFolds.{fold_out-Expr}
use Rattle.icode.specs.declared.program.Stmt.{Stmt}
use Rattle.icode.specs.declared.program.Stmt.TheVariants as stmts
use Rattle.icode.specs.declared.program.Stmt.TheOpen.{Stmt-F}
use Rattle.icode.specs.declared.program.Stmt.TheFolds.{fold-roll-Stmt}
use Rattle.icode.specs.Plain.{PlainExpr, PlainPart, PlainStmt, Sum, Loop, Do, parts_of}
use Rattle.icode.specs.Plain.{part_view, expr_view, plain_expr, plain_part, plain_op, stmt_view, plain_stmt, plain_body}

pub plain_expr_is : (e : Expr) → plain_expr e ≡ Sum e.constant (parts_of (map plain_part e.parts.items))
plain_expr_is e = fold_out-Expr PlainPart PlainExpr part_view expr_view e

pub plain_stmt-Loop : (count : ℕ) (body : Vec Stmt Global) →
    plain_stmt (stmts.Loop count body) ≡ Loop count (plain_body body.items)
plain_stmt-Loop count body =
    ap plain_stmt (sym (stmts.rolls-Loop count body)) ∙ fold-roll-Stmt PlainStmt stmt_view (Stmt-F.Loop count body)

pub plain_stmt-Do : (op : Op) → plain_stmt (stmts.Do op) ≡ Do (plain_op op)
plain_stmt-Do op = ap plain_stmt (sym (stmts.rolls-Do op)) ∙ fold-roll-Stmt PlainStmt stmt_view (Stmt-F.Do op)
