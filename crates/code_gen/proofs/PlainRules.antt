-- Statements as plain data, one after another.
use Rattle.std.proofs.Common.{◌≡◌, ℕ, ◌+◌, ◌<◌, List, [], ◌∷◌, ◌++◌, length, get_or, take, refl, ap, ◌∙◌}
use Rattle.std.proofs.lemmas.List.{take_more}
use Rattle.icode.specs.declared.program.Op.{Op}
use Rattle.icode.specs.declared.program.Stmt.{Stmt}
use Rattle.icode.specs.declared.program.Stmt.TheVariants as stmts
use Rattle.icode.specs.Plain.{PlainBody, PlainStmt, NoStmts, AndStmts, Do, plain_stmt, plain_op, plain_body}
use Rattle.icode.proofs.Views.{plain_stmt-Do}
use Rattle.kernel_gen.specs.KernelOps.{op_of}
use Rattle.kernel_gen.specs.declared.straight.KernelOp.{KernelOp}
use Rattle.code_gen.specs.PassCode.Statements.{followed_by, straight_body}

pub plain-append : (xs ys : List Stmt) → plain_body (xs ++ ys) ≡ followed_by (plain_body xs) (plain_body ys)
plain-append [] ys = refl
plain-append (x ∷ xs) ys = ap (AndStmts (plain_stmt x)) (plain-append xs ys)

-- one more statement
pub plain-more : (old new : List Stmt) (op : Op) → new ≡ old ++ stmts.Do op ∷ [] →
    plain_body new ≡ followed_by (plain_body old) (AndStmts (Do (plain_op op)) NoStmts)
plain-more old new op is =
    ap plain_body is ∙ plain-append old (stmts.Do op ∷ []) ∙ ap (λ s. followed_by (plain_body old) (AndStmts s NoStmts)) (plain_stmt-Do op)

-- a statement after others, and more after it
pub followed-one : (xs ys : PlainBody) (s : PlainStmt) → followed_by (followed_by xs (AndStmts s NoStmts)) ys
    ≡ followed_by xs (AndStmts s ys)
followed-one NoStmts ys s = refl
followed-one (AndStmts x xs) ys s = ap (AndStmts x) (followed-one xs ys s)

-- the statements of code, and one more
pub straight-more : (before : List KernelOp) (a : KernelOp) →
    straight_body (before ++ a ∷ []) ≡ followed_by (straight_body before) (AndStmts (Do (op_of a)) NoStmts)
straight-more [] a = refl
straight-more (b ∷ before) a = ap (AndStmts (Do (op_of b))) (straight-more before a)

-- the statements of one more operation
pub straight-take : (xs : List KernelOp) (i : ℕ) (d : KernelOp) → i < length xs →
    straight_body (take (i + 1) xs) ≡ followed_by (straight_body (take i xs))
    (AndStmts (Do (op_of (get_or xs i d))) NoStmts)
straight-take xs i d below = ap straight_body (take_more xs i d below) ∙ straight-more (take i xs) (get_or xs i d)
