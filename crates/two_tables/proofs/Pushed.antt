-- Statements that are pushed one after another.
use Rattle.std.proofs.Common.{◌≡◌, ℕ, ◌≤◌, List, [], ◌∷◌, ◌++◌, Vec, Global, flat_map, length, take, refl, sym, ap}
use Rattle.std.proofs.Common.{◌∙◌}
use Rattle.std.proofs.lemmas.List.{take_all, map-append}
use Rattle.icode.specs.declared.program.Stmt.{Stmt}
use Rattle.icode.specs.declared.program.Stmt.TheVariants as stmts
use Rattle.icode.specs.Plain.{PlainStmt, Loop, AndStmts, body_of, plain_stmt, plain_body}
use Rattle.icode.proofs.Views.{plain_stmt-Loop}
use Rattle.two_tables.specs.Factored.{Split, put_before, factored_stmt, factored_body}
use Rattle.two_tables.specs.Views.{plain_stmts}

before-is : (xs ys : List PlainStmt) → put_before xs (body_of ys) ≡ body_of (xs ++ ys)
before-is [] ys = refl
before-is (x ∷ xs) ys = ap (AndStmts x) (before-is xs ys)

pub body-is : (split : Split) (xs : List PlainStmt) → factored_body split (body_of xs)
    ≡ body_of (flat_map (factored_stmt split) xs)
body-is split [] = refl
body-is split (x ∷ xs) = ap (put_before (factored_stmt split x)) (body-is split xs) ∙ before-is (factored_stmt split x) (flat_map (factored_stmt split) xs)

-- a body whose statements have been pushed
pub body-pushed : (split : Split) (i : ℕ) (items : List Stmt) (made : List Stmt) → length items ≤ i →
    plain_stmts made ≡ flat_map (factored_stmt split) (plain_stmts (take i items)) →
    plain_body made ≡ factored_body split (plain_body items)
body-pushed split i items made whole is =
    ap body_of (is ∙ ap (λ xs. flat_map (factored_stmt split) (plain_stmts xs)) (take_all i items whole)) ∙ sym (body-is split (plain_stmts items))

-- a loop of such a body
pub loop-pushed : (split : Split) (count : ℕ) (inside body : Vec Stmt Global) (stmt : Stmt) (before after : List Stmt) →
    plain_stmt stmt ≡ Loop count (plain_body body.items) →
    plain_body inside.items ≡ factored_body split (plain_body body.items) →
    after ≡ before ++ stmts.Loop count inside ∷ [] →
    plain_stmts after ≡ plain_stmts before ++ factored_stmt split (plain_stmt stmt)
loop-pushed split count inside body stmt before after is made pushed =
    ap plain_stmts pushed ∙ (map-append plain_stmt before (stmts.Loop count inside ∷ [])
    ∙ ap (λ xs. plain_stmts before ++ xs)
    (ap (λ s. s ∷ []) (plain_stmt-Loop count inside ∙ ap (Loop count) made) ∙ ap (factored_stmt split) (sym is)))
