-- The statements of the only phase of the only processor, quickened one after another.
use Rattle.std.proofs.Common.{◌≡◌, ℕ, ◌+◌, ◌<◌, ◌≤◌, List, ◌∷◌, Bool, true, false, Vec, Global, length, drop}
use Rattle.std.proofs.Common.{get_or, sym, ap, ◌∙◌, arith}
use Rattle.std.specs.Prelude.{◌==◌, ◌&&◌, if◌then◌else◌}
use Rattle.std.proofs.lemmas.Bool.{eqb-true}
use Rattle.icode.specs.declared.program.Stmt.{Stmt}
use Rattle.icode.specs.Plain.{PlainStmt, plain_stmt, plain_body}
use Rattle.icode.proofs.Bools.{both_true}
use Rattle.icode.proofs.Steps.{drop_item}
use Rattle.word_code.specs.declared.needs.Needs.{Needs}
use Rattle.word_code.specs.Needs.{needs, needs_of_each}
use Rattle.word_code.specs.Words.{product_bound}
use Rattle.word_code.specs.Quicken.{PlainLaziness, Header, bound_at, loosened, quick_stmt, quick_and, quick_alone}
use Rattle.word_code.proofs.Emitting.{stmt_sane}
use Rattle.word_code.proofs.Needing.{needed-at}

-- the statement before the rest is quickened by what is needed from it on
pub alone_splits : (z : PlainLaziness) (h : Header) (i : ℕ) (body : List Stmt) (stmt : Stmt) (n : Needs) (bounds : List ℕ) →
    i < length body → stmt ≡ get_or body i stmt → n ≡ get_or (needs_of_each (plain_body body)) i n →
    let one = quick_stmt (loosened z n) h (plain_stmt stmt) bounds in
    let rest = plain_body (drop (i + 1) body) in
    quick_alone z h (plain_body (stmt ∷ drop (i + 1) body)) bounds ≡ quick_and one.stmt
    (quick_alone z h rest one.bounds)
alone_splits z h i body stmt n bounds lt e needed =
    let all : needs (plain_body (stmt ∷ drop (i + 1) body)) ≡ n =
    sym (needed-at body i n lt needed ∙ ap (λ ss. needs (plain_body ss)) (drop_item body i stmt lt e)) in
    ap (λ m. let one = quick_stmt (loosened z m) h (plain_stmt stmt) bounds in
    quick_and one.stmt (quick_alone z h (plain_body (drop (i + 1) body)) one.bounds)) all

-- No bound passes the limit

either-low : (b : Bool) (k limit : ℕ) → k ≤ limit → (if b then k else limit) ≤ limit
either-low true k limit le = le
either-low false k limit le = omega arith

pub needed_sane : (z : PlainLaziness) (h : Header) (n : Needs) (stmt : PlainStmt) (bounds : List ℕ) → 1 ≤ z.limit →
    z.kept.of_a ≤ z.limit → z.kept.of_b ≤ z.limit → product_bound z.width ≤ z.limit →
    ((r : ℕ) → bound_at z.limit bounds r ≤ z.limit) →
    (r : ℕ) → bound_at z.limit (quick_stmt (loosened z n) h stmt bounds).bounds r ≤ z.limit
needed_sane z h n stmt bounds some of_a of_b product sane =
    stmt_sane (loosened z n) some (either-low n.of_a z.kept.of_a z.limit of_a)
    (either-low n.of_b z.kept.of_b z.limit of_b) product h stmt bounds sane

-- Phases

pub one-phase : (procs : ℕ) (phases : List (Vec Stmt Global)) → true ≡ (procs == 1 && length phases == 1) →
    0 < length phases
one-phase procs phases alone =
    let long = eqb-true (length phases) 1 (both_true (procs == 1) (length phases == 1) (sym alone)).1 in omega (arith, long)
