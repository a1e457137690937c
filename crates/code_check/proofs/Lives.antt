-- The view of live statements, one layer at a time.
use Rattle.std.proofs.Common.{◌≡◌, ℕ, ◌+◌, ◌<◌, ◌≤◌, Vec, Global, Bor, List, [], ◌∷◌, ◌++◌, true, false, map, length}
use Rattle.std.proofs.Common.{drop, get_or, refl, sym, ap, ◌∙◌, arith}
use Rattle.std.specs.Prelude.{◌==◌}
use Rattle.std.proofs.lemmas.Bool.{eqb-true}
use Rattle.std.proofs.lemmas.List.{map-append, drop_all}
use Rattle.icode.specs.declared.program.Op.{Op}
use Rattle.icode.specs.declared.program.Stmt.{Stmt}
use Rattle.icode.specs.Plain.{PlainStmt, PlainBody, Loop, Do, NoStmts, AndStmts, plain_op, plain_stmt, plain_body}
use Rattle.icode.specs.Plain.{body_of}
use Rattle.icode.proofs.Steps.{drop_item}
use Rattle.code_check.specs.declared.live.Live.{Live}
use Rattle.code_check.specs.declared.live.Live.TheVariants as lives
use Rattle.code_check.specs.declared.live.Live.TheOpen.{Live-F}
use Rattle.code_check.specs.declared.live.Live.TheFolds.{fold-roll-Live}
use Rattle.code_check.specs.Concatenated.{concatenated}
use Rattle.code_check.specs.Live.{live_view, plain_live, plain_lives, loop_before, pruned, pruned_before}
use Rattle.code_check.proofs.Pruning.{body_of-append, concatenated-nil, concatenated_assoc, pruned_alone}

pub plain_live-Loop : (count : ℕ) (body : Vec Live Global) →
    plain_live (lives.Loop count body) ≡ Loop count (plain_lives body.items)
plain_live-Loop count body =
    ap plain_live (sym (lives.rolls-Loop count body)) ∙ fold-roll-Live PlainStmt live_view (Live-F.Loop count body)

pub plain_lives-push : (xs : List Live) (x : Live) → plain_lives (xs ++ x ∷ []) ≡ concatenated (plain_lives xs)
    (AndStmts (plain_live x) NoStmts)
plain_lives-push xs x = ap body_of (map-append plain_live xs (x ∷ [])) ∙ body_of-append (map plain_live xs) (plain_live x ∷ [])

loop_kept : (count : ℕ) (items : List Live) → (length items == 0) ≡ false →
    loop_before count (plain_lives items) NoStmts ≡ AndStmts (Loop count (plain_lives items)) NoStmts
loop_kept count [] e = cc
loop_kept count (x ∷ items) e = refl

nothing_kept : (count : ℕ) (items : List Live) → (length items == 0) ≡ true →
    loop_before count (plain_lives items) NoStmts ≡ NoStmts
nothing_kept count [] e = refl
nothing_kept count (x ∷ items) e = let zero_length = eqb-true (length (x ∷ items)) 0 e in absurd (omega arith)

pub keep_loop : (xs ys : List Live) (count : ℕ) (body : Vec Live Global) (inner : PlainBody) (s : PlainStmt) →
    ys ≡ xs ++ lives.Loop count body ∷ [] → s ≡ Loop count inner → plain_lives body.items ≡ pruned inner →
    (length body.items == 0) ≡ false → plain_lives ys ≡ concatenated (plain_lives xs) (pruned_before s NoStmts)
keep_loop xs ys count body inner s ey es eb full =
    ap plain_lives ey
    ∙ (plain_lives-push xs (lives.Loop count body)
    ∙ ap (concatenated (plain_lives xs))
    (ap (λ x. AndStmts x NoStmts) (plain_live-Loop count body)
    ∙ (sym (loop_kept count body.items full) ∙ (ap (λ b. loop_before count b NoStmts) eb ∙ ap (λ z. pruned_before z NoStmts) (sym es)))))

pub keep_nothing : (xs items : List Live) (count : ℕ) (inner : PlainBody) (s : PlainStmt) → s ≡ Loop count inner →
    plain_lives items ≡ pruned inner → (length items == 0) ≡ true →
    plain_lives xs ≡ concatenated (plain_lives xs) (pruned_before s NoStmts)
keep_nothing xs items count inner s es eb empty =
    sym (concatenated-nil (plain_lives xs))
    ∙ ap (concatenated (plain_lives xs))
    (sym (nothing_kept count items empty) ∙ (ap (λ b. loop_before count b NoStmts) eb ∙ ap (λ z. pruned_before z NoStmts) (sym es)))

pub plain_live-Do : (op : Bor Op) → plain_live (lives.Do op) ≡ Do (plain_op op.now)
plain_live-Do op = ap plain_live (sym (lives.rolls-Do op)) ∙ fold-roll-Live PlainStmt live_view (Live-F.Do op)

pub keep_op : (xs ys : List Live) (op : Bor Op) (s : PlainStmt) → ys ≡ xs ++ lives.Do op ∷ [] →
    s ≡ Do (plain_op op.now) → plain_lives ys ≡ concatenated (plain_lives xs) (pruned_before s NoStmts)
keep_op xs ys op s ey es =
    ap plain_lives ey
    ∙ (plain_lives-push xs (lives.Do op)
    ∙ ap (concatenated (plain_lives xs)) (ap (λ x. AndStmts x NoStmts) (plain_live-Do op) ∙ ap (λ z. pruned_before z NoStmts) (sym es)))

-- one statement more
pub keeps_on : (items : List Stmt) (i : ℕ) (x : Stmt) (before after : PlainBody) → i < length items →
    x ≡ get_or items i x → concatenated before (pruned (plain_body (drop i items))) ≡ pruned (plain_body items) →
    after ≡ concatenated before (pruned_before (plain_stmt x) NoStmts) →
    concatenated after (pruned (plain_body (drop (i + 1) items))) ≡ pruned (plain_body items)
keeps_on items i x before after lt e so_far more =
    let rest : PlainBody = pruned (plain_body (drop (i + 1) items)) in
    ap (λ a. concatenated a rest) more
    ∙ (concatenated_assoc before (pruned_before (plain_stmt x) NoStmts) rest
    ∙ (ap (concatenated before) (sym (pruned_alone (plain_stmt x) rest) ∙ ap (λ ss. pruned (plain_body ss)) (sym (drop_item items i x lt e))) ∙ so_far))

pub keeps_all : (items : List Stmt) (i : ℕ) (before : PlainBody) → length items ≤ i →
    concatenated before (pruned (plain_body (drop i items))) ≡ pruned (plain_body items) → before ≡ pruned (plain_body items)
keeps_all items i before past so_far =
    sym (concatenated-nil before) ∙ (ap (λ ss. concatenated before (pruned (plain_body ss))) (sym (drop_all i items past)) ∙ so_far)

pub no_lives : (items : List Live) → (length items == 0) ≡ true → plain_lives items ≡ NoStmts
no_lives [] e = refl
no_lives (x ∷ items) e = let zero_length = eqb-true (length (x ∷ items)) 0 e in absurd (omega arith)
