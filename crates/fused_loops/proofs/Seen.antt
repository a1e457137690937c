-- What code reads and makes, as plain data.
use Rattle.std.proofs.Common.{◌≡◌, Vec, Global, ℕ, zero, suc, ◌+◌, ◌-◌, ◌<◌, ◌≤◌, ◌&&◌, Bool, true, false, List, []}
use Rattle.std.proofs.Common.{◌∷◌, ◌++◌, drop, get_or, length, refl, sym, ap, ap₂, ◌∙◌, arith, lt-ltb, min}
use Rattle.std.specs.Prelude.{nat_lt, if◌then◌else◌}
use Rattle.icode.specs.declared.program.Op.{Op}
use Rattle.icode.specs.declared.program.Stmt.{Stmt}
use Rattle.icode.specs.declared.program.Stmt.TheVariants as stmts
use Rattle.icode.specs.Plain.{PlainOp, PlainStmt, PlainBody, Loop, Do, NoStmts, AndStmts, plain_op, plain_stmt}
use Rattle.icode.specs.Plain.{plain_body}
use Rattle.icode.proofs.Steps.{drop_item}
use Rattle.icode.proofs.Views.{plain_stmt-Do, plain_stmt-Loop}
use Rattle.fused_loops.specs.declared.blocks.Block.{Block}
use Rattle.nests.proofs.Bools.{by_test}
use Rattle.nests.specs.Nests.{is_nest, are_nests}
use Rattle.fused_loops.specs.Blocks.{blocks_with, blocks_of, shared}
use Rattle.fused_loops.specs.Fused.{put_behind, with_body, in_last, fused_stmt, waiting, fused_onto}

-- ---- statements after others

pub put-pushed : (items : List Stmt) (stmt : Stmt) → plain_body (items ++ stmt ∷ []) ≡ put_behind (plain_stmt stmt)
    (plain_body items)
put-pushed [] stmt = refl
put-pushed (x ∷ items) stmt = ap (AndStmts (plain_stmt x)) (put-pushed items stmt)

last-behind : (f : PlainBody → PlainBody) (items : List Stmt) (stmt : Stmt) →
    put_behind (with_body f (plain_stmt stmt)) (plain_body items) ≡ in_last f (plain_body (items ++ stmt ∷ []))
last-behind f [] stmt = refl
last-behind f (x ∷ []) stmt = refl
last-behind f (x ∷ y ∷ items) stmt = ap (AndStmts (plain_stmt x)) (last-behind f (y ∷ items) stmt)

-- what is in the last statement is changed
pub last-changed : (f : PlainBody → PlainBody) (old rest made : List Stmt) (last : Stmt) → old ≡ rest ++ last ∷ [] →
    plain_body made ≡ put_behind (with_body f (plain_stmt last)) (plain_body rest) →
    plain_body made ≡ in_last f (plain_body old)
last-changed f old rest made last old_is made_is =
    made_is ∙ last-behind f rest last ∙ ap (λ xs. in_last f (plain_body xs)) (sym old_is)

-- an operation stays
pub into-do : (f : PlainBody → PlainBody) (items new : List Stmt) (last : Stmt) (op : Op) → last ≡ stmts.Do op →
    new ≡ items ++ stmts.Do op ∷ [] →
    plain_body new ≡ put_behind (with_body f (plain_stmt last)) (plain_body items)
into-do f items new last op does is =
    ap plain_body is
    ∙ put-pushed items (stmts.Do op)
    ∙ ap (λ s. put_behind s (plain_body items)) (plain_stmt-Do op ∙ sym (ap (with_body f) (ap plain_stmt does ∙ plain_stmt-Do op)))

-- what is in a loop is changed
pub into-loop : (f : PlainBody → PlainBody) (items new : List Stmt) (last : Stmt) (count : ℕ)
    (body made : Vec Stmt Global) → last ≡ stmts.Loop count body →
    new ≡ items ++ stmts.Loop count made ∷ [] → plain_body made.items ≡ f (plain_body body.items) →
    plain_body new ≡ put_behind (with_body f (plain_stmt last)) (plain_body items)
into-loop f items new last count body made loops is changed =
    ap plain_body is
    ∙ put-pushed items (stmts.Loop count made)
    ∙ ap (λ s. put_behind s (plain_body items))
    (plain_stmt-Loop count made ∙ ap (Loop count) changed ∙ sym (ap (with_body f) (ap plain_stmt loops ∙ plain_stmt-Loop count body)))

-- into no loop
pub stmt-none : (loops : ℕ) (items new : List Stmt) (stmt : Stmt) → loops ≡ 0 → new ≡ items ++ stmt ∷ [] →
    plain_body new ≡ fused_stmt loops (plain_stmt stmt) (plain_body items)
stmt-none loops items new stmt none is =
    ap plain_body is ∙ put-pushed items stmt ∙ ap (λ n. fused_stmt n (plain_stmt stmt) (plain_body items)) (sym none)

op-fused : (loops : ℕ) (op : PlainOp) (made : PlainBody) → put_behind (Do op) made ≡ fused_stmt loops (Do op) made
op-fused zero op made = refl
op-fused (suc loops) op made = refl

-- an operation goes into no loop
pub stmt-do : (loops : ℕ) (items new : List Stmt) (stmt : Stmt) (op : Op) → stmt ≡ stmts.Do op →
    new ≡ items ++ stmts.Do op ∷ [] →
    plain_body new ≡ fused_stmt loops (plain_stmt stmt) (plain_body items)
stmt-do loops items new stmt op does is =
    ap plain_body is
    ∙ put-pushed items (stmts.Do op)
    ∙ ap (λ s. put_behind s (plain_body items)) (plain_stmt-Do op)
    ∙ op-fused loops (plain_op op) (plain_body items)
    ∙ ap (λ s. fused_stmt loops s (plain_body items)) (sym (ap plain_stmt does ∙ plain_stmt-Do op))

-- ---- blocks

-- where the counts or the steps end
pub blocks-done : (counts steps : List ℕ) (index : ℕ) → min (length counts) (length steps) ≤ index →
    blocks_with (drop index counts) (drop index steps) ≡ []
blocks-done [] [] zero le = refl
blocks-done [] [] (suc index) le = refl
blocks-done [] (step ∷ steps) zero le = refl
blocks-done [] (step ∷ steps) (suc index) le = refl
blocks-done (count ∷ counts) [] zero le = refl
blocks-done (count ∷ counts) [] (suc index) le = none (drop index counts)
  where
    none : (counts : List ℕ) → blocks_with counts [] ≡ []
    none [] = refl
    none (count ∷ counts) = refl
blocks-done (count ∷ counts) (step ∷ steps) zero le = absurd (omega arith)
blocks-done (count ∷ counts) (step ∷ steps) (suc index) le = blocks-done counts steps index (omega (arith, le))

-- ---- phases

onto-step : (lanes wait : ℕ) (before blocks : List Block) (stmt : PlainStmt) (made rest : PlainBody) (stays : Bool) →
    stays ≡ nat_lt 0 wait →
    blocks ≡ (if stays then [] else blocks_of lanes stmt) →
    fused_onto lanes (wait - 1) blocks (fused_stmt (shared before blocks) stmt made) rest
    ≡ fused_onto lanes wait before made (AndStmts stmt rest)
onto-step lanes zero before blocks stmt made rest stays test is =
    let same : blocks ≡ blocks_of lanes stmt = is ∙ ap (λ b. if b then [] else blocks_of lanes stmt) test in
    let none : zero - 1 ≡ 0 = omega arith in
    ap₂ (λ n bs. fused_onto lanes n bs (fused_stmt (shared before bs) stmt made) rest) none same
onto-step lanes (suc wait) before blocks stmt made rest stays test is =
    let some : nat_lt 0 (suc wait) ≡ true = lt-ltb 0 (suc wait) (omega arith) in
    let same : blocks ≡ [] = is ∙ ap (λ b. if b then [] else blocks_of lanes stmt) (test ∙ some) in
    let back : suc wait - 1 ≡ wait = omega arith in
    ap₂ (λ n bs. fused_onto lanes n bs (fused_stmt (shared before bs) stmt made) rest) back same
    ∙ ap (λ n. fused_onto lanes wait [] (fused_stmt n stmt made) rest) (none before)
  where
    none : (bs : List Block) → shared bs [] ≡ 0
    none [] = refl
    none (b ∷ bs) = refl

-- one statement more has gone in
pub onto-kept : (lanes wait : ℕ) (before blocks : List Block) (stmt : PlainStmt) (made new rest : PlainBody)
    (n left : ℕ) (whole : PlainBody) → left ≡ wait - 1 →
    n ≡ shared before blocks → blocks ≡ (if nat_lt 0 wait then [] else blocks_of lanes stmt) →
    new ≡ fused_stmt n stmt made →
    fused_onto lanes wait before made (AndStmts stmt rest) ≡ whole → fused_onto lanes left blocks new rest ≡ whole
onto-kept lanes wait before blocks stmt made new rest n left whole left_is n_is blocks_are new_is so_far =
    ap₂ (λ k body. fused_onto lanes k blocks body rest) left_is (new_is ∙ ap (λ k. fused_stmt k stmt made) n_is)
    ∙ onto-step lanes wait before blocks stmt made rest (nat_lt 0 wait) refl blocks_are
    ∙ so_far

-- ---- how many statements wait

waiting-nests : (lanes : ℕ) (body : PlainBody) → are_nests lanes body ≡ true → waiting lanes body ≡ 0
waiting-nests lanes NoStmts h = refl
waiting-nests lanes (AndStmts stmt rest) h = ap (λ b. if b then 0 else suc (waiting lanes rest)) h

-- those that wait, by what is known of those in front
abbrev pub waits : ℕ → PlainBody → ℕ → ℕ → ℕ
waits lanes rest count index = if are_nests lanes rest then count else index + waiting lanes rest

pub waits-first : (lanes : ℕ) (body : PlainBody) → waiting lanes body ≡ waits lanes body 0 0
waits-first lanes body =
    by_test (λ n. waiting lanes body ≡ n) (are_nests lanes body) 0 (0 + waiting lanes body) (waiting-nests lanes body)
    (λ e. omega arith)

waits-nest : (lanes : ℕ) (stmt : PlainStmt) (rest : PlainBody) (count index : ℕ) → is_nest lanes stmt ≡ true →
    waits lanes (AndStmts stmt rest) count index ≡ waits lanes rest count (index + 1)
waits-nest lanes stmt rest count index nest =
    ap (λ b. if b && are_nests lanes rest then count else index + (if b && are_nests lanes rest then 0 else suc (waiting lanes rest))) nest
    ∙ of_test (are_nests lanes rest)
  where
    of_test : (b : Bool) → (if b then count else index + (if b then 0 else suc (waiting lanes rest)))
        ≡ (if b then count else index + 1 + waiting lanes rest)
    of_test true = refl
    of_test false = omega arith

waits-other : (lanes : ℕ) (stmt : PlainStmt) (rest : PlainBody) (count index : ℕ) → is_nest lanes stmt ≡ false →
    waits lanes (AndStmts stmt rest) count index ≡ waits lanes rest (index + 1) (index + 1)
waits-other lanes stmt rest count index other =
    ap (λ b. if b && are_nests lanes rest then count else index + (if b && are_nests lanes rest then 0 else suc (waiting lanes rest))) other
    ∙ by_test (λ n. index + suc (waiting lanes rest) ≡ n) (are_nests lanes rest) (index + 1)
    (index + 1 + waiting lanes rest) (λ e. let none = waiting-nests lanes rest e in omega (arith, none))
    (λ e. omega arith)

module _ (lanes : ℕ) (items : List Stmt) (stmt : Stmt) (index count whole : ℕ) (lt : index < length items) (at : stmt ≡ get_or items index stmt)
    (so_far : whole ≡ waits lanes (plain_body (drop index items)) count index) where
  now : whole ≡ waits lanes (AndStmts (plain_stmt stmt) (plain_body (drop (index + 1) items))) count index
  now = so_far ∙ ap (λ body. waits lanes body count index) (ap plain_body (drop_item items index stmt lt at))

  -- a nest more has been seen, or another statement
  pub after-nest : is_nest lanes (plain_stmt stmt) ≡ true → whole
      ≡ waits lanes (plain_body (drop (index + 1) items)) count (index + 1)
  after-nest nest = now ∙ waits-nest lanes (plain_stmt stmt) (plain_body (drop (index + 1) items)) count index nest

  pub after-other : is_nest lanes (plain_stmt stmt) ≡ false →
      whole ≡ waits lanes (plain_body (drop (index + 1) items)) (index + 1) (index + 1)
  after-other other = now ∙ waits-other lanes (plain_stmt stmt) (plain_body (drop (index + 1) items)) count index other
