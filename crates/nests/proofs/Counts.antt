-- The loops of a body: their counts, and the statements in the innermost, as definitions and as code see them.
use Rattle.std.proofs.Common.{◌≡◌, refl, ap, ℕ, ◌+◌, List, [], ◌∷◌, true, false, ap₂, ◌∙◌, length, ◌<◌}
use Rattle.std.proofs.Common.{Bool, sym, drop, arith, get_or, ◌≢◌, Vec, Global, ◌≤◌}
use Rattle.icode.specs.Plain.{PlainBody, Loop, Do, NoStmts, AndStmts, PlainParts, PlainStmt, plain_op}
use Rattle.icode.specs.Plain.{plain_stmt, plain_body}
use Rattle.nests.specs.Nests.{counts_in, round_in, looped}
use Rattle.std.specs.Prelude.{◌*◌, ◌&&◌, nat_le, Option, Some, None}
use Rattle.nests.specs.Places.{stride, are_linear}
use Rattle.nests.specs.Rounds.{Stored, are_nested, last_stride, are_placed, are_apart}
use Rattle.nests.specs.Rounds.{are_independent, is_fresh, put_after, are_fresh}
use Rattle.nests.specs.Views.{are_nested_in, last_stride_in, are_apart_in, are_independent_in, one_loop}
use Rattle.icode.specs.declared.program.Op.{Op}
use Rattle.icode.specs.declared.program.Stmt.{Stmt}
use Rattle.icode.proofs.Steps.{drop_item}
use Rattle.icode.proofs.Views.{plain_stmt-Do, plain_stmt-Loop}
use Rattle.std.proofs.lemmas.Bool.{le-leb}
use Rattle.icode.specs.declared.program.Stmt.TheVariants as stmts

pub looped_is : (body : PlainBody) → looped (counts_in body) (round_in body) ≡ body
looped_is NoStmts = refl
looped_is (AndStmts (Do op) rest) = refl
looped_is (AndStmts (Loop count body) NoStmts) = ap (λ (b : PlainBody). AndStmts (Loop count b) NoStmts) (looped_is body)
looped_is (AndStmts (Loop count body) (AndStmts stmt rest)) = refl

-- ---- the loops of a body: their counts, and the statements in the innermost, as definitions and as code see them

-- no loop stands around innermost statements
pub round-inner : (body : PlainBody) → counts_in (round_in body) ≡ []
round-inner NoStmts = refl
round-inner (AndStmts (Do op) rest) = refl
round-inner (AndStmts (Loop count body) NoStmts) = round-inner body
round-inner (AndStmts (Loop count body) (AndStmts stmt rest)) = refl

pub inner-round : (body : PlainBody) → counts_in body ≡ [] → round_in body ≡ body
inner-round NoStmts e = refl
inner-round (AndStmts (Do op) rest) e = refl
inner-round (AndStmts (Loop count body) NoStmts) e = cc
inner-round (AndStmts (Loop count body) (AndStmts stmt rest)) e = refl

-- the loops around innermost statements are those that were put there
pub counts-looped : (counts : List ℕ) (round : PlainBody) → counts_in round ≡ [] →
    counts_in (looped counts round) ≡ counts
counts-looped [] round e = e
counts-looped (count ∷ counts) round e = ap (λ cs. count ∷ cs) (counts-looped counts round e)

pub round-looped : (counts : List ℕ) (round : PlainBody) → counts_in round ≡ [] → round_in (looped counts round) ≡ round
round-looped [] round e = inner-round round e
round-looped (count ∷ counts) round e = round-looped counts round e

-- ---- the steps of loops

-- whatever the count of the outermost
pub nested-in : (loop count : ℕ) (body : PlainBody) (parts : PlainParts) →
    are_nested loop (count ∷ counts_in body) parts ≡ are_nested_in loop body parts
nested-in loop count NoStmts parts = refl
nested-in loop count (AndStmts (Do op) rest) parts = refl
nested-in loop count (AndStmts (Loop inner body) NoStmts) parts = ap (λ t. nat_le (inner * stride (loop + 1) parts) (stride loop parts) && t) (nested-in (loop + 1) inner body parts)
nested-in loop count (AndStmts (Loop inner body) (AndStmts stmt rest)) parts = refl

pub last-in : (loop count : ℕ) (body : PlainBody) (parts : PlainParts) →
    last_stride loop (count ∷ counts_in body) parts ≡ last_stride_in loop body parts
last-in loop count NoStmts parts = refl
last-in loop count (AndStmts (Do op) rest) parts = refl
last-in loop count (AndStmts (Loop inner body) NoStmts) parts = last-in (loop + 1) inner body parts
last-in loop count (AndStmts (Loop inner body) (AndStmts stmt rest)) parts = refl

pub apart-in : (lanes count : ℕ) (body : PlainBody) (to : Stored) (round : PlainBody) →
    are_apart lanes (count ∷ counts_in body) to round ≡ are_apart_in lanes body to round
apart-in lanes count body to round =
    ap₂ (λ n s. are_linear 0 to.parts && (n && are_placed lanes to s round)) (nested-in 0 count body to.parts) (last-in 0 count body to.parts)

pub independent-in : (lanes count : ℕ) (body : PlainBody) (to : Option Stored) (round : PlainBody) →
    are_independent lanes (count ∷ counts_in body) to round ≡ are_independent_in lanes body to round
independent-in lanes count body None round = refl
independent-in lanes count body (Some to) round = apart-in lanes count body to round

-- ---- code's parts and statements, as the definitions see them

-- an operation in front
pub fresh-Do : (lanes next i : ℕ) (items : List Stmt) (stmt : Stmt) (op : Op) → i < length items →
    stmt ≡ get_or items i stmt → stmt ≡ stmts.Do op → are_fresh lanes next (plain_body (drop i items))
    ≡ (is_fresh lanes next (plain_op op) && are_fresh lanes (put_after lanes next (plain_op op))
    (plain_body (drop (i + 1) items)))
fresh-Do lanes next i items stmt op lt e is =
    ap (λ xs. are_fresh lanes next (plain_body xs)) (drop_item items i stmt lt e)
    ∙ ap (λ s. are_fresh lanes next (AndStmts s (plain_body (drop (i + 1) items)))) (ap plain_stmt is ∙ plain_stmt-Do op)

-- the others go on from there
pub fresh-more : (lanes next after i : ℕ) (items : List Stmt) (stmt : Stmt) (op : Op) (whole : Bool) →
    i < length items → stmt ≡ get_or items i stmt → stmt ≡ stmts.Do op → is_fresh lanes next (plain_op op) ≡ true →
    after ≡ put_after lanes next (plain_op op) → are_fresh lanes next (plain_body (drop i items)) ≡ whole →
    are_fresh lanes after (plain_body (drop (i + 1) items)) ≡ whole
fresh-more lanes next after i items stmt op whole lt e is fresh a h =
    ap (λ n. are_fresh lanes n (plain_body (drop (i + 1) items))) a
    ∙ (ap (λ b. b && are_fresh lanes (put_after lanes next (plain_op op)) (plain_body (drop (i + 1) items))) (sym fresh) ∙ (sym (fresh-Do lanes next i items stmt op lt e is) ∙ h))

-- ---- bodies of one loop and of others, as code takes them apart

only : (items : List Stmt) (x : Stmt) → length items ≡ 1 → x ≡ get_or items 0 x → items ≡ x ∷ []
only [] x one e = absurd (omega (arith, one))
only (y ∷ []) x one e = ap (λ z. z ∷ []) (sym e)
only (y ∷ z ∷ rest) x one e = absurd (omega (arith, one))

-- more statements than one, or none, are no loop
pub others-counts : (items : List Stmt) → length items ≢ 1 → counts_in (plain_body items) ≡ []
others-counts [] ne = refl
others-counts (x ∷ []) ne = absurd (ne refl)
others-counts (x ∷ y ∷ rest) ne = of_stmt (plain_stmt x)
  where
    of_stmt : (s : PlainStmt) → counts_in (AndStmts s (AndStmts (plain_stmt y) (plain_body rest))) ≡ []
    of_stmt (Loop count body) = refl
    of_stmt (Do op) = refl

-- one operation is none
pub op-counts : (items : List Stmt) (x : Stmt) (op : Op) → length items ≡ 1 → x ≡ get_or items 0 x → x ≡ stmts.Do op →
    counts_in (plain_body items) ≡ []
op-counts items x op one at does =
    ap (λ xs. counts_in (plain_body xs)) (only items x one at) ∙ ap (λ s. counts_in (AndStmts s NoStmts)) (ap plain_stmt does ∙ plain_stmt-Do op)

-- one loop
pub loop-seen : (items : List Stmt) (x : Stmt) (inner : ℕ) (inside : Vec Stmt Global) → length items ≡ 1 →
    x ≡ get_or items 0 x → x ≡ stmts.Loop inner inside → plain_body items ≡ one_loop inner (plain_body inside.items)
loop-seen items x inner inside one at loop =
    ap plain_body (only items x one at) ∙ ap (λ s. AndStmts s NoStmts) (ap plain_stmt loop ∙ plain_stmt-Loop inner inside)

-- ---- what code reads of a body

pub nested-alone : (loop : ℕ) (body : PlainBody) (parts : PlainParts) → counts_in body ≡ [] →
    true ≡ are_nested_in loop body parts
nested-alone loop NoStmts parts e = refl
nested-alone loop (AndStmts (Do op) rest) parts e = refl
nested-alone loop (AndStmts (Loop count body) NoStmts) parts e = cc
nested-alone loop (AndStmts (Loop count body) (AndStmts stmt rest)) parts e = refl

pub last-alone : (loop : ℕ) (body : PlainBody) (parts : PlainParts) → counts_in body ≡ [] →
    stride loop parts ≡ last_stride_in loop body parts
last-alone loop NoStmts parts e = refl
last-alone loop (AndStmts (Do op) rest) parts e = refl
last-alone loop (AndStmts (Loop count body) NoStmts) parts e = cc
last-alone loop (AndStmts (Loop count body) (AndStmts stmt rest)) parts e = refl

-- a loop in the body, which code has read
pub nested-loop : (loop inner a b : ℕ) (items inside : List Stmt) (parts : PlainParts) (t : Bool) →
    plain_body items ≡ one_loop inner (plain_body inside) → a ≡ stride (loop + 1) parts → b ≡ stride loop parts →
    inner * a ≤ b → t ≡ are_nested_in (loop + 1) (plain_body inside) parts →
    t ≡ are_nested_in loop (plain_body items) parts
nested-loop loop inner a b items inside parts t seen ea eb le h =
    h ∙ (ap (λ k. k && are_nested_in (loop + 1) (plain_body inside) parts) (sym (ap₂ (λ x y. nat_le (inner * x) y) (sym ea) (sym eb) ∙ le-leb (inner * a) b le))
    ∙ ap (λ s. are_nested_in loop s parts) (sym seen))

pub nested-not : (loop inner a b : ℕ) (items inside : List Stmt) (parts : PlainParts) →
    plain_body items ≡ one_loop inner (plain_body inside) → a ≡ stride (loop + 1) parts → b ≡ stride loop parts →
    nat_le (inner * a) b ≡ false → nat_le (inner * a) b ≡ are_nested_in loop (plain_body items) parts
nested-not loop inner a b items inside parts seen ea eb fails =
    fails ∙ (ap (λ k. k && are_nested_in (loop + 1) (plain_body inside) parts) (sym (ap₂ (λ x y. nat_le (inner * x) y) (sym ea) (sym eb) ∙ fails))
    ∙ ap (λ s. are_nested_in loop s parts) (sym seen))
