-- What code makes step by step: numbers of registers, one after another, and statements that have been numbered.
use Rattle.std.proofs.Common.{◌≡◌, ◌≢◌, ℕ, suc, ◌+◌, ◌-◌, ◌^◌, ◌<◌, ◌≤◌, List, [], ◌∷◌, ◌++◌, Bool, true, false, Option}
use Rattle.std.proofs.Common.{Some, None, length, drop, get_or, refl, sym, ap, ap₂, ◌∙◌, arith, subst}
use Rattle.std.specs.Prelude.{◌&&◌, option_map, max}
use Rattle.std.proofs.Math.Nat.{le-max_left, max-le}
use Rattle.std.proofs.lemmas.Bool.{eq-eqb, ne_eqb}
use Rattle.icode.specs.declared.program.Stmt.{Stmt}
use Rattle.icode.specs.Plain.{PlainStmt, PlainBody, Loop, Do, NoStmts, AndStmts, body_of, plain_stmt, plain_body}
use Rattle.icode.proofs.Steps.{drop_item}
use Rattle.renumbered_registers.specs.Renumbered.{Numbering, put, put_all, is_number, are_consecutive, and_stmts}
use Rattle.renumbered_registers.specs.Renumbered.{after_stmt, numbered_stmt, numbered_body, most_put, no_numbers}
use Rattle.renumbered_registers.specs.Renumbered.{and_phases, numbered_phases}
use Rattle.std.proofs.Common.{append_assoc}
use Rattle.renumbered_registers.proofs.Given.{next-after}
use Rattle.renumbered_registers.proofs.Renaming.{most-more, inside-loop, behind-loop}

-- ---- registers that are put

pub one_more_put : (count lane r : ℕ) (z made whole : Numbering) → lane < count → made ≡ put (r + lane) z →
    put_all (count - lane) (r + lane) z ≡ whole → put_all (count - (lane + 1)) (r + (lane + 1)) made ≡ whole
one_more_put count lane r z made whole lt is h =
    let left : count - lane ≡ suc (count - (lane + 1)) = omega (arith, lt) in
    let next : r + (lane + 1) ≡ r + lane + 1 = omega arith in
    ap₂ (put_all (count - (lane + 1))) next is ∙ sym (ap (λ n. put_all n (r + lane) z) left) ∙ h

pub all_are_put : (count lane r : ℕ) (z whole : Numbering) → count ≤ lane →
    put_all (count - lane) (r + lane) z ≡ whole → z ≡ whole
all_are_put count lane r z whole le h =
    let none : count - lane ≡ 0 = omega (arith, le) in sym (ap (λ n. put_all n (r + lane) z) none) ∙ h

-- ---- consecutive numbers

abbrev pub AreLeft : ℕ → ℕ → ℕ → ℕ → Numbering → Bool → Type 0
AreLeft count lane r n z whole = are_consecutive (count - lane) (r + lane) (n + lane) z ≡ whole

first-left : (count lane r n : ℕ) (z : Numbering) (whole : Bool) → lane < count → AreLeft count lane r n z whole →
    (is_number (n + lane) (z.numbers (r + lane))
    && are_consecutive (count - (lane + 1)) (r + lane + 1) (n + lane + 1) z)
    ≡ whole
first-left count lane r n z whole lt h =
    let left : count - lane ≡ suc (count - (lane + 1)) = omega (arith, lt) in
    sym (ap (λ k. are_consecutive k (r + lane) (n + lane) z) left) ∙ h

pub one_more_follows : (count lane r n k : ℕ) (z : Numbering) (whole : Bool) → lane < count →
    z.numbers (r + lane) ≡ Some k → k ≡ n + lane → AreLeft count lane r n z whole → AreLeft count (lane + 1) r n z whole
one_more_follows count lane r n k z whole lt is same h =
    let a : r + (lane + 1) ≡ r + lane + 1 = omega arith in
    let b : n + (lane + 1) ≡ n + lane + 1 = omega arith in
    ap₂ (λ i j. are_consecutive (count - (lane + 1)) i j z) a b
    ∙ sym (ap (λ t. t && are_consecutive (count - (lane + 1)) (r + lane + 1) (n + lane + 1) z)
    (ap (is_number (n + lane)) is ∙ eq-eqb k (n + lane) same))
    ∙ first-left count lane r n z whole lt h

pub one_has_none : (count lane r n : ℕ) (z : Numbering) (whole : Bool) → lane < count → z.numbers (r + lane) ≡ None →
    AreLeft count lane r n z whole → false ≡ whole
one_has_none count lane r n z whole lt is h =
    sym (ap (λ t. t && are_consecutive (count - (lane + 1)) (r + lane + 1) (n + lane + 1) z)
    (ap (is_number (n + lane)) is))
    ∙ first-left count lane r n z whole lt h

pub one_has_another : (count lane r n k : ℕ) (z : Numbering) (whole : Bool) → lane < count →
    z.numbers (r + lane) ≡ Some k → k ≢ n + lane → AreLeft count lane r n z whole → false ≡ whole
one_has_another count lane r n k z whole lt is other h =
    sym (ap (λ t. t && are_consecutive (count - (lane + 1)) (r + lane + 1) (n + lane + 1) z)
    (ap (is_number (n + lane)) is ∙ ne_eqb k (n + lane) other))
    ∙ first-left count lane r n z whole lt h

pub all_follow : (count lane r n : ℕ) (z : Numbering) (whole : Bool) → count ≤ lane → AreLeft count lane r n z whole →
    true ≡ whole
all_follow count lane r n z whole le h =
    let none : count - lane ≡ 0 = omega (arith, le) in
    sym (ap (λ k. are_consecutive k (r + lane) (n + lane) z) none) ∙ h

-- ---- statements, one after another

abbrev pub followed : List PlainStmt → PlainBody → PlainBody
followed [] rest = rest
followed (stmt ∷ made) rest = AndStmts stmt (followed made rest)

-- these statements, and those that are numbered after them
abbrev pub front : List PlainStmt → Option PlainBody → Option PlainBody
front made rest = option_map (followed made) rest

followed-more : (made : List PlainStmt) (stmt : PlainStmt) (rest : PlainBody) →
    followed (made ++ stmt ∷ []) rest ≡ followed made (AndStmts stmt rest)
followed-more [] stmt rest = refl
followed-more (first ∷ made) stmt rest = ap (AndStmts first) (followed-more made stmt rest)

followed-all : (made : List PlainStmt) → followed made NoStmts ≡ body_of made
followed-all [] = refl
followed-all (first ∷ made) = ap (AndStmts first) (followed-all made)

front-more : (made : List PlainStmt) (stmt : PlainStmt) (rest : Option PlainBody) →
    front (made ++ stmt ∷ []) rest ≡ front made (and_stmts (Some stmt) rest)
front-more made stmt None = refl
front-more made stmt (Some rest) = ap Some (followed-more made stmt rest)

pub one_more_stmt : (lanes : ℕ) (z : Numbering) (made : List PlainStmt) (stmt new : PlainStmt) (rest : PlainBody)
    (whole : Option PlainBody) → numbered_stmt lanes z stmt ≡ Some new →
    front made (numbered_body lanes z (AndStmts stmt rest)) ≡ whole →
    front (made ++ new ∷ []) (numbered_body lanes (after_stmt lanes z stmt) rest) ≡ whole
one_more_stmt lanes z made stmt new rest whole is h =
    front-more made new (numbered_body lanes (after_stmt lanes z stmt) rest)
    ∙ sym (ap (λ o. front made (and_stmts o (numbered_body lanes (after_stmt lanes z stmt) rest))) is)
    ∙ h

pub all_stmts : (lanes : ℕ) (z : Numbering) (made : List PlainStmt) (whole : Option PlainBody) →
    front made (numbered_body lanes z NoStmts) ≡ whole → Some (body_of made) ≡ whole
all_stmts lanes z made whole h = ap Some (sym (followed-all made)) ∙ h

-- ---- room for them

pub stmt_room : (lanes next : ℕ) (stmt : PlainStmt) (rest : PlainBody) →
    most_put lanes next (AndStmts stmt rest) < 2 ^ 20 → most_put lanes next (AndStmts stmt NoStmts) < 2 ^ 20
stmt_room lanes next (Do op) rest h =
    let le = most-more lanes (most_put lanes next (AndStmts (Do op) NoStmts)) rest in omega (arith, le, h)
stmt_room lanes next (Loop count body) rest h =
    let b = most_put lanes 0 body in
    let whole = most_put lanes next (AndStmts (Loop count body) rest) in
    let first = le-max_left next (max b (most_put lanes 0 rest)) in
    let inner = inside-loop lanes next whole count body rest (omega arith) in
    let all : max next (max b 0) ≤ whole = max-le first (max-le inner (omega arith)) in
    omega (arith, all, h)

pub rest_room : (lanes : ℕ) (z : Numbering) (stmt : PlainStmt) (rest : PlainBody) →
    most_put lanes z.next (AndStmts stmt rest) < 2 ^ 20 →
    most_put lanes (after_stmt lanes z stmt).next rest < 2 ^ 20
rest_room lanes z (Do op) rest h = subst (λ n. most_put lanes n rest < 2 ^ 20) (sym (next-after lanes z op)) h
rest_room lanes z (Loop count body) rest h =
    let whole = most_put lanes z.next (AndStmts (Loop count body) rest) in
    let le = behind-loop lanes z.next whole count body rest (omega arith) in
    omega (arith, le, h)

-- ---- the statements of code

-- the first that is left
pub first_stmt : (items : List Stmt) (i : ℕ) (x : Stmt) → i < length items → x ≡ get_or items i x →
    plain_body (drop i items) ≡ AndStmts (plain_stmt x) (plain_body (drop (i + 1) items))
first_stmt items i x lt is = ap plain_body (drop_item items i x lt is)

-- ---- phases, one after another

abbrev pub front_phases : List PlainBody → Option (List PlainBody) → Option (List PlainBody)
front_phases made rest = option_map (λ bodies. made ++ bodies) rest

pub no_phase : (lanes : ℕ) (made : List PlainBody) (body : PlainBody) (rest : List PlainBody)
    (whole : Option (List PlainBody)) → numbered_body lanes no_numbers body ≡ None →
    front_phases made (numbered_phases lanes (body ∷ rest)) ≡ whole → ◌≡◌ {A = Option (List PlainBody)} None whole
no_phase lanes made body rest whole is h =
    sym (ap (λ o. front_phases made (and_phases o (numbered_phases lanes rest))) is) ∙ h
