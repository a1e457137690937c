-- What code makes of parts and statements, one after another.
use Rattle.std.proofs.Common.{◌≡◌, ℕ, ◌<◌, ◌≤◌, List, [], ◌∷◌, ◌++◌, Bool, true, false, Option, None, Vec}
use Rattle.std.proofs.Common.{Global, flat_map, length, take, map, get_or, refl, ap, ◌∙◌}
use Rattle.std.specs.Prelude.{◌==◌, if◌then◌else◌}
use Rattle.std.specs.List.{list_all}
use Rattle.std.proofs.lemmas.List.{take_all}
use Rattle.icode.specs.declared.program.Part.{Part}
use Rattle.icode.specs.declared.program.Stmt.{Stmt}
use Rattle.icode.specs.declared.program.Stmt.TheVariants as stmts
use Rattle.icode.specs.Limits.{is_body_within}
use Rattle.icode.specs.Plain.{PlainPart, PlainStmt, PlainBody, AndParts, Var, Loop, Do, NoStmts, AndStmts, parts_of}
use Rattle.icode.specs.Plain.{body_of, plain_part, plain_stmt, plain_body}
use Rattle.icode.proofs.Bools.{item_passes}
use Rattle.icode.proofs.Views.{plain_stmt-Loop}
use Rattle.nests.specs.Nests.{counts_in}
use Rattle.nests.specs.Views.{plain_parts}
use Rattle.coalesced_loops.specs.Coalesced.{lifted_depth, lifted_parts, as_one, coalesced_stmt, coalesced_body}
use Rattle.coalesced_loops.specs.Views.{lifted_part}

-- ---- parts

parts-is : (loop : ℕ) (parts : List PlainPart) →
    parts_of (flat_map (lifted_part loop) parts) ≡ lifted_parts loop (parts_of parts)
parts-is loop [] = refl
parts-is loop (Var depth factor ∷ rest) = both (depth == loop) (parts-is loop rest)
  where
    part : PlainPart
    part = Var (lifted_depth loop depth) factor

    both : (t : Bool) → parts_of (flat_map (lifted_part loop) rest) ≡ lifted_parts loop (parts_of rest) →
        parts_of ((if t then [] else part ∷ []) ++ flat_map (lifted_part loop) rest)
        ≡ (if t then lifted_parts loop (parts_of rest) else AndParts part (lifted_parts loop (parts_of rest)))
    both true e = e
    both false e = ap (AndParts part) e
parts-is loop (part ∷ rest) = ap (AndParts part) (parts-is loop rest)

-- parts that have been pushed
pub parts-pushed : (loop i : ℕ) (items made : List Part) → length items ≤ i →
    map plain_part made ≡ flat_map (lifted_part loop) (map plain_part (take i items)) →
    plain_parts made ≡ lifted_parts loop (plain_parts items)
parts-pushed loop i items made whole is =
    ap parts_of (is ∙ ap (λ xs. flat_map (lifted_part loop) (map plain_part xs)) (take_all i items whole))
    ∙ parts-is loop (map plain_part items)

-- ---- statements

coalesced-is : (loop : ℕ) (stmts : List PlainStmt) →
    body_of (map (coalesced_stmt loop) stmts) ≡ coalesced_body loop (body_of stmts)
coalesced-is loop [] = refl
coalesced-is loop (stmt ∷ rest) = ap (AndStmts (coalesced_stmt loop stmt)) (coalesced-is loop rest)

-- statements that have been pushed
pub coalesced-pushed : (loop i : ℕ) (items made : List Stmt) → length items ≤ i →
    map plain_stmt made ≡ map (coalesced_stmt loop) (map plain_stmt (take i items)) →
    plain_body made ≡ coalesced_body loop (plain_body items)
coalesced-pushed loop i items made whole is =
    ap body_of (is ∙ ap (λ xs. map (coalesced_stmt loop) (map plain_stmt xs)) (take_all i items whole))
    ∙ coalesced-is loop (map plain_stmt items)

-- a loop of them
pub loop-is : (stmt : Stmt) (count : ℕ) (body : Vec Stmt Global) → stmt ≡ stmts.Loop count body →
    plain_stmt stmt ≡ Loop count (plain_body body.items)
loop-is stmt count body is = ap plain_stmt is ∙ plain_stmt-Loop count body

-- what is no loop alone
pub not-one : (loop count : ℕ) (body : PlainBody) → counts_in body ≡ [] →
    ◌≡◌ {A = Option PlainStmt} None (as_one loop count body)
not-one loop count NoStmts e = refl
not-one loop count (AndStmts (Do op) rest) e = refl
not-one loop count (AndStmts (Loop inner body) NoStmts) e = cc
not-one loop count (AndStmts (Loop inner body) (AndStmts stmt rest)) e = refl

-- ---- limits of what is inside

pub body-within : (m i : ℕ) (phases : List (Vec Stmt Global)) (x : Vec Stmt Global) →
    list_all (λ body. is_body_within m body 0) (map (λ (body : Vec Stmt Global). plain_body body.items) phases) ≡ true →
    i < length phases → x ≡ get_or phases i x → is_body_within m (plain_body x.items) 0 ≡ true
body-within m i phases x e lt is =
    let view : Vec Stmt Global → PlainBody = λ body. plain_body body.items in
    ap (λ (b : Vec Stmt Global). is_body_within m (plain_body b.items) 0) is
    ∙ item_passes (λ body. is_body_within m body 0) view phases i x e lt
