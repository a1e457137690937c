-- Interchanged loops stand within the limits of programs.
use Rattle.nests.proofs.Bools.{three_true, both_kept, later_kept, by_test}
use Rattle.std.proofs.Common.{◌≡◌, ◌≢◌, ℕ, suc, ◌+◌, ◌<◌, ◌≤◌, List, [], ◌∷◌, true, ap}
use Rattle.std.proofs.Common.{sym, ap₂, ◌∙◌, arith, refl, lt-ltb, map, length}
use Rattle.std.specs.Prelude.{◌&&◌, nat_lt, nat_le, max}
use Rattle.std.specs.List.{list_all}
use Rattle.std.proofs.lemmas.Bool.{and_parts, and_from}
use Rattle.icode.specs.Limits.{next_rank, is_small, is_small_positive, are_parts_within}
use Rattle.icode.specs.Limits.{all_parts, part_parts, parts_depth, part_depth, is_expr_within, is_op_within}
use Rattle.icode.specs.Limits.{is_stmt_within, is_body_within, are_phases_within}
use Rattle.icode.specs.Plain.{PlainExpr, PlainParts, PlainOp, PlainStmt, PlainBody, Sum, NoParts, AndParts}
use Rattle.icode.specs.Plain.{Proc, Var, Load, Store, MulTable, Loop, Do, NoStmts, AndStmts}
use Rattle.interchange.specs.Interchanged.{Nest, nest_stmt, within, sunk, ordered, interchanged_nest}
use Rattle.interchange.specs.Interchanged.{interchanged_body, steps_less}
use Rattle.nests.specs.Nests.{counts_in, round_in, looped}
use Rattle.interchange.specs.Exchanged.{exchanged_first, exchanged_parts, exchanged_place, exchanged_op}
use Rattle.interchange.specs.Exchanged.{exchanged_round}
use Rattle.nests.specs.Rounds.{first_store, first_load, are_independent}
use Rattle.nests.specs.Views.{loops_in}
use Rattle.interchange.specs.Views.{is_shallow, are_shallow}
use Rattle.interchange.proofs.Exchanged.{first_cases, parts_cases}
use Rattle.nests.proofs.Counts.{looped_is}
use Rattle.nests.proofs.InPlace.{all-within}
use Rattle.nests.proofs.Limited.{part-within, part-is, part-moved, parts-lower, one-within, var-within, only-within}
use Rattle.nests.proofs.Limited.{only-is, AreLoopsWithin, looped-within, looped-is}

-- ---- parts

first-within : (loop factor n least : ℕ) (rest : PlainParts) → loop + 1 < n → n ≤ 64 → least ≤ loop + 1 →
    is_small_positive factor ≡ true → are_parts_within rest n (loop + 2) ≡ true →
    are_parts_within (exchanged_first loop factor rest) n least ≡ true
first-within loop factor n least NoParts deep top le small h =
    one-within (loop + 1) factor n least (loop + 3) NoParts deep (omega (arith, le)) small (omega arith) refl
first-within loop factor n least (AndParts (Var depth inner) rest) deep top le small h =
    let known = var-within depth inner n (loop + 2) rest h in
    first_cases (λ parts. are_parts_within parts n least ≡ true) loop factor depth inner rest
    (λ same.
    one-within loop inner n least (loop + 2) (AndParts (Var (loop + 1) factor) rest) (omega (arith, deep)) le
    known.small (omega arith)
    (one-within (loop + 1) factor n (loop + 2) (loop + 3) rest deep (omega arith) small (omega arith)
    (parts-lower rest n (depth + 2) (loop + 3) (omega (arith, same)) known.behind)))
    (λ other.
    one-within (loop + 1) factor n least (loop + 3) (AndParts (Var depth inner) rest) deep (omega (arith, le)) small
    (omega arith)
    (one-within depth inner n (loop + 3) (depth + 2) rest known.deep
    (let ranked = known.ranked in omega (arith, ranked, other)) known.small (omega arith) known.behind))
first-within loop factor n least (AndParts (Proc a) rest) deep top le small h =
    let none : loop + 2 ≤ 0 = (part-within (Proc a) n (loop + 2) rest h).ranked in absurd (omega (arith, none))
first-within loop factor n least (AndParts part rest) deep top le small h =
    one-within (loop + 1) factor n least (loop + 3) (AndParts part rest) deep (omega (arith, le)) small (omega arith)
    (part-moved part n (loop + 2) (loop + 3) rest (omega (arith, deep, top)) h)

-- parts stand by their ranks where no part has that of the loop after it
parts-within : (loop n least : ℕ) (parts : PlainParts) → loop + 1 < n → n ≤ 64 → least ≢ loop + 2 →
    are_parts_within parts n least ≡ true → are_parts_within (exchanged_parts loop parts) n least ≡ true
parts-within loop n least NoParts deep top ne h = refl
parts-within loop n least (AndParts (Var depth factor) rest) deep top ne h =
    let known = var-within depth factor n least rest h in
    let ranked = known.ranked in
    parts_cases (λ parts. are_parts_within parts n least ≡ true) loop depth factor rest
    (λ same.
    first-within loop factor n least rest deep top (omega (arith, ranked, same)) known.small
    (parts-lower rest n (depth + 2) (loop + 2) (omega (arith, same)) known.behind))
    (λ other next.
    one-within loop factor n least (depth + 2) rest (omega (arith, deep)) (omega (arith, ranked, next, ne)) known.small
    (omega (arith, next)) known.behind)
    (λ other farther.
    one-within depth factor n least (depth + 2) (exchanged_parts loop rest) known.deep ranked known.small (omega arith)
    (parts-within loop n (depth + 2) rest deep top (λ e. other (omega (arith, e))) known.behind))
parts-within loop n least (AndParts part rest) deep top ne h =
    let k = part-within part n least rest h in
    part-is part n least (exchanged_parts loop rest)
    (record {
      within = k.within;
      ranked = k.ranked;
      behind = parts-within loop n (next_rank part) rest deep top (λ e. omega (arith, e, deep, top)) k.behind;
    })

-- ---- counts of parts and of parentheses

-- as many parts, and parentheses as deep
abbrev AreAlike : PlainParts → ℕ → ℕ → Type 0
AreAlike parts many deep = (all_parts parts ≡ many) × (parts_depth parts ≡ deep)

first-alike : (loop factor : ℕ) (rest : PlainParts) →
    AreAlike (exchanged_first loop factor rest) (1 + all_parts rest) (max 0 (parts_depth rest))
first-alike loop factor NoParts = (refl, refl)
first-alike loop factor (AndParts (Var depth inner) rest) =
    first_cases (λ parts. AreAlike parts (1 + (1 + all_parts rest)) (max 0 (max 0 (parts_depth rest)))) loop factor
    depth inner rest (λ same. (refl, refl)) (λ other. (refl, refl))
first-alike loop factor (AndParts part rest) = (refl, refl)

parts-alike : (loop : ℕ) (parts : PlainParts) →
    AreAlike (exchanged_parts loop parts) (all_parts parts) (parts_depth parts)
parts-alike loop NoParts = (refl, refl)
parts-alike loop (AndParts (Var depth factor) rest) =
    let more = parts-alike loop rest in
    parts_cases (λ parts. AreAlike parts (1 + all_parts rest) (max 0 (parts_depth rest))) loop depth factor rest
    (λ same. first-alike loop factor rest) (λ other next. (refl, refl))
    (λ other farther. (ap (λ n. 1 + n) more.0, ap (max 0) more.1))
parts-alike loop (AndParts part rest) =
    let more = parts-alike loop rest in (ap (λ n. part_parts part + n) more.0, ap (max (part_depth part)) more.1)

-- ---- statements

place-within : (loop n : ℕ) (place : PlainExpr) → loop + 1 < n → n ≤ 64 → is_expr_within place n ≡ true →
    is_expr_within (exchanged_place loop place) n ≡ true
place-within loop n (Sum constant parts) deep top h =
    let alike = parts-alike loop parts in
    both_kept (later_kept (is_small constant) (parts-within loop n 0 parts deep top (λ e. omega (arith, e))))
    (λ few. ap₂ (λ k d. nat_le k 64 && nat_le d 64) alike.0 alike.1 ∙ few) h

op-within : (m loop n : ℕ) (op : PlainOp) → loop + 1 < n → n ≤ 64 → is_op_within m op n ≡ true →
    is_op_within m (exchanged_op loop op) n ≡ true
op-within m loop n (Load register array place) deep top h =
    later_kept (is_small register) (place-within loop n place deep top) h
op-within m loop n (Store array place register) deep top h =
    later_kept (is_small register) (place-within loop n place deep top) h
op-within m loop n (MulTable register source table place step) deep top h =
    later_kept (is_small register)
    (later_kept (is_small source)
    (later_kept (is_small table) (later_kept (nat_lt step 2) (place-within loop n place deep top)))) h
op-within m loop n _ deep top h = h

round-within : (m loop n : ℕ) (round : PlainBody) → loop + 1 < n → n ≤ 64 → is_body_within m round n ≡ true →
    is_body_within m (exchanged_round loop round) n ≡ true
round-within m loop n NoStmts deep top h = refl
round-within m loop n (AndStmts (Do op) rest) deep top h =
    both_kept (op-within m loop n op deep top) (round-within m loop n rest deep top) h
round-within m loop n (AndStmts (Loop count body) rest) deep top h =
    later_kept (is_stmt_within m (Loop count body) n) (round-within m loop n rest deep top) h

-- a nest within the limits, whose round stands in `many` loops
record IsNestWithin (m n many : ℕ) (nest : Nest) : Type 0 where
  small : list_all is_small_positive (nest.outer ∷ nest.inner) ≡ true
  many_are : length nest.inner ≡ many
  within : is_body_within m nest.round n ≡ true

sunk-within : (m n loop outer : ℕ) (counts : List ℕ) (round : PlainBody) → loop + length counts < n → n ≤ 64 →
    list_all is_small_positive (outer ∷ counts) ≡ true → is_body_within m round n ≡ true →
    IsNestWithin m n (length counts) (sunk loop outer counts round)
sunk-within m n loop outer [] round deep top small h = record { small = small; many_are = refl; within = h }
sunk-within m n loop outer (count ∷ counts) round deep top small h =
    let each = three_true (is_small_positive outer) (is_small_positive count) _ small in
    by_test (IsNestWithin m n (suc (length counts))) (steps_less loop (first_load round))
    (within count (sunk (loop + 1) outer counts (exchanged_round loop round)))
    (record { outer = outer; inner = count ∷ counts; round = round })
    (λ less.
    let k =
    sunk-within m n (loop + 1) outer counts (exchanged_round loop round) (omega (arith, deep)) top
    (and_from (is_small_positive outer) _ each.0 each.2) (round-within m loop n round (omega (arith, deep)) top h) in
    record {
      small = and_from (is_small_positive count) _ each.1 k.small;
      many_are = ap suc k.many_are;
      within = k.within;
    })
    (λ stays. record { small = small; many_are = refl; within = h })

ordered-within : (m n loop outer : ℕ) (counts : List ℕ) (round : PlainBody) → loop + length counts < n → n ≤ 64 →
    list_all is_small_positive (outer ∷ counts) ≡ true → is_body_within m round n ≡ true →
    IsNestWithin m n (length counts) (ordered loop outer counts round)
ordered-within m n loop outer [] round deep top small h = record { small = small; many_are = refl; within = h }
ordered-within m n loop outer (count ∷ counts) round deep top small h =
    let first = and_parts (is_small_positive outer) _ small in
    let rest = ordered (loop + 1) count counts round in
    let k = ordered-within m n (loop + 1) count counts round (omega (arith, deep)) top first.1 h in
    let many = k.many_are in
    let made = sunk-within m n loop outer (rest.outer ∷ rest.inner) rest.round (omega (arith, deep, many)) top (and_from (is_small_positive outer) _ first.0 k.small) k.within in
    record { small = made.small; many_are = made.many_are ∙ ap suc many; within = made.within }

-- a nest that is interchanged stays within the limits
pub nest-within : (m lanes : ℕ) (stmt : PlainStmt) → is_stmt_within m stmt 0 ≡ true →
    is_stmt_within m (interchanged_nest lanes stmt) 0 ≡ true
nest-within m lanes (Do op) h = h
nest-within m lanes (Loop count body) h =
    by_test (λ stmt. is_stmt_within m stmt 0 ≡ true)
    (are_independent lanes (count ∷ counts_in body) (first_store (round_in body)) (round_in body))
    (nest_stmt made) (Loop count body)
    (λ free.
    only-within m 0 (nest_stmt made)
    (looped-is m 0 (made.outer ∷ made.inner) made.round
    (record {
      small = turned.small;
      deep = let deep = known.deep in omega (arith, deep, many);
      within = ap (λ n. is_body_within m made.round n) (sym same) ∙ turned.within;
    })))
    (λ bound. h)
  where
    known : AreLoopsWithin m 0 (count ∷ counts_in body) (round_in body)
    known =
        looped-within m 0 (count ∷ counts_in body) (round_in body) (omega arith)
        (ap (λ b. is_body_within m (AndStmts (Loop count b) NoStmts) 0) (looped_is body)
        ∙ only-is m 0 (Loop count body) h)

    made : Nest
    made = ordered 0 count (counts_in body) (round_in body)

    turned : IsNestWithin m (0 + length (count ∷ counts_in body)) (length (counts_in body)) made
    turned =
        ordered-within m (0 + length (count ∷ counts_in body)) 0 count (counts_in body) (round_in body) (omega arith)
        known.deep known.small known.within

    many : length made.inner ≡ length (counts_in body)
    many = turned.many_are

    same : 0 + length (count ∷ counts_in body) ≡ 0 + length (made.outer ∷ made.inner)
    same = ap (λ n. 0 + suc n) (sym many)

body-within : (m lanes : ℕ) (body : PlainBody) → is_body_within m body 0 ≡ true →
    is_body_within m (interchanged_body lanes body) 0 ≡ true
body-within m lanes NoStmts h = refl
body-within m lanes (AndStmts stmt rest) h =
    both_kept (nest-within m lanes stmt) (body-within m lanes rest) h

-- the phases of a program whose loops are interchanged stay within the limits
pub phases-within : (m lanes : ℕ) (phases : List PlainBody) → are_phases_within m phases ≡ true →
    are_phases_within m (map (interchanged_body lanes) phases) ≡ true
phases-within m lanes phases h =
    all-within m (interchanged_body lanes) (λ body. is_body_within m body 0)
    (λ body within also. body-within m lanes body within) phases (and_parts (nat_lt 0 (length phases)) _ h).1 h

-- ---- depths

stmt-shallow : (m : ℕ) (stmt : PlainStmt) → is_stmt_within m stmt 0 ≡ true → is_shallow stmt ≡ true
stmt-shallow m (Do op) h = refl
stmt-shallow m (Loop count body) h =
    let whole : is_body_within m (looped (count ∷ counts_in body) (round_in body)) 0 ≡ true =
    ap (λ b. is_body_within m (AndStmts (Loop count b) NoStmts) 0) (looped_is body) ∙ only-is m 0 (Loop count body) h in
    let known = looped-within m 0 (count ∷ counts_in body) (round_in body) (omega arith) whole in
    let deep = known.deep in
    lt-ltb (loops_in body) 64 (omega (arith, deep))

body-shallow : (m : ℕ) (body : PlainBody) → is_body_within m body 0 ≡ true → are_shallow body ≡ true
body-shallow m NoStmts h = refl
body-shallow m (AndStmts stmt rest) h =
    both_kept (stmt-shallow m stmt) (body-shallow m rest) h

-- the nests of a program within the limits are shallow
pub phases-shallow : (m : ℕ) (phases : List PlainBody) → are_phases_within m phases ≡ true →
    list_all are_shallow phases ≡ true
phases-shallow m phases h = all phases (and_parts (nat_lt 0 (length phases)) _ h).1
  where
    all : (bodies : List PlainBody) → list_all (λ b. is_body_within m b 0) bodies ≡ true →
        list_all are_shallow bodies ≡ true
    all [] h = refl
    all (b ∷ bs) h = both_kept (body-shallow m b) (all bs) h
