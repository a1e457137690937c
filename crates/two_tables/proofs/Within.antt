-- Places in two factors, and that a program with a table in two factors is within the limits of programs.
use Rattle.std.proofs.Common.{◌≡◌, ℕ, zero, suc, ◌+◌, ◌*◌, ◌/◌, ◌%◌, ◌≤◌, true, List, refl, sym, ap, ◌∙◌, arith, subst}
use Rattle.std.proofs.Common.{eqb-true, ◌&&◌, Bool, [], ◌∷◌, ◌++◌, map, ap₂, le-leb}
use Rattle.std.specs.Prelude.{slice_index, ◌==◌, nat_lt, nat_le, max, slice_set}
use Rattle.std.proofs.Math.Nat.{le-max_left, max-le, div-le_self, mod-le, zero-mod, mul-zero, mul-le-mul_right}
use Rattle.std.proofs.Math.Nat.{div-add-mod', div-mul-le_self}
use Rattle.ring_mod.proofs.Congruence.{same-add, same-mul}
use Rattle.icode.specs.Expression.{sum_numbers, parts_numbers}
use Rattle.icode.specs.Plain.{PlainExpr, PlainParts, Sum, NoParts, AndParts, Proc, Var, Product, PlainOp, PlainStmt}
use Rattle.icode.specs.Plain.{PlainBody, MulTable, Loop, Do, NoStmts, AndStmts}
use Rattle.icode.proofs.Bools.{both_true}
use Rattle.two_tables.specs.Factors.{Cut, first_place, second_place, is_table}
use Rattle.two_tables.specs.Places.{are_even, is_even, quotient_by, place_in_first, place_in_second}
use Rattle.nests.proofs.Bools.{four_true, later_kept}
use Rattle.std.specs.List.{list_all}
use Rattle.std.proofs.lemmas.Bool.{and_from}
use Rattle.icode.specs.Limits.{is_small, is_small_positive, is_sum_within, sum_parts, all_parts, sum_depth}
use Rattle.icode.specs.Limits.{parts_depth, is_expr_within, is_op_within, is_stmt_within, is_body_within}
use Rattle.icode.specs.Limits.{are_tables_within, are_phases_within}
use Rattle.two_tables.specs.Factored.{Split, factored_op, two_products, put_before, factored_stmt, factored_body}
use Rattle.two_tables.specs.Factored.{is_op_even, is_stmt_even, is_body_even}
use Rattle.nests.proofs.Linear.{by_equal, chosen}
use Rattle.nests.proofs.InPlace.{all-within}

-- ---- multiples of the lanes

times_even : (lanes a factor : ℕ) → factor % lanes ≡ 0 → (a * factor) % lanes ≡ 0
times_even lanes a factor even = same-mul lanes a a factor 0 refl (even ∙ sym (zero-mod lanes)) ∙ (ap (λ k. k % lanes) (mul-zero a) ∙ zero-mod lanes)

sum_even : (lanes a b : ℕ) → a % lanes ≡ 0 → b % lanes ≡ 0 → (a + b) % lanes ≡ 0
sum_even lanes a b one two = same-add lanes a 0 b 0 (one ∙ sym (zero-mod lanes)) (two ∙ sym (zero-mod lanes)) ∙ zero-mod lanes

parts_even : (lanes room : ℕ) (parts : PlainParts) (vs : List ℕ) (q : ℕ) → are_even lanes room parts ≡ true →
    (parts_numbers parts vs q).value % lanes ≡ 0
parts_even lanes room NoParts vs q h = zero-mod lanes
parts_even lanes zero (AndParts part rest) vs q h = cc
parts_even lanes (suc room) (AndParts (Proc factor) rest) vs q h =
    let two = both_true (factor % lanes == 0) _ h in
    sum_even lanes (q * factor) _ (times_even lanes q factor (eqb-true (factor % lanes) 0 two.0)) (parts_even lanes room rest vs q two.1)
parts_even lanes (suc room) (AndParts (Var depth factor) rest) vs q h =
    let two = both_true (factor % lanes == 0) _ h in
    sum_even lanes (slice_index vs depth * factor) _ (times_even lanes (slice_index vs depth) factor (eqb-true (factor % lanes) 0 two.0)) (parts_even lanes room rest vs q two.1)
parts_even lanes (suc room) (AndParts (Product outer inner factor) rest) vs q h =
    let two = both_true (factor % lanes == 0) _ h in
    let both = slice_index vs outer * slice_index vs inner in
    sum_even lanes (both * factor) _ (times_even lanes both factor (eqb-true (factor % lanes) 0 two.0)) (parts_even lanes room rest vs q two.1)
parts_even lanes (suc room) (AndParts part rest) vs q h = cc

pub place_even : (lanes : ℕ) (place : PlainExpr) (vs : List ℕ) (q : ℕ) → is_even lanes place ≡ true →
    (sum_numbers place vs q).value % lanes ≡ 0
place_even lanes (Sum constant parts) vs q h =
    let two = both_true (constant % lanes == 0) _ h in
    sum_even lanes constant _ (eqb-true (constant % lanes) 0 two.0) (parts_even lanes 30 parts vs q two.1)

-- ---- the factors' places

value_small : (place : PlainExpr) (vs : List ℕ) (q : ℕ) → (sum_numbers place vs q).value ≤ (sum_numbers place vs q).peak
value_small (Sum constant parts) vs q = le-max_left (constant + (parts_numbers parts vs q).value) (parts_numbers parts vs q).peak

once : (n : ℕ) → n * 1 ≡ n
once n = omega arith

pub first_value : (cut : Cut) (place : PlainExpr) (vs : List ℕ) (q : ℕ) →
    (sum_numbers (place_in_first cut place) vs q).value ≡ first_place cut (sum_numbers place vs q).value
first_value cut place vs q = let n = (sum_numbers place vs q).value / cut.width in let e = once n in omega arith

pub first_peak : (cut : Cut) (place : PlainExpr) (vs : List ℕ) (q : ℕ) →
    (sum_numbers (place_in_first cut place) vs q).peak ≤ (sum_numbers place vs q).peak
first_peak cut place vs q =
    let v = (sum_numbers place vs q).value in
    let n = v / cut.width in
    let e = once n in
    let low = div-le_self v cut.width in
    let top = value_small place vs q in
    max-le (omega (arith, low, top, e)) (max-le (max-le (omega arith) (omega (arith, low, top, e))) (omega arith))

pub second_value : (cut : Cut) (place : PlainExpr) (vs : List ℕ) (q : ℕ) →
    (sum_numbers (place_in_second cut place) vs q).value ≡ second_place cut (sum_numbers place vs q).value
second_value cut place vs q =
    let v = (sum_numbers place vs q).value in
    let one = once (v % cut.width) in
    let inner : (sum_numbers (quotient_by place cut.width) vs q).value ≡ v / cut.width = first_value cut place vs q in
    let outer : (sum_numbers (quotient_by place cut.width) vs q).value / cut.across * cut.width ≡ v / cut.width / cut.across * cut.width = ap (λ n. n / cut.across * cut.width) inner in
    omega (arith, one, outer)

pub second_peak : (cut : Cut) (place : PlainExpr) (vs : List ℕ) (q : ℕ) →
    (sum_numbers (place_in_second cut place) vs q).peak ≤ (sum_numbers place vs q).peak
second_peak cut place vs q =
    let v = (sum_numbers place vs q).value in
    let b = (sum_numbers (quotient_by place cut.width) vs q).value in
    let top = value_small place vs q in
    let one = once (v % cut.width) in
    let rem = mod-le v cut.width in
    let inner : b ≡ v / cut.width = first_value cut place vs q in
    let whole = div-add-mod' v cut.width in
    let blocks = div-mul-le_self v cut.width in
    let fewer = div-le_self (v / cut.width) cut.across in
    let rows : b / cut.across * cut.width ≤ v / cut.width * cut.width = mul-le-mul_right cut.width (subst (λ n. n / cut.across ≤ v / cut.width) (sym inner) fewer) in
    let peak = first_peak cut place vs q in
    max-le (omega (arith, one, rows, whole, top))
    (max-le (max-le (omega arith) (omega (arith, one, rem, top))) (max-le (max-le (omega (arith, peak)) (omega (arith, rows, blocks, top))) (omega arith)))

-- ---- a program with a table in two factors is within the limits of programs

-- ---- places

-- the parts fit into the room that there is, and have no parentheses
one_more : (room : ℕ) (rest : PlainParts) → (all_parts rest ≤ room) × (parts_depth rest ≡ 0) →
    (1 + all_parts rest ≤ suc room) × (max 0 (parts_depth rest) ≡ 0)
one_more room rest (few, flat) = (omega (arith, few), ap (max 0) flat)

even_parts : (lanes room : ℕ) (parts : PlainParts) → are_even lanes room parts ≡ true →
    (all_parts parts ≤ room) × (parts_depth parts ≡ 0)
even_parts lanes room NoParts h = (omega arith, refl)
even_parts lanes zero (AndParts part rest) h = cc
even_parts lanes (suc room) (AndParts (Proc factor) rest) h =
    one_more room rest (even_parts lanes room rest (both_true (factor % lanes == 0) _ h).1)
even_parts lanes (suc room) (AndParts (Var depth factor) rest) h =
    one_more room rest (even_parts lanes room rest (both_true (factor % lanes == 0) _ h).1)
even_parts lanes (suc room) (AndParts (Product outer inner factor) rest) h =
    one_more room rest (even_parts lanes room rest (both_true (factor % lanes == 0) _ h).1)
even_parts lanes (suc room) (AndParts part rest) h = cc

even_place : (lanes : ℕ) (place : PlainExpr) → is_even lanes place ≡ true →
    (sum_parts place ≤ 30) × (sum_depth place ≡ 0)
even_place lanes (Sum constant parts) h = even_parts lanes 30 parts (both_true (constant % lanes == 0) _ h).1

quotient_within : (place : PlainExpr) (divisor n : ℕ) → is_sum_within place n ≡ true →
    is_small_positive divisor ≡ true → is_sum_within (quotient_by place divisor) n ≡ true
quotient_within place divisor n sum small =
    ap₂ (λ a b. (a && (b && true)) && true) sum small

first_within : (lanes : ℕ) (cut : Cut) (place : PlainExpr) (n : ℕ) → is_small_positive cut.width ≡ true →
    is_even lanes place ≡ true → is_expr_within place n ≡ true → is_expr_within (place_in_first cut place) n ≡ true
first_within lanes cut place n wide even h =
    let two = both_true (is_sum_within place n) _ h in
    let flat = even_place lanes place even in
    and_from (is_sum_within (place_in_first cut place) n) _ (quotient_within place cut.width n two.0 wide)
    (and_from (nat_le (1 + sum_parts place + 0) 64) (nat_le (max (1 + sum_depth place) 0) 64)
    (le-leb (1 + sum_parts place + 0) 64 (omega (arith, flat)))
    (ap (λ d. nat_le (max (1 + d) 0) 64) flat.1))

second_within : (lanes : ℕ) (cut : Cut) (place : PlainExpr) (n : ℕ) → is_small_positive cut.width ≡ true →
    is_small_positive cut.across ≡ true → is_even lanes place ≡ true → is_expr_within place n ≡ true →
    is_expr_within (place_in_second cut place) n ≡ true
second_within lanes cut place n wide across even h =
    let two = both_true (is_sum_within place n) _ h in
    let flat = even_place lanes place even in
    let block = quotient_within place cut.width n two.0 wide in
    and_from (is_sum_within (place_in_second cut place) n) _
    (and_from (is_sum_within place n && (is_small_positive cut.width && true)) ((is_sum_within (quotient_by place cut.width) n && (is_small_positive cut.across && is_small_positive cut.width)) && true)
    (ap₂ (λ a b. a && (b && true)) two.0 wide)
    (ap₂ (λ a b. (a && b) && true) block (and_from (is_small_positive cut.across) (is_small_positive cut.width) across wide)))
    (and_from (nat_le (sum_parts (place_in_second cut place)) 64) (nat_le (sum_depth (place_in_second cut place)) 64)
    (le-leb (1 + sum_parts place + (1 + (1 + sum_parts place + 0) + 0)) 64 (omega (arith, flat)))
    (ap (λ d. nat_le (max (1 + d) (max (1 + max (1 + d) 0) 0)) 64) flat.1))

-- ---- statements

before_within : (m n : ℕ) (stmts : List PlainStmt) (body : PlainBody) →
    list_all (λ s. is_stmt_within m s n) stmts ≡ true → is_body_within m body n ≡ true →
    is_body_within m (put_before stmts body) n ≡ true
before_within m n [] body h k = k
before_within m n (stmt ∷ stmts) body h k =
    later_kept (is_stmt_within m stmt n) (λ more. before_within m n stmts body more k) h

module _ (m lanes : ℕ) (split : Split) (register : is_small split.register ≡ true) (second : is_small split.second ≡ true)
    (wide : is_small_positive split.cut.width ≡ true) (across : is_small_positive split.cut.across ≡ true) where
  abbrev all : ℕ → List PlainStmt → Bool
  all n stmts = list_all (λ s. is_stmt_within m s n) stmts

  alone : (op : PlainOp) (n : ℕ) → is_op_within m op n ≡ true → all n (Do op ∷ []) ≡ true
  alone op n h = and_from (is_op_within m op n) true h refl

  products_within : (r x of step n : ℕ) (place : PlainExpr) → of ≡ split.table → is_even lanes place ≡ true →
      is_op_within m (MulTable r x of place step) n ≡ true →
      all n (two_products split (MulTable r x of place step)) ≡ true
  products_within r x of step n place e even h =
      let c = four_true (is_small r) (is_small x) (is_small of) _ h in
      let one = first_within lanes split.cut place n wide even (both_true (nat_lt step 2) _ c.3).1 in
      and_from (is_op_within m (MulTable split.register x split.table (place_in_first split.cut place) 0) n) _
      (and_from (is_small split.register) _ register (and_from (is_small x) _ c.1 (and_from (is_small split.table) _ (ap is_small (sym e) ∙ c.2) one)))
      (and_from (is_op_within m (MulTable r split.register split.second (place_in_second split.cut place) step) n) true
      (and_from (is_small r) _ c.0 (and_from (is_small split.register) _ register
      (and_from (is_small split.second) _ second (later_kept (nat_lt step 2) (second_within lanes split.cut place n wide across even) c.3))))
      refl)

  op_within : (op : PlainOp) (n : ℕ) → is_op_even lanes split.table op ≡ true → is_op_within m op n ≡ true →
      all n (factored_op split op) ≡ true
  op_within (MulTable r x of place step) n even h =
      by_equal (λ stmts. all n stmts ≡ true) of split.table (two_products split (MulTable r x of place step))
      (Do (MulTable r x of place step) ∷ [])
      (λ same.
      products_within r x of step n place same
      (both_true (nat_lt step 2) _ (sym (chosen of split.table _ true same) ∙ even)).1 h)
      (λ other. alone (MulTable r x of place step) n h)
  op_within op n even h = alone op n h

  mutual
    stmt_within : (stmt : PlainStmt) (n : ℕ) → is_stmt_even lanes split.table stmt ≡ true →
        is_stmt_within m stmt n ≡ true → all n (factored_stmt split stmt) ≡ true
    stmt_within (Loop count body) n even h =
        and_from (is_stmt_within m (Loop count (factored_body split body)) n) true
        (later_kept (is_small_positive count) (later_kept (nat_lt n 64) (body_within body (n + 1) even)) h) refl
    stmt_within (Do op) n even h = op_within op n even h

    body_within : (body : PlainBody) (n : ℕ) → is_body_even lanes split.table body ≡ true →
        is_body_within m body n ≡ true → is_body_within m (factored_body split body) n ≡ true
    body_within NoStmts n even h = refl
    body_within (AndStmts stmt rest) n even h =
        let a = both_true (is_stmt_even lanes split.table stmt) _ even in
        let b = both_true (is_stmt_within m stmt n) _ h in
        before_within m n (factored_stmt split stmt) (factored_body split rest) (stmt_within stmt n a.0 b.0) (body_within rest n a.1 b.1)

  pub phases_within : (bodies : List PlainBody) → list_all (is_body_even lanes split.table) bodies ≡ true →
      are_phases_within m bodies ≡ true → are_phases_within m (map (factored_body split) bodies) ≡ true
  phases_within =
      all-within m (factored_body split) (is_body_even lanes split.table) (λ body even within. body_within body 0 even within)

-- ---- tables

pub tables_within : (m : ℕ) (tables : List (List ℕ)) (k : ℕ) (first second : List ℕ) →
    are_tables_within m tables ≡ true → is_table m first ≡ true → is_table m second ≡ true →
    are_tables_within m (slice_set tables k first ++ second ∷ []) ≡ true
tables_within m [] k first second h one two = and_from (is_table m second) true two refl
tables_within m (entries ∷ tables) zero first second h one two =
    and_from (is_table m first) _ one (behind tables (both_true (is_table m entries) _ h).1)
  where
    behind : (tables : List (List ℕ)) → are_tables_within m tables ≡ true →
        are_tables_within m (tables ++ second ∷ []) ≡ true
    behind [] h = and_from (is_table m second) true two refl
    behind (entries ∷ tables) h = later_kept (is_table m entries) (behind tables) h
tables_within m (entries ∷ tables) (suc k) first second h one two =
    later_kept (is_table m entries) (λ more. tables_within m tables k first second more one two) h
