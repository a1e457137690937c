-- Parts, loops and statements within the limits of programs.
use Rattle.std.proofs.Common.{◌≡◌, ℕ, zero, suc, ◌<◌, ◌≤◌, List, [], ◌∷◌, Bool, true}
use Rattle.std.proofs.Common.{length, get_or, refl, ap, ◌∙◌, arith, mul-le-mul_left, ◌*◌}
use Rattle.std.proofs.Common.{◌+◌, ltb-true, lt-ltb}
use Rattle.std.specs.Prelude.{◌&&◌, nat_lt, nat_le}
use Rattle.std.specs.List.{list_all}
use Rattle.icode.specs.declared.program.Stmt.{Stmt}
use Rattle.icode.specs.Limits.{is_stmt_within, is_body_within, rank, next_rank, is_small, is_small_positive}
use Rattle.icode.specs.Limits.{is_part_within, are_parts_within}
use Rattle.icode.specs.Plain.{PlainPart, PlainStmt, PlainBody, AndParts, Var, Loop, NoStmts, AndStmts}
use Rattle.icode.specs.Plain.{plain_stmt, plain_body, PlainParts}
use Rattle.icode.specs.Plain.{NoParts}
use Rattle.icode.proofs.Bools.{both_true}
use Rattle.nests.specs.Nests.{looped}
use Rattle.nests.proofs.Bools.{three_true}
use Rattle.std.proofs.lemmas.Bool.{leb-true, le-leb, and_parts, and_from}

-- ---- parts

pub and_three : (a b c : Bool) → a ≡ true → b ≡ true → c ≡ true → (a && (b && c)) ≡ true
and_three a b c ea eb ec = and_from a (b && c) ea (and_from b c eb ec)

-- a product of positive numbers
pub positive-product : (a b : ℕ) → 0 < a → is_small_positive b ≡ true → is_small (a * b) ≡ true →
    is_small_positive (a * b) ≡ true
positive-product a b some h small =
    let low : 0 < b = ltb-true 0 b (and_parts (nat_lt 0 b) (is_small b) h).0 in
    let more : a * 1 ≤ a * b = mul-le-mul_left a low in
    and_from (nat_lt 0 (a * b)) (is_small (a * b)) (lt-ltb 0 (a * b) (omega (arith, some, more))) small

-- what is known of a part in front
pub record IsPartWithin (part : PlainPart) (n least : ℕ) (rest : PlainParts) : Type 0 where
  pub within : is_part_within part n ≡ true
  pub ranked : least ≤ rank part
  pub behind : are_parts_within rest n (next_rank part) ≡ true

pub part-within : (part : PlainPart) (n least : ℕ) (rest : PlainParts) →
    are_parts_within (AndParts part rest) n least ≡ true → IsPartWithin part n least rest
part-within part n least rest h =
    let more = three_true (is_part_within part n) (nat_le least (rank part)) _ h in
    record { within = more.0; ranked = leb-true least (rank part) more.1; behind = more.2 }

pub part-is : (part : PlainPart) (n least : ℕ) (rest : PlainParts) → IsPartWithin part n least rest →
    are_parts_within (AndParts part rest) n least ≡ true
part-is part n least rest k =
    and_three (is_part_within part n) (nat_le least (rank part)) (are_parts_within rest n (next_rank part))
    k.within (le-leb least (rank part) k.ranked) k.behind

-- after another rank, as long as it is no greater
pub part-moved : (part : PlainPart) (n least other : ℕ) (rest : PlainParts) → other ≤ rank part →
    are_parts_within (AndParts part rest) n least ≡ true → are_parts_within (AndParts part rest) n other ≡ true
part-moved part n least other rest le h =
    let k = part-within part n least rest h in
    part-is part n other rest (record { within = k.within; ranked = le; behind = k.behind })

-- what comes after a rank comes after lower ones
pub parts-lower : (parts : PlainParts) (n least lower : ℕ) → lower ≤ least → are_parts_within parts n least ≡ true →
    are_parts_within parts n lower ≡ true
parts-lower NoParts n least lower le h = refl
parts-lower (AndParts part rest) n least lower le h =
    let bound = (part-within part n least rest h).ranked in
    part-moved part n least lower rest (omega (arith, bound, le)) h

-- a multiple of a loop's value in front
pub one-within : (depth a n least behind : ℕ) (rest : PlainParts) → depth < n → least ≤ depth + 1 →
    is_small_positive a ≡ true → depth + 2 ≤ behind → are_parts_within rest n behind ≡ true →
    are_parts_within (AndParts (Var depth a) rest) n least ≡ true
one-within depth a n least behind rest deep le ea lower h =
    part-is (Var depth a) n least rest
    (record {
      within = and_from (nat_lt depth n) _ (lt-ltb depth n deep) ea;
      ranked = omega (arith, le);
      behind = parts-lower rest n behind (suc (1 + depth)) (omega (arith, lower)) h;
    })

-- what is known of a multiple of a loop's value in front
pub record IsVarWithin (depth a n least : ℕ) (rest : PlainParts) : Type 0 where
  pub deep : depth < n
  pub small : is_small_positive a ≡ true
  pub ranked : least ≤ depth + 1
  pub behind : are_parts_within rest n (depth + 2) ≡ true

pub var-within : (depth a n least : ℕ) (rest : PlainParts) →
    are_parts_within (AndParts (Var depth a) rest) n least ≡ true → IsVarWithin depth a n least rest
var-within depth a n least rest h =
    let k = part-within (Var depth a) n least rest h in
    let part = and_parts (nat_lt depth n) _ k.within in
    let le : least ≤ 1 + depth = k.ranked in
    record {
      deep = ltb-true depth n part.0;
      small = part.1;
      ranked = omega (arith, le);
      behind = parts-lower rest n (suc (1 + depth)) (depth + 2) (omega arith) k.behind;
    }

-- ---- statements

-- what is known of a loop within the limits
pub record IsLoopWithin (m count depth : ℕ) (body : PlainBody) : Type 0 where
  pub small : is_small_positive count ≡ true
  pub deep : depth < 64
  pub within : is_body_within m body (depth + 1) ≡ true

pub loop-within : (m count depth : ℕ) (body : PlainBody) → is_stmt_within m (Loop count body) depth ≡ true →
    IsLoopWithin m count depth body
loop-within m count depth body h =
    let b = three_true (is_small_positive count) (nat_lt depth 64) _ h in
    record { small = b.0; deep = ltb-true depth 64 b.1; within = b.2 }

pub loop-is : (m count depth : ℕ) (body : PlainBody) → IsLoopWithin m count depth body →
    is_stmt_within m (Loop count body) depth ≡ true
loop-is m count depth body k = and_three (is_small_positive count) (nat_lt depth 64) (is_body_within m body (depth + 1)) k.small (lt-ltb depth 64 k.deep) k.within

pub only-within : (m depth : ℕ) (stmt : PlainStmt) → is_body_within m (AndStmts stmt NoStmts) depth ≡ true →
    is_stmt_within m stmt depth ≡ true
only-within m depth stmt h = (and_parts (is_stmt_within m stmt depth) _ h).0

pub only-is : (m depth : ℕ) (stmt : PlainStmt) → is_stmt_within m stmt depth ≡ true →
    is_body_within m (AndStmts stmt NoStmts) depth ≡ true
only-is m depth stmt h = and_from (is_stmt_within m stmt depth) true h refl

-- what is known of loops of these counts within the limits, and of the round in them
pub record AreLoopsWithin (m depth : ℕ) (counts : List ℕ) (round : PlainBody) : Type 0 where
  pub small : list_all is_small_positive counts ≡ true
  pub deep : depth + length counts ≤ 64
  pub within : is_body_within m round (depth + length counts) ≡ true

pub looped-within : (m depth : ℕ) (counts : List ℕ) (round : PlainBody) → depth ≤ 64 →
    is_body_within m (looped counts round) depth ≡ true → AreLoopsWithin m depth counts round
looped-within m depth [] round top h = record { small = refl; deep = omega (arith, top); within = ap (λ n. is_body_within m round n) (omega arith) ∙ h }
looped-within m depth (count ∷ counts) round top h =
    let one = loop-within m count depth (looped counts round) (only-within m depth (Loop count (looped counts round)) h) in
    let more = looped-within m (depth + 1) counts round (let deep = one.deep in omega (arith, deep)) one.within in
    record {
      small = and_from (is_small_positive count) _ one.small more.small;
      deep = let deep = more.deep in omega (arith, deep);
      within = ap (λ n. is_body_within m round n) (omega arith) ∙ more.within;
    }

pub looped-is : (m depth : ℕ) (counts : List ℕ) (round : PlainBody) → AreLoopsWithin m depth counts round →
    is_body_within m (looped counts round) depth ≡ true
looped-is m depth [] round k = ap (λ n. is_body_within m round n) (omega arith) ∙ k.within
looped-is m depth (count ∷ counts) round k =
    let both = and_parts (is_small_positive count) _ k.small in
    let deep = k.deep in
    let more : AreLoopsWithin m (depth + 1) counts round = record { small = both.1; deep = omega (arith, deep); within = ap (λ n. is_body_within m round n) (omega arith) ∙ k.within } in
    only-is m depth (Loop count (looped counts round)) (loop-is m count depth (looped counts round) (record { small = both.0; deep = omega (arith, deep); within = looped-is m (depth + 1) counts round more }))

-- ---- limits of what is inside

pub item-within : (m depth i : ℕ) (items : List Stmt) (x : Stmt) → is_body_within m (plain_body items) depth ≡ true →
    i < length items → x ≡ get_or items i x → is_stmt_within m (plain_stmt x) depth ≡ true
item-within m depth i [] x e lt is = absurd (omega arith)
item-within m depth zero (y ∷ items) x e lt is =
    ap (λ s. is_stmt_within m (plain_stmt s) depth) is ∙ (both_true _ _ e).0
item-within m depth (suc i) (y ∷ items) x e lt is = item-within m depth i items x (both_true _ _ e).1 (omega arith) is
