-- Statements with their registers renumbered stand within the limits of programs.
use Rattle.std.proofs.Common.{◌≡◌, ℕ, ◌+◌, ◌^◌, ◌<◌, ◌≤◌, List, [], ◌∷◌, true, Option, Some, None, refl, arith}
use Rattle.std.proofs.Common.{lt-ltb, subst, length, ap, ◌∙◌, sym, suc}
use Rattle.std.specs.Prelude.{option_map, nat_lt}
use Rattle.std.specs.List.{list_all}
use Rattle.std.proofs.lemmas.Bool.{and_parts, and_from}
use Rattle.std.proofs.Math.Nat.{le-max_left, le-max_right}
use Rattle.icode.specs.Limits.{is_small, is_small_positive, is_expr_within, is_op_within, is_stmt_within}
use Rattle.icode.specs.Limits.{is_body_within}
use Rattle.icode.specs.Limits.{are_phases_within}
use Rattle.icode.specs.Plain.{PlainOp, PlainBody, Load, Store, Zero, Add, Sub, Neg, MulConst, MulTable, Tile, Loop, Do}
use Rattle.icode.specs.Plain.{NoStmts, AndStmts}
use Rattle.nests.specs.Rounds.{put_after}
use Rattle.nests.proofs.Bools.{three_true}
use Rattle.nests.proofs.Limited.{and_three}
use Rattle.renumbered_registers.specs.Renumbered.{Numbering, no_numbers, numbered_op, after_op, and_stmts}
use Rattle.renumbered_registers.specs.Renumbered.{numbered_body, and_phases, numbered_phases, most_put, registers_for}
use Rattle.renumbered_registers.proofs.Given.{AreGiven, given-none, given-after, next-after, none-is, some-is}
use Rattle.renumbered_registers.proofs.Sources.{one-source, two-sources, tile-source}
use Rattle.renumbered_registers.proofs.Renaming.{most-more, inside-loop, behind-loop}

small : (n : ℕ) → n < 2 ^ 20 → is_small n ≡ true
small n lt = lt-ltb n (2 ^ 32) (omega (arith, lt))

below : (n next : ℕ) → n < next → next ≤ 2 ^ 20 → is_small n ≡ true
below n next lt le = small n (omega (arith, lt, le))

module _ (m d lanes : ℕ) (z : Numbering) (given : AreGiven z) where
  abbrev Holds : PlainOp → Type 0
  Holds op = is_op_within m op d ≡ true

  put-small : z.next + 1 ≤ 2 ^ 20 → is_small z.next ≡ true
  put-small room = small z.next (omega (arith, room))

  source-small : (r n : ℕ) → z.numbers r ≡ Some n → z.next ≤ 2 ^ 20 → is_small n ≡ true
  source-small r n is room = below n z.next (given r n is) room

  pub op-within : (old new : PlainOp) → numbered_op lanes z old ≡ Some new → put_after lanes z.next old ≤ 2 ^ 20 →
      Holds old → Holds new
  op-within (Load r array place) new e room h =
      subst Holds (some-is (Load z.next array place) new e)
      (and_from (is_small z.next) (is_expr_within place d) (put-small room) (and_parts (is_small r) _ h).1)
  op-within (Store array place r) new e room h =
      one-source z Holds new (Store array place) (z.numbers r) (λ n is.
      and_from (is_small n) (is_expr_within place d) (source-small r n is room) (and_parts (is_small r) _ h).1) e
  op-within (Zero r) new e room h = subst Holds (some-is (Zero z.next) new e) (put-small room)
  op-within (Add r x y) new e room h =
      two-sources z Holds new (Add r) (z.numbers x) (z.numbers y) (λ a b is too.
      and_three (is_small z.next) (is_small a) (is_small b) (put-small room)
      (source-small x a is (omega (arith, room))) (source-small y b too (omega (arith, room)))) e
  op-within (Sub r x y) new e room h =
      two-sources z Holds new (Sub r) (z.numbers x) (z.numbers y) (λ a b is too.
      and_three (is_small z.next) (is_small a) (is_small b) (put-small room)
      (source-small x a is (omega (arith, room))) (source-small y b too (omega (arith, room)))) e
  op-within (Neg r x) new e room h =
      one-source z Holds new (Neg r) (z.numbers x) (λ n is.
      and_from (is_small z.next) (is_small n) (put-small room) (source-small x n is (omega (arith, room)))) e
  op-within (MulConst r x factor) new e room h =
      one-source z Holds new (λ n. MulConst r n factor) (z.numbers x) (λ n is.
      and_three (is_small z.next) (is_small n) (nat_lt factor m) (put-small room)
      (source-small x n is (omega (arith, room))) (three_true (is_small r) (is_small x) (nat_lt factor m) h).2) e
  op-within (MulTable r x table place step) new e room h =
      one-source z Holds new (λ n. MulTable r n table place step) (z.numbers x) (λ n is.
      and_three (is_small z.next) (is_small n) _ (put-small room)
      (source-small x n is (omega (arith, room))) (three_true (is_small r) (is_small x) _ h).2) e
  op-within (Tile r x) new e room h =
      tile-source z Holds new lanes r x (z.numbers x) (λ n is follow.
      let lt = given x n is in
      and_from (is_small z.next) (is_small n) (lt-ltb z.next (2 ^ 32) (omega (arith, room)))
      (source-small x n is (omega (arith, room)))) e

pub body-within : (m d lanes : ℕ) (body new : PlainBody) (z : Numbering) → numbered_body lanes z body ≡ Some new →
    AreGiven z → most_put lanes z.next body ≤ 2 ^ 20 → is_body_within m body d ≡ true → is_body_within m new d ≡ true
body-within m d lanes NoStmts new z e given room h =
    subst (λ b. is_body_within m b d ≡ true) (some-is NoStmts new e) refl
body-within m d lanes (AndStmts (Do op) rest) new z e given room h =
    of_both (numbered_op lanes z op) (numbered_body lanes (after_op lanes z op) rest) refl refl e (λ b is.
    body-within m d lanes rest b (after_op lanes z op) is (given-after lanes z op given) more
    (and_parts (is_op_within m op d) _ h).1)
  where
    more : most_put lanes (after_op lanes z op).next rest ≤ 2 ^ 20
    more = subst (λ n. most_put lanes n rest ≤ 2 ^ 20) (sym (next-after lanes z op)) room

    here : put_after lanes z.next op ≤ 2 ^ 20
    here = let le = most-more lanes (put_after lanes z.next op) rest in omega (arith, le, room)

    of_both : (o : Option PlainOp) (b : Option PlainBody) → numbered_op lanes z op ≡ o →
        numbered_body lanes (after_op lanes z op) rest ≡ b → and_stmts (option_map Do o) b ≡ Some new →
        ((b : PlainBody) → numbered_body lanes (after_op lanes z op) rest ≡ Some b → is_body_within m b d ≡ true) →
        is_body_within m new d ≡ true
    of_both None b is too e further = none-is new e
    of_both (Some o) None is too e further = none-is new e
    of_both (Some o) (Some b) is too e further =
        let two = and_parts (is_op_within m op d) _ h in
        subst (λ c. is_body_within m c d ≡ true) (some-is (AndStmts (Do o) b) new e)
        (and_from (is_op_within m o d) (is_body_within m b d) (op-within m d lanes z given op o is here two.0)
        (further b too))
body-within m d lanes (AndStmts (Loop count body) rest) new z e given room h =
    of_both (numbered_body lanes no_numbers body) (numbered_body lanes no_numbers rest) refl refl e (λ o is.
    body-within m (d + 1) lanes body o no_numbers is given-none (inside-loop lanes z.next (2 ^ 20) count body rest room)
    loop.2) (λ b is.
    body-within m d lanes rest b no_numbers is given-none (behind-loop lanes z.next (2 ^ 20) count body rest room)
    (and_parts (is_stmt_within m (Loop count body) d) _ h).1)
  where
    loop : (is_small_positive count ≡ true) × (nat_lt d 64 ≡ true) × (is_body_within m body (d + 1) ≡ true)
    loop =
        three_true (is_small_positive count) (nat_lt d 64) (is_body_within m body (d + 1))
        (and_parts (is_stmt_within m (Loop count body) d) _ h).0

    of_both : (o b : Option PlainBody) → numbered_body lanes no_numbers body ≡ o →
        numbered_body lanes no_numbers rest ≡ b → and_stmts (option_map (Loop count) o) b ≡ Some new →
        ((o : PlainBody) → numbered_body lanes no_numbers body ≡ Some o → is_body_within m o (d + 1) ≡ true) →
        ((b : PlainBody) → numbered_body lanes no_numbers rest ≡ Some b → is_body_within m b d ≡ true) →
        is_body_within m new d ≡ true
    of_both None b is too e inside further = none-is new e
    of_both (Some o) None is too e inside further = none-is new e
    of_both (Some o) (Some b) is too e inside further =
        subst (λ c. is_body_within m c d ≡ true) (some-is (AndStmts (Loop count o) b) new e)
        (and_from (is_stmt_within m (Loop count o) d) (is_body_within m b d)
        (and_three (is_small_positive count) (nat_lt d 64) (is_body_within m o (d + 1)) loop.0 loop.1 (inside o is))
        (further b too))

-- ---- phases

bodies-within : (m lanes : ℕ) (old new : List PlainBody) → numbered_phases lanes old ≡ Some new →
    registers_for lanes old ≤ 2 ^ 20 → list_all (λ body. is_body_within m body 0) old ≡ true →
    (length new ≡ length old) × (list_all (λ body. is_body_within m body 0) new ≡ true)
bodies-within m lanes [] new e room h =
    subst (λ bs. (length bs ≡ 0) × (list_all (λ body. is_body_within m body 0) bs ≡ true))
    (some-is [] new e) (refl, refl)
bodies-within m lanes (body ∷ rest) new e room h =
    of_both (numbered_body lanes no_numbers body) (numbered_phases lanes rest) refl refl e (λ bs is.
    bodies-within m lanes rest bs is
    (let b = le-max_right (most_put lanes 0 body) (registers_for lanes rest) in omega (arith, b, room)) two.1)
  where
    two : (is_body_within m body 0 ≡ true) × (list_all (λ body. is_body_within m body 0) rest ≡ true)
    two = and_parts (is_body_within m body 0) _ h

    here : most_put lanes 0 body ≤ 2 ^ 20
    here = let a = le-max_left (most_put lanes 0 body) (registers_for lanes rest) in omega (arith, a, room)

    of_both : (b : Option PlainBody) (bs : Option (List PlainBody)) → numbered_body lanes no_numbers body ≡ b →
        numbered_phases lanes rest ≡ bs → and_phases b bs ≡ Some new →
        ((bs : List PlainBody) → numbered_phases lanes rest ≡ Some bs →
        (length bs ≡ length rest) × (list_all (λ body. is_body_within m body 0) bs ≡ true)) →
        (length new ≡ suc (length rest)) × (list_all (λ body. is_body_within m body 0) new ≡ true)
    of_both None bs is too e further = none-is new e
    of_both (Some b) None is too e further = none-is new e
    of_both (Some b) (Some bs) is too e further =
        let more = further bs too in
        subst (λ cs. (length cs ≡ suc (length rest)) × (list_all (λ body. is_body_within m body 0) cs ≡ true))
        (some-is (b ∷ bs) new e) (
          ap suc more.0,
          and_from (is_body_within m b 0) _ (body-within m 0 lanes body b no_numbers is given-none here two.0) more.1,
        )

pub phases-within : (m lanes : ℕ) (old new : List PlainBody) → numbered_phases lanes old ≡ Some new →
    registers_for lanes old ≤ 2 ^ 20 → are_phases_within m old ≡ true → are_phases_within m new ≡ true
phases-within m lanes old new is room h =
    let some = and_parts (nat_lt 0 (length old)) _ h in
    let all = bodies-within m lanes old new is room some.1 in
    and_from (nat_lt 0 (length new)) _ (ap (nat_lt 0) all.0 ∙ some.0) all.1
