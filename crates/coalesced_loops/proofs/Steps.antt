-- Two loops that are one do the steps that they did, and stand within the limits of programs.
use Rattle.std.proofs.Common.{◌≡◌, ℕ, ◌+◌, ◌*◌, true, Some, None, List, [], ◌∷◌, ◌++◌, flat_map, length, refl, sym, ap}
use Rattle.std.proofs.Common.{ap₂, ◌∙◌, arith, append-nil, append_assoc, length-append, ◌⊎◌, inl, inr, ◌<◌, ◌≤◌, subst}
use Rattle.std.proofs.Common.{ltb-true, map}
use Rattle.std.specs.Prelude.{◌%◌, ◌==◌, ◌&&◌, not, nat_lt, nat_le, max}
use Rattle.std.specs.List.{range_with_len}
use Rattle.std.specs.Option.{unwrap_or}
use Rattle.std.proofs.Math.Path.{fun_ext}
use Rattle.icode.specs.Actions.{Step, step_of, steps_of_stmt, steps_of_body}
use Rattle.icode.specs.Limits.{is_small, is_small_positive, are_parts_within, all_parts, parts_depth, is_expr_within}
use Rattle.icode.specs.Limits.{is_op_within, is_stmt_within, is_body_within, are_phases_within}
use Rattle.icode.specs.Plain.{PlainOp, PlainStmt, PlainBody, PlainProgram, Load, Store, MulTable, Loop, Do, NoStmts}
use Rattle.icode.specs.Plain.{AndStmts, PlainExpr, PlainParts, Sum, NoParts, AndParts, Proc, Var}
use Rattle.icode.proofs.Bools.{both_true}
use Rattle.coalesced_loops.specs.Coalesced.{op_goes_on, body_goes_on, lifted_op, lifted_body, as_one, coalesced_stmt}
use Rattle.coalesced_loops.specs.Coalesced.{coalesced_body, place_goes_on, lifted_parts, lifted_place}
use Rattle.nests.proofs.Limited.{positive-product, IsVarWithin, and_three, one-within, var-within, loop-within}
use Rattle.nests.proofs.Limited.{loop-is, only-within}
use Rattle.nests.proofs.Bools.{by_test, both_kept, later_kept}
use Rattle.nests.proofs.Grouped.{in_groups}
use Rattle.coalesced_loops.proofs.Numbers.{place_same, LiftedVar, lifted_var}
use Rattle.std.proofs.lemmas.Bool.{leb-true, le-leb, and_parts}
use Rattle.nests.specs.Places.{are_linear}
use Rattle.nests.proofs.Linear.{wrong, from_least, proc_first}
use Rattle.nests.proofs.InPlace.{all-within}

module _ (p : PlainProgram) (q : ℕ) where
  -- ---- the body of two loops, in the round i of the outer one and j of the inner one

  module _ (loop inner : ℕ) (vs : List ℕ) (i j : ℕ) (deep : length vs ≡ loop) where
    op-same : (op : PlainOp) (us : List ℕ) → op_goes_on loop inner op ≡ true →
        step_of p (lifted_op loop op) (vs ++ (inner * i + j) ∷ us) q ≡ step_of p op (vs ++ i ∷ j ∷ us) q
    op-same (Load r array place) us h = rw (place_same loop vs us i j (inner * i + j) q deep inner place h refl) refl
    op-same (Store array place r) us h = rw (place_same loop vs us i j (inner * i + j) q deep inner place h refl) refl
    op-same (MulTable r x table place step) us h =
        rw (place_same loop vs us i j (inner * i + j) q deep inner place h refl) refl
    op-same op us h = refl

    body-same : (body : PlainBody) (us : List ℕ) → body_goes_on loop inner body ≡ true →
        steps_of_body p (lifted_body loop body) (vs ++ (inner * i + j) ∷ us) q
        ≡ steps_of_body p body (vs ++ i ∷ j ∷ us) q
    body-same NoStmts us h = refl
    body-same (AndStmts (Do op) rest) us h =
        let two = both_true (op_goes_on loop inner op) _ h in
        ap₂ (λ xs ys. xs ++ ys) (ap (λ (s : Step). s ∷ []) (op-same op us two.0)) (body-same rest us two.1)
    body-same (AndStmts (Loop count body) rest) us h = absurd (cc)

  -- ---- both loops

  both-same : (loop count inner : ℕ) (body : PlainBody) (vs : List ℕ) → length vs ≡ loop →
      body_goes_on loop inner body ≡ true →
      steps_of_stmt p (Loop (count * inner) (lifted_body loop body)) vs q
      ≡ steps_of_stmt p (Loop count (AndStmts (Loop inner body) NoStmts)) vs q
  both-same loop count inner body vs deep h =
      in_groups (λ k. steps_of_body p (lifted_body loop body) (vs ++ k ∷ []) q) inner count (count * inner)
      (omega arith)
      ∙ ap (λ (f : ℕ → List Step). flat_map f (range_with_len 0 count)) (fun_ext (λ i.
      ap (λ (f : ℕ → List Step). flat_map f (range_with_len 0 inner)) (fun_ext (λ j.
      body-same loop inner vs i j deep body [] h
      ∙ ap (λ ws. steps_of_body p body ws q) (sym (append_assoc vs (i ∷ []) (j ∷ [])))))
      ∙ sym (append-nil (flat_map (λ j. steps_of_body p body ((vs ++ i ∷ []) ++ j ∷ []) q) (range_with_len 0 inner)))))

  one-same : (loop count : ℕ) (body : PlainBody) (vs : List ℕ) → length vs ≡ loop →
      steps_of_stmt p (unwrap_or (as_one loop count body) (Loop count body)) vs q
      ≡ steps_of_stmt p (Loop count body) vs q
  one-same loop count NoStmts vs deep = refl
  one-same loop count (AndStmts (Do op) rest) vs deep = refl
  one-same loop count (AndStmts (Loop inner body) (AndStmts stmt rest)) vs deep = refl
  one-same loop count (AndStmts (Loop inner body) NoStmts) vs deep =
      by_test (λ made. steps_of_stmt p (unwrap_or made whole) vs q ≡ steps_of_stmt p whole vs q)
      (not (inner % 16 == 0) && (is_small (count * inner) && body_goes_on loop inner body))
      (Some (Loop (count * inner) (lifted_body loop body))) None
      (λ e.
      both-same loop count inner body vs deep
      (both_true (is_small (count * inner)) _ (both_true (not (inner % 16 == 0)) _ e).1).1)
      (λ e. refl)
    where
      whole : PlainStmt
      whole = Loop count (AndStmts (Loop inner body) NoStmts)

  one_deeper : (loop : ℕ) (vs : List ℕ) (i : ℕ) → length vs ≡ loop → length (vs ++ i ∷ []) ≡ loop + 1
  one_deeper loop vs i deep = length-append vs (i ∷ []) ∙ ap (λ n. n + 1) deep

  -- statements where loops are coalesced
  mutual
    stmt-coalesced : (loop : ℕ) (stmt : PlainStmt) (vs : List ℕ) → length vs ≡ loop →
        steps_of_stmt p (coalesced_stmt loop stmt) vs q ≡ steps_of_stmt p stmt vs q
    stmt-coalesced loop (Loop count body) vs deep =
        one-same loop count (coalesced_body (loop + 1) body) vs deep
        ∙ ap (λ (f : ℕ → List Step). flat_map f (range_with_len 0 count)) (fun_ext (λ i. body_coalesced (loop + 1) body (vs
        ++ i ∷ []) (one_deeper loop vs i deep)))
    stmt-coalesced loop (Do op) vs deep = refl

    pub body_coalesced : (loop : ℕ) (body : PlainBody) (vs : List ℕ) → length vs ≡ loop →
        steps_of_body p (coalesced_body loop body) vs q ≡ steps_of_body p body vs q
    body_coalesced loop NoStmts vs deep = refl
    body_coalesced loop (AndStmts stmt rest) vs deep =
        ap₂ (λ xs ys. xs ++ ys) (stmt-coalesced loop stmt vs deep) (body_coalesced loop rest vs deep)

-- ---- coalesced loops stand within the limits of programs

-- ---- places

-- parts stand by their ranks, the lifted ones from a rank on that no loop takes from those before
parts-within : (loop n first least lower : ℕ) (parts : PlainParts) → loop < n → lower ≤ least →
    (lower ≤ loop + 1) ⊎ (lower + 1 ≤ least) →
    are_linear first parts ≡ true → are_parts_within parts (n + 1) least ≡ true →
    are_parts_within (lifted_parts loop parts) n lower ≡ true
parts-within loop n first least lower NoParts deep le few linear h = refl
parts-within loop n first least lower (AndParts (Proc a) rest) deep le few linear h =
    let within = and_parts (is_small_positive a) _ h in
    let ranked = and_parts (nat_le least 0) _ within.1 in
    let none : least ≤ 0 = leb-true least 0 ranked.0 in
    and_three (is_small_positive a) (nat_le lower 0) (are_parts_within (lifted_parts loop rest) n 1) within.0
    (le-leb lower 0 (omega (arith, le, none)))
    (parts-within loop n first 1 1 rest deep (omega arith) (inl (omega arith)) (proc_first first a rest linear).1
    ranked.1)
parts-within loop n first least lower (AndParts (Var depth a) rest) deep le few linear h =
    by_place (lifted_var loop depth a rest)
    (λ low le few. parts-within loop n (depth + 1) (depth + 2) low rest deep le few (from_least first depth _ linear).1
    known.behind)
  where
    known : IsVarWithin depth a (n + 1) least rest
    known = var-within depth a (n + 1) least rest h

    by_place : LiftedVar loop depth a rest →
        ((low : ℕ) → low ≤ depth + 2 → (low ≤ loop + 1) ⊎ (low + 1 ≤ depth + 2) →
        are_parts_within (lifted_parts loop rest) n low ≡ true) →
        are_parts_within (lifted_parts loop (AndParts (Var depth a) rest)) n lower ≡ true
    by_place (inl gone) more =
        let ranked = known.ranked in
        ap (λ parts. are_parts_within parts n lower) gone.1
        ∙ more lower (omega (arith, le, ranked)) (inr (omega (arith, le, ranked)))
    by_place (inr (inl stays)) more =
        let ranked = known.ranked in
        ap (λ parts. are_parts_within parts n lower) stays.1
        ∙ one-within depth a n lower (depth + 2) (lifted_parts loop rest)
        (omega (arith, deep, stays.0)) (omega (arith, le, ranked)) known.small (omega arith)
        (more (depth + 2) (omega arith) (inl (omega (arith, stays.0))))
    by_place (inr (inr lifted)) more =
        let ranked = known.ranked in
        let there = known.deep in
        let next = lifted.next in
        let low = lifted.low in
        let rank : lower ≤ lifted.up + 1 =
        elim few [ inl few ↦ omega (arith, few, low) | inr few ↦ omega (arith, few, ranked, next) ] in
        ap (λ parts. are_parts_within parts n lower) lifted.is
        ∙ one-within lifted.up a n lower (lifted.up + 2) (lifted_parts loop rest)
        (omega (arith, there, next)) rank known.small (omega arith)
        (more (lifted.up + 2) (omega (arith, next)) (inr (omega (arith, next))))
parts-within loop n first least lower (AndParts _ rest) deep le few linear h = wrong linear

-- there are no more of them, and none has parentheses
few-and-flat : (loop first : ℕ) (parts : PlainParts) → are_linear first parts ≡ true →
    (all_parts (lifted_parts loop parts) ≤ all_parts parts) × (parts_depth (lifted_parts loop parts) ≡ 0)
few-and-flat loop first NoParts linear = (omega arith, refl)
few-and-flat loop first (AndParts (Proc a) rest) linear =
    let more = few-and-flat loop first rest (proc_first first a rest linear).1 in
    let few = more.0 in
    (omega (arith, few), ap (max 0) more.1)
few-and-flat loop first (AndParts (Var depth a) rest) linear =
    let more = few-and-flat loop (depth + 1) rest (from_least first depth _ linear).1 in
    let few = more.0 in
    let both : PlainParts → Type 0 = λ parts. (all_parts parts ≤ 1 + all_parts rest) × (parts_depth parts ≡ 0) in
    elim (lifted_var loop depth a rest) [
      | inl gone ↦ subst both (sym gone.1) (omega (arith, few), more.1)
      | inr (inl stays) ↦ subst both (sym stays.1) (omega (arith, few), ap (max 0) more.1)
      | inr (inr lifted) ↦ subst both (sym lifted.is) (omega (arith, few), ap (max 0) more.1)
    ]
few-and-flat loop first (AndParts _ rest) linear = wrong linear

place-within : (loop inner n : ℕ) (place : PlainExpr) → loop < n → place_goes_on loop inner place ≡ true →
    is_expr_within place (n + 1) ≡ true → is_expr_within (lifted_place loop place) n ≡ true
place-within loop inner n (Sum constant parts) deep on h =
    let linear = (and_parts (are_linear 0 parts) _ on).0 in
    let lifted = few-and-flat loop 0 parts linear in
    let less = lifted.0 in
    both_kept
    (later_kept (is_small constant) (parts-within loop n 0 0 0 parts deep (omega arith) (inl (omega arith)) linear))
    (both_kept
    (λ few.
    let most = leb-true (all_parts parts) 64 few in
    le-leb (all_parts (lifted_parts loop parts)) 64 (omega (arith, most, less)))
    (λ flat. ap (λ k. nat_le k 64) lifted.1)) h

-- ---- statements

op-within : (m loop inner n : ℕ) (op : PlainOp) → loop < n → op_goes_on loop inner op ≡ true →
    is_op_within m op (n + 1) ≡ true → is_op_within m (lifted_op loop op) n ≡ true
op-within m loop inner n (Load register array place) deep on h =
    later_kept (is_small register) (place-within loop inner n place deep on) h
op-within m loop inner n (Store array place register) deep on h =
    later_kept (is_small register) (place-within loop inner n place deep on) h
op-within m loop inner n (MulTable register source table place step) deep on h =
    later_kept (is_small register)
    (later_kept (is_small source)
    (later_kept (is_small table) (later_kept (nat_lt step 2) (place-within loop inner n place deep on)))) h
op-within m loop inner n op deep on h = h

-- statements with one loop less around them
body-lifted : (m loop inner n : ℕ) (body : PlainBody) → loop < n → body_goes_on loop inner body ≡ true →
    is_body_within m body (n + 1) ≡ true → is_body_within m (lifted_body loop body) n ≡ true
body-lifted m loop inner n NoStmts deep on h = refl
body-lifted m loop inner n (AndStmts (Do op) rest) deep on h =
    let goes = and_parts (op_goes_on loop inner op) _ on in
    both_kept (op-within m loop inner n op deep goes.0) (body-lifted m loop inner n rest deep goes.1) h
body-lifted m loop inner n (AndStmts (Loop count body) rest) deep on h = absurd (cc)

-- ---- loops

one-is : (m loop count : ℕ) (body : PlainBody) → is_stmt_within m (Loop count body) loop ≡ true →
    is_stmt_within m (unwrap_or (as_one loop count body) (Loop count body)) loop ≡ true
one-is m loop count NoStmts h = h
one-is m loop count (AndStmts (Do op) rest) h = h
one-is m loop count (AndStmts (Loop inner body) (AndStmts stmt rest)) h = h
one-is m loop count (AndStmts (Loop inner body) NoStmts) h =
    let whole : PlainStmt = Loop count (AndStmts (Loop inner body) NoStmts) in
    let outer = loop-within m count loop (AndStmts (Loop inner body) NoStmts) h in
    let inside = loop-within m inner (loop + 1) body (only-within m (loop + 1) (Loop inner body) outer.within) in
    by_test (λ made. is_stmt_within m (unwrap_or made whole) loop ≡ true)
    (not (inner % 16 == 0) && (is_small (count * inner) && body_goes_on loop inner body))
    (Some (Loop (count * inner) (lifted_body loop body))) None
    (λ e.
    let told = and_parts (is_small (count * inner)) _ (and_parts (not (inner % 16 == 0)) _ e).1 in
    loop-is m (count * inner) loop (lifted_body loop body)
    (record {
      small =
          positive-product count inner (ltb-true 0 count (and_parts (nat_lt 0 count) _ outer.small).0) inside.small
          told.0;
      deep = outer.deep;
      within = body-lifted m loop inner (loop + 1) body (omega arith) told.1 inside.within;
    }))
    (λ e. h)

-- statements where loops are coalesced
mutual
  stmt-within : (m loop : ℕ) (stmt : PlainStmt) → is_stmt_within m stmt loop ≡ true →
      is_stmt_within m (coalesced_stmt loop stmt) loop ≡ true
  stmt-within m loop (Loop count body) h =
      let known = loop-within m count loop body h in
      let within = body-within m (loop + 1) body known.within in
      one-is m loop count (coalesced_body (loop + 1) body)
      (loop-is m count loop (coalesced_body (loop + 1) body) (record {
        small = known.small;
        deep = known.deep;
        within = within;
      }))
  stmt-within m loop (Do op) h = h

  body-within : (m loop : ℕ) (body : PlainBody) → is_body_within m body loop ≡ true →
      is_body_within m (coalesced_body loop body) loop ≡ true
  body-within m loop NoStmts h = refl
  body-within m loop (AndStmts stmt rest) h =
      both_kept (stmt-within m loop stmt) (body-within m loop rest) h

-- the phases of a program whose loops are coalesced stay within the limits
pub phases-within : (m : ℕ) (phases : List PlainBody) → are_phases_within m phases ≡ true →
    are_phases_within m (map (coalesced_body 0) phases) ≡ true
phases-within m phases h =
    all-within m (coalesced_body 0) (λ body. is_body_within m body 0) (λ body within also. body-within m 0 body within)
    phases (and_parts (nat_lt 0 (length phases)) _ h).1 h
