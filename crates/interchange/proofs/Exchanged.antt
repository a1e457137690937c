-- Rounds where two loops are interchanged: the values of their places, their steps and their registers.
use Rattle.nests.proofs.Bools.{both_kept}
use Rattle.std.proofs.Common.{◌≡◌, ◌≢◌, ℕ, zero, suc, ◌+◌, ◌*◌, ◌<◌, ◌≤◌, true, ◌&&◌, List, []}
use Rattle.std.proofs.Common.{◌∷◌, ◌++◌, length, refl, sym, ap, ap₂, ◌∙◌, subst, arith, eq-eqb}
use Rattle.std.proofs.Common.{le-leb}
use Rattle.std.specs.Prelude.{slice_index, nat_le, ◌==◌, if◌then◌else◌}
use Rattle.std.proofs.lemmas.Bool.{and_from}
use Rattle.icode.specs.Expression.{Numbers, alone, with_part, with_sum, sum_numbers, parts_numbers}
use Rattle.icode.specs.Actions.{Step, step_of, steps_of_body}
use Rattle.icode.specs.Plain.{PlainExpr, PlainParts, PlainOp, PlainBody, PlainProgram, Sum, NoParts}
use Rattle.icode.specs.Plain.{AndParts, Proc, Var, Load, Store, MulTable, Loop, Do, NoStmts, AndStmts}
use Rattle.icode.proofs.Bools.{both_true}
use Rattle.nests.specs.Places.{are_linear, is_linear}
use Rattle.interchange.specs.Exchanged.{exchanged_first, exchanged_parts, exchanged_place, exchanged_op}
use Rattle.interchange.specs.Exchanged.{exchanged_round}
use Rattle.nests.specs.Rounds.{is_fresh, put_after, are_fresh}
use Rattle.nests.proofs.Linear.{wrong, first-at, second-at, from_least, by_equal, proc_first, from_depth}
use Rattle.nests.proofs.Linear.{has_linear_place, has_linear_places}

-- ---- the values of two loops one in the other

past-two : (us : List ℕ) (i j k l d : ℕ) → d ≢ 0 → d ≢ 1 → slice_index (i ∷ j ∷ us) d ≡ slice_index (k ∷ l ∷ us) d
past-two us i j k l zero a b = absurd (a refl)
past-two us i j k l (suc zero) a b = absurd (b refl)
past-two us i j k l (suc (suc d)) a b = refl

at-others : (vs us : List ℕ) (i j k l d : ℕ) → d ≢ length vs → d ≢ suc (length vs) →
    slice_index (vs ++ i ∷ j ∷ us) d ≡ slice_index (vs ++ k ∷ l ∷ us) d
at-others [] us i j k l d a b = past-two us i j k l d a b
at-others (v ∷ vs) us i j k l zero a b = refl
at-others (v ∷ vs) us i j k l (suc d) a b = at-others vs us i j k l d (λ e. a (ap suc e)) (λ e. b (ap suc e))

-- two lists of values that agree but for those of the loop at this depth and of the next
record Agree (loop : ℕ) (ws us : List ℕ) : Type 0 where
  others : (d : ℕ) → d ≢ loop → d ≢ loop + 1 → slice_index us d ≡ slice_index ws d

-- and where these two are exchanged
record AreExchanged (loop : ℕ) (ws us : List ℕ) : Type 0 where
  first : slice_index us loop ≡ slice_index ws (loop + 1)
  second : slice_index us (loop + 1) ≡ slice_index ws loop
  agree : Agree loop ws us

rounds-exchanged : (loop : ℕ) (vs us : List ℕ) (i j : ℕ) → length vs ≡ loop →
    AreExchanged loop (vs ++ i ∷ j ∷ us) (vs ++ j ∷ i ∷ us)
rounds-exchanged loop vs us i j is =
    record {
      first = first-at loop vs us j i is ∙ sym (second-at loop vs us i j is);
      second = second-at loop vs us j i is ∙ sym (first-at loop vs us i j is);
      agree = record { others = λ d a b. at-others vs us j i i j d (λ e. a (e ∙ is)) (λ e. b (omega arith)) };
    }

-- ---- sums in another order

abbrev numbers : ℕ → ℕ → Numbers
numbers value peak = record { value = value; peak = peak }

turned : (a b rest : Numbers) → with_part a (with_part b rest) ≡ with_part b (with_part a rest)
turned a b rest = ap₂ numbers (omega arith) (omega arith)

-- ---- what the tests tell

-- what becomes of a multiple of a loop's value, by which of the loops it is
pub first_cases : (P : PlainParts → Type 0) (loop factor depth inner : ℕ) (rest : PlainParts) →
    (depth ≡ loop + 1 → P (AndParts (Var loop inner) (AndParts (Var (loop + 1) factor) rest))) →
    (depth ≢ loop + 1 → P (AndParts (Var (loop + 1) factor) (AndParts (Var depth inner) rest))) →
    P (exchanged_first loop factor (AndParts (Var depth inner) rest))
first_cases P loop factor depth inner rest =
    by_equal P depth (loop + 1) (AndParts (Var loop inner) (AndParts (Var (loop + 1) factor) rest))
    (AndParts (Var (loop + 1) factor) (AndParts (Var depth inner) rest))

pub parts_cases : (P : PlainParts → Type 0) (loop depth factor : ℕ) (rest : PlainParts) →
    (depth ≡ loop → P (exchanged_first loop factor rest)) →
    (depth ≢ loop → depth ≡ loop + 1 → P (AndParts (Var loop factor) rest)) →
    (depth ≢ loop → depth ≢ loop + 1 → P (AndParts (Var depth factor) (exchanged_parts loop rest))) →
    P (exchanged_parts loop (AndParts (Var depth factor) rest))
parts_cases P loop depth factor rest first second neither =
    let next : PlainParts = AndParts (Var loop factor) rest in
    let kept : PlainParts = AndParts (Var depth factor) (exchanged_parts loop rest) in
    by_equal P depth loop (exchanged_first loop factor rest) (if depth == loop + 1 then next else kept) first
    (λ other. by_equal P depth (loop + 1) next kept (second other) (neither other))

deeper : (least loop : ℕ) (parts : PlainParts) (ws us : List ℕ) (q : ℕ) → are_linear least parts ≡ true →
    loop + 1 < least → Agree loop ws us → parts_numbers parts us q ≡ parts_numbers parts ws q
deeper least loop parts ws us q h before agree =
    from_depth least parts ws us q h (λ d le.
    agree.others d (λ e. omega (arith, e, le, before)) (λ e. omega (arith, e, le, before)))

-- where the loop's multiple stands in front
exchanged-first : (loop factor : ℕ) (rest : PlainParts) (ws us : List ℕ) (q : ℕ) → are_linear (loop + 1) rest ≡ true →
    AreExchanged loop ws us →
    parts_numbers (exchanged_first loop factor rest) us q ≡ with_part (alone (slice_index ws loop * factor))
    (parts_numbers rest ws q)
exchanged-first loop factor NoParts ws us q h is = ap (λ v. with_part (alone (v * factor)) (alone 0)) is.second
exchanged-first loop factor (AndParts (Proc other) rest) ws us q h is = absurd (omega (arith, (proc_first (loop + 1) other rest h).0))
exchanged-first loop factor (AndParts (Var depth inner) rest) ws us q h is =
    let two = from_least (loop + 1) depth _ h in
    let old : Numbers =
    with_part (alone (slice_index ws loop * factor)) (parts_numbers (AndParts (Var depth inner) rest) ws q) in
    first_cases (λ parts. parts_numbers parts us q ≡ old) loop factor depth inner rest
    (λ same.
    turned (alone (slice_index us loop * inner)) (alone (slice_index us (loop + 1) * factor)) (parts_numbers rest us q)
    ∙ ap₂ with_part
    (ap (λ v. alone (v * factor)) is.second)
    (ap₂ with_part
    (ap (λ v. alone (v * inner)) (is.first ∙ ap (slice_index ws) (sym same)))
    (deeper (depth + 1) loop rest ws us q two.1 (omega (arith, same)) is.agree)))
    (λ other.
    ap₂ with_part
    (ap (λ v. alone (v * factor)) is.second)
    (ap₂ with_part
    (ap (λ v. alone (v * inner)) (is.agree.others depth (λ e. omega (arith, two.0)) other))
    (deeper (depth + 1) loop rest ws us q two.1 (omega (arith, two.0, other)) is.agree)))
exchanged-first loop factor (AndParts part rest) ws us q h is = wrong h

-- parts of an exchanged round have the numbers that they had
exchanged-numbers : (least loop : ℕ) (parts : PlainParts) (ws us : List ℕ) (q : ℕ) → are_linear least parts ≡ true →
    AreExchanged loop ws us →
    parts_numbers (exchanged_parts loop parts) us q ≡ parts_numbers parts ws q
exchanged-numbers least loop NoParts ws us q h is = refl
exchanged-numbers least loop (AndParts (Proc factor) rest) ws us q h is =
    ap (with_part (alone (q * factor))) (exchanged-numbers least loop rest ws us q (proc_first least factor rest h).1 is)
exchanged-numbers least loop (AndParts (Var depth factor) rest) ws us q h is =
    let two = from_least least depth _ h in
    parts_cases (λ parts. parts_numbers parts us q ≡ parts_numbers (AndParts (Var depth factor) rest) ws q) loop depth
    factor rest
    (λ same.
    exchanged-first loop factor rest ws us q (subst (λ d. are_linear (d + 1) rest ≡ true) same two.1) is
    ∙ ap (λ d. with_part (alone (slice_index ws d * factor)) (parts_numbers rest ws q)) (sym same))
    (λ other next.
    ap₂ with_part
    (ap (λ v. alone (v * factor)) (is.first ∙ ap (slice_index ws) (sym next)))
    (deeper (depth + 1) loop rest ws us q two.1 (omega (arith, next)) is.agree))
    (λ other farther.
    ap₂ with_part
    (ap (λ v. alone (v * factor)) (is.agree.others depth other farther))
    (exchanged-numbers (depth + 1) loop rest ws us q two.1 is))
exchanged-numbers least loop (AndParts part rest) ws us q h is = wrong h

-- a place of an exchanged round is the place that it was
exchanged_numbers : (loop : ℕ) (place : PlainExpr) (ws us : List ℕ) (q : ℕ) → is_linear place ≡ true →
    AreExchanged loop ws us →
    sum_numbers (exchanged_place loop place) us q ≡ sum_numbers place ws q
exchanged_numbers loop (Sum constant parts) ws us q h is = ap (with_sum constant) (exchanged-numbers 0 loop parts ws us q h is)

-- ---- exchanged places are linear

lower : (least less : ℕ) (parts : PlainParts) → less ≤ least → are_linear least parts ≡ true →
    are_linear less parts ≡ true
lower least less NoParts within h = refl
lower least less (AndParts (Proc factor) rest) within h =
    let two = proc_first least factor rest h in
    and_from (less == 0) (are_linear less rest) (eq-eqb less 0 (omega (arith, within, two.0))) (lower least less rest within two.1)
lower least less (AndParts (Var depth factor) rest) within h =
    let two = from_least least depth _ h in
    and_from (nat_le less depth) (are_linear (depth + 1) rest) (le-leb less depth (omega (arith, within, two.0))) two.1
lower least less (AndParts part rest) within h = wrong h

first-linear : (least loop factor : ℕ) (rest : PlainParts) → least ≤ loop → are_linear (loop + 1) rest ≡ true →
    are_linear least (exchanged_first loop factor rest) ≡ true
first-linear least loop factor NoParts within h = and_from (nat_le least (loop + 1)) true (le-leb least (loop + 1) (omega arith)) refl
first-linear least loop factor (AndParts (Proc other) rest) within h = absurd (omega (arith, (proc_first (loop + 1) other rest h).0))
first-linear least loop factor (AndParts (Var depth inner) rest) within h =
    let two = from_least (loop + 1) depth _ h in
    first_cases (λ parts. are_linear least parts ≡ true) loop factor depth inner rest
    (λ same.
    and_from (nat_le least loop) _ (le-leb least loop within)
    (and_from (nat_le (loop + 1) (loop + 1)) (are_linear (loop + 1 + 1) rest)
    (le-leb (loop + 1) (loop + 1) (omega arith)) (subst (λ d. are_linear (d + 1) rest ≡ true) same two.1)))
    (λ other.
    and_from (nat_le least (loop + 1)) _ (le-leb least (loop + 1) (omega arith))
    (and_from (nat_le (loop + 1 + 1) depth) (are_linear (depth + 1) rest)
    (le-leb (loop + 1 + 1) depth (omega (arith, two.0, other))) two.1))
first-linear least loop factor (AndParts part rest) within h = wrong h

parts-linear : (least loop : ℕ) (parts : PlainParts) → least ≢ loop + 1 → are_linear least parts ≡ true →
    are_linear least (exchanged_parts loop parts) ≡ true
parts-linear least loop NoParts far h = refl
parts-linear least loop (AndParts (Proc factor) rest) far h =
    let two = proc_first least factor rest h in
    and_from (least == 0) _ (eq-eqb least 0 two.0) (parts-linear least loop rest far two.1)
parts-linear least loop (AndParts (Var depth factor) rest) far h =
    let two = from_least least depth _ h in
    parts_cases (λ parts. are_linear least parts ≡ true) loop depth factor rest
    (λ same.
    first-linear least loop factor rest (omega (arith, two.0, same))
    (subst (λ d. are_linear (d + 1) rest ≡ true) same two.1))
    (λ other next.
    and_from (nat_le least loop) (are_linear (loop + 1) rest) (le-leb least loop (omega (arith, two.0, next, far)))
    (lower (depth + 1) (loop + 1) rest (omega (arith, next)) two.1))
    (λ other farther.
    and_from (nat_le least depth) _ (le-leb least depth two.0)
    (parts-linear (depth + 1) loop rest (λ e. other (omega (arith, e))) two.1))
parts-linear least loop (AndParts part rest) far h = wrong h

place-linear : (loop : ℕ) (place : PlainExpr) → is_linear place ≡ true → is_linear (exchanged_place loop place) ≡ true
place-linear loop (Sum constant parts) h = parts-linear 0 loop parts (λ e. omega (arith, e)) h

op-linear : (loop : ℕ) (op : PlainOp) → has_linear_place op ≡ true → has_linear_place (exchanged_op loop op) ≡ true
op-linear loop (Load r array place) h = place-linear loop place h
op-linear loop (Store array place r) h = place-linear loop place h
op-linear loop (MulTable r x table place entries) h = place-linear loop place h
op-linear loop _ h = refl

-- an exchanged round has linear places
pub linear_exchanged : (loop : ℕ) (body : PlainBody) → has_linear_places body ≡ true →
    has_linear_places (exchanged_round loop body) ≡ true
linear_exchanged loop NoStmts h = refl
linear_exchanged loop (AndStmts (Do op) rest) h =
    both_kept (op-linear loop op) (linear_exchanged loop rest) h
linear_exchanged loop (AndStmts (Loop count body) rest) h = wrong h

-- ---- exchanged rounds

exchanged-step : (p : PlainProgram) (loop : ℕ) (op : PlainOp) (ws us : List ℕ) (q : ℕ) → has_linear_place op ≡ true →
    AreExchanged loop ws us →
    step_of p (exchanged_op loop op) us q ≡ step_of p op ws q
exchanged-step p loop (Load r array place) ws us q h is = rw (exchanged_numbers loop place ws us q h is) refl
exchanged-step p loop (Store array place r) ws us q h is = rw (exchanged_numbers loop place ws us q h is) refl
exchanged-step p loop (MulTable r x table place entries) ws us q h is = rw (exchanged_numbers loop place ws us q h is) refl
exchanged-step p loop _ ws us q h is = refl

exchanged-from : (p : PlainProgram) (loop : ℕ) (body : PlainBody) (ws us : List ℕ) (q : ℕ) →
    has_linear_places body ≡ true → AreExchanged loop ws us →
    steps_of_body p (exchanged_round loop body) us q ≡ steps_of_body p body ws q
exchanged-from p loop NoStmts ws us q h is = refl
exchanged-from p loop (AndStmts (Do op) rest) ws us q h is =
    let two = both_true (has_linear_place op) (has_linear_places rest) h in
    ap₂ (λ (x : Step) xs. x ∷ xs) (exchanged-step p loop op ws us q two.0 is) (exchanged-from p loop rest ws us q two.1 is)
exchanged-from p loop (AndStmts (Loop count body) rest) ws us q h is = wrong h

-- a round where the loops are interchanged has the steps that it had
pub exchanged_steps : (p : PlainProgram) (loop : ℕ) (body : PlainBody) (vs us : List ℕ) (i j q : ℕ) → length vs ≡ loop →
    has_linear_places body ≡ true →
    steps_of_body p (exchanged_round loop body) (vs ++ j ∷ i ∷ us) q ≡ steps_of_body p body (vs ++ i ∷ j ∷ us) q
exchanged_steps p loop body vs us i j q deep linear =
    exchanged-from p loop body (vs ++ i ∷ j ∷ us) (vs ++ j ∷ i ∷ us) q linear (rounds-exchanged loop vs us i j deep)

-- ---- exchanged rounds

-- the operation puts and reads the registers that it did
same-registers : (lanes next loop : ℕ) (op : PlainOp) →
    (is_fresh lanes next (exchanged_op loop op) ≡ is_fresh lanes next op)
    × (put_after lanes next (exchanged_op loop op) ≡ put_after lanes next op)
same-registers lanes next loop (Load r array place) = (refl, refl)
same-registers lanes next loop _ = (refl, refl)

-- an exchanged round reads no register that it has not put
pub are-fresh-exchanged : (lanes next loop : ℕ) (body : PlainBody) →
    are_fresh lanes next (exchanged_round loop body) ≡ are_fresh lanes next body
are-fresh-exchanged lanes next loop NoStmts = refl
are-fresh-exchanged lanes next loop (AndStmts (Do op) rest) =
    ap₂ (λ one more. one && more)
    (same-registers lanes next loop op).0
    (ap (λ n. are_fresh lanes n (exchanged_round loop rest)) (same-registers lanes next loop op).1
    ∙ are-fresh-exchanged lanes (put_after lanes next op) loop rest)
are-fresh-exchanged lanes next loop (AndStmts (Loop count body) rest) = refl
