-- Expressions stand within the limits of programs.
use Rattle.std.proofs.Common.{◌≡◌, ℕ, zero, suc, ◌+◌, ◌^◌, ◌<◌, ◌≤◌, Bool, true, false, inl, inr, arith, refl, sym, ap}
use Rattle.std.proofs.Common.{ap₂, ◌∙◌, if◌then◌else◌, subst}
use Rattle.std.proofs.lemmas.Bool.{and_from, cases_eq, le-leb, lt-ltb}
use Rattle.icode.specs.Limits.{is_small_positive, is_sum_within, are_parts_within, is_part_within, rank, next_rank}
use Rattle.icode.specs.Limits.{sum_parts, all_parts, part_parts, sum_depth, parts_depth, part_depth}
use Rattle.icode.specs.Plain.{PlainParts, PlainPart, AndParts, Proc, Var}
use Rattle.perm_algebra.specs.Affine.{Sum, constant, variable, remainder, quotient, levels, parts}
use Rattle.perm_algebra.specs.Room.{constant_of}
use Rattle.code_gen.specs.PassCode.Expressions.{factor_at, variables_of, processor_of, remainders_of, quotients_of}
use Rattle.code_gen.specs.PassCode.Expressions.{divisions_of, expr_of}
use Rattle.sigma_spl.specs.Shared.Machine.{PlainFrame}
use Rattle.code_gen.specs.PassCode.Small.{DividesSmall, ExpressionsAreWithin, HasSmall, IsFrame, IsSmallPositive}
use Rattle.code_gen.proofs.PassCode.Coded.{with_factor_of}
use Rattle.code_gen.proofs.PassCode.Writing.{by_zero, factor-other}

pub small-positive : (n : ℕ) → 0 < n → n < 2 ^ 32 → is_small_positive n ≡ true
small-positive n some few = and_from _ _ (lt-ltb 0 n some) (lt-ltb n (2 ^ 32) few)

-- ---- in their order

-- a part before others, where its factor is not 0
part-within : (g n least : ℕ) (part : PlainPart) (ps : PlainParts) → least ≤ rank part →
    (0 < g → is_part_within part n ≡ true) →
    are_parts_within ps n least ≡ true → are_parts_within ps n (next_rank part) ≡ true →
    are_parts_within (with_factor_of g part ps) n least ≡ true
part-within g n least part ps low one without behind =
    by_zero g (λ b. are_parts_within (if b then ps else AndParts part ps) n least ≡ true) (λ gone. without)
    (λ some. and_from _ _ (one some) (and_from _ _ (le-leb least (rank part) low) behind))

-- what is within the limits after any part that stands before remainders
abbrev StandLast : ℕ → PlainParts → Type 0
StandLast n ps = (least : ℕ) → least ≤ 5000 → are_parts_within ps n least ≡ true

variables-within : (f : PlainFrame) (n k d least : ℕ) (e : Sum) (ps : PlainParts) → n ≤ 64 → d + k ≤ n → least ≤ 1 + d →
    ((i : ℕ) → factor_at i e < 2 ^ 32) → StandLast n ps →
    are_parts_within (variables_of f k d e ps) n least ≡ true
variables-within f n zero d least e ps few enough low small last = last least (omega arith)
variables-within f n (suc k) d least e ps few enough low small last =
    part-within (factor_at (f.first_loop + d) e) n least (Var d (factor_at (f.first_loop + d) e)) (variables_of f k (d + 1) e ps) low
    (λ some. and_from _ _ (lt-ltb d n (omega arith)) (small-positive (factor_at (f.first_loop + d) e) some (small (f.first_loop + d))))
    (variables-within f n k (d + 1) least e ps few (omega arith) (omega arith) small last)
    (variables-within f n k (d + 1) (suc (1 + d)) e ps few (omega arith) (omega arith) small last)

processor-within : (f : PlainFrame) (n : ℕ) (e : Sum) (ps : PlainParts) → ((i : ℕ) → factor_at i e < 2 ^ 32) →
    are_parts_within ps n 0 ≡ true → are_parts_within ps n 1 ≡ true → are_parts_within (processor_of f e ps) n 0 ≡ true
processor-within f n e ps small first behind =
    elim f.shared as (λ b. are_parts_within
    (if b then with_factor_of (factor_at 0 e) (Proc (factor_at 0 e)) ps else ps) n 0 ≡ true) [
      | true ↦
          part-within (factor_at 0 e) n 0 (Proc (factor_at 0 e)) ps (omega arith)
          (λ some. small-positive (factor_at 0 e) some (small 0)) first behind
      | false ↦ first
    ]

-- what is within the limits after remainders too
abbrev StandAfter : ℕ → PlainParts → Type 0
StandAfter n ps = (least : ℕ) → least ≤ 5001 → are_parts_within ps n least ≡ true

whole-within : (f : PlainFrame) (n : ℕ) (e : Sum) → n ≤ 64 → HasSmall e → StandLast n (divisions_of f n e) →
    is_sum_within (expr_of f n e) n ≡ true
whole-within f n e enough h last =
    and_from _ _ (lt-ltb (constant_of e) (2 ^ 32) h.constant_is)
    (processor-within f n e (variables_of f n 0 e (divisions_of f n e)) h.factors
    (variables-within f n n 0 0 e (divisions_of f n e) enough (omega arith) (omega arith) h.factors last)
    (variables-within f n n 0 1 e (divisions_of f n e) enough (omega arith) (omega arith) h.factors last))

positive-is : (n : ℕ) → IsSmallPositive n → is_small_positive n ≡ true
positive-is n h = small-positive n h.0 h.1

module _ (f : PlainFrame) (n : ℕ) (enough : n ≤ 64) where
  mutual
    remainders-within : (e : Sum) (ps : PlainParts) → DividesSmall e → StandAfter n ps →
        StandLast n (remainders_of f n e ps)
    remainders-within (constant c) ps h after = λ least low. after least (omega arith)
    remainders-within (variable k d rest) ps h after = remainders-within rest ps h after
    remainders-within (remainder k of s rest) ps h after =
        let inner = whole-within f n of enough h.2 (remainders-within of (quotients_of f n of) h.3 (quotients-within of h.3)) in
        λ least low.
        and_from _ _ (and_from _ _ inner (and_from _ _ (positive-is s h.1) (positive-is k h.0)))
        (and_from _ _ (le-leb least 5000 low) (remainders-within rest ps h.4 after 5000 (omega arith)))
    remainders-within (quotient k of s rest) ps h after = remainders-within rest ps h.4 after

    quotients-within : (e : Sum) → DividesSmall e → StandAfter n (quotients_of f n e)
    quotients-within (constant c) h = λ least low. refl
    quotients-within (variable k d rest) h = quotients-within rest h
    quotients-within (remainder k of s rest) h = quotients-within rest h.4
    quotients-within (quotient k of s rest) h =
        let inner = whole-within f n of enough h.2 (remainders-within of (quotients_of f n of) h.3 (quotients-within of h.3)) in
        λ least low.
        and_from _ _ (and_from _ _ inner (and_from _ _ (positive-is s h.1) (positive-is k h.0)))
        (and_from _ _ (le-leb least 5001 low) (quotients-within rest h.4 5001 (omega arith)))

-- ---- how many parts there are

parts-with : (g : ℕ) (part : PlainPart) (after : PlainParts) →
    all_parts (with_factor_of g part after) ≤ part_parts part + all_parts after
parts-with g part after =
    by_zero g (λ b. all_parts (if b then after else AndParts part after) ≤ part_parts part + all_parts after)
    (λ gone. omega arith) (λ some. omega arith)

-- `more` more than after it
parts-same : (g : ℕ) (part : PlainPart) (after others : PlainParts) (more : ℕ) →
    all_parts after ≤ more + all_parts others → all_parts (with_factor_of g part after) ≤ more
    + all_parts (with_factor_of g part others)
parts-same g part after others more h =
    by_zero g
    (λ b. all_parts (if b then after else AndParts part after) ≤ more + all_parts (if b then others else AndParts part others))
    (λ gone. h) (λ some. omega arith)

parts-least : (g : ℕ) (part : PlainPart) (after : PlainParts) →
    all_parts after ≤ all_parts (with_factor_of g part after)
parts-least g part after =
    by_zero g (λ b. all_parts after ≤ all_parts (if b then after else AndParts part after)) (λ gone. omega arith)
    (λ some. omega arith)

-- variables that have the same factors have the same parts
same-variables : (f : PlainFrame) (k d : ℕ) (e other : Sum) (ps : PlainParts) →
    ((i : ℕ) → f.first_loop + d ≤ i → factor_at i e ≡ factor_at i other) → variables_of f k d e ps
    ≡ variables_of f k d other ps
same-variables f zero d e other ps h = refl
same-variables f (suc k) d e other ps h =
    ap₂ (λ a after. with_factor_of a (Var d a) after) (h (f.first_loop + d) (omega arith))
    (same-variables f k (d + 1) e other ps (λ i low. h i (omega arith)))

-- one part more adds at most one
one-more : (f : PlainFrame) (k d g x : ℕ) (rest : Sum) (ps : PlainParts) →
    all_parts (variables_of f k d (variable g x rest) ps) ≤ 1 + all_parts (variables_of f k d rest ps)
one-more f zero d g x rest ps = omega arith
one-more f (suc k) d g x rest ps =
    elim (cases_eq (f.first_loop + d) x) [
      | inl same ↦
          omega (
            arith,
            parts-with (factor_at (f.first_loop + d) (variable g x rest)) (Var d (factor_at (f.first_loop + d) (variable g x rest))) (variables_of f k (d + 1) (variable g x rest) ps),
            parts-least (factor_at (f.first_loop + d) rest) (Var d (factor_at (f.first_loop + d) rest)) (variables_of f k (d + 1) rest ps),
            ap all_parts (same-variables f k (d + 1) (variable g x rest) rest ps
                (λ i low. factor-other i x g rest (λ e. omega arith))),
          )
      | inr other ↦
          subst (λ a. all_parts (with_factor_of a (Var d a) (variables_of f k (d + 1) (variable g x rest) ps)) ≤ 1 + all_parts (variables_of f (suc k) d rest ps)) (sym (factor-other (f.first_loop + d) x g rest other))
          (parts-same (factor_at (f.first_loop + d) rest) (Var d (factor_at (f.first_loop + d) rest)) (variables_of f k (d + 1) (variable g x rest) ps) (variables_of f k (d + 1) rest ps) 1 (one-more f k (d + 1) g x rest ps))
    ]

one-more-processor : (f : PlainFrame) (n g x : ℕ) (rest : Sum) (ps : PlainParts) → IsFrame f →
    all_parts (processor_of f (variable g x rest) (variables_of f n 0 (variable g x rest) ps)) ≤ 1
    + all_parts (processor_of f rest (variables_of f n 0 rest ps))
one-more-processor f n g x rest ps apart = either f.shared apart
  where
    theirs : PlainParts
    theirs = variables_of f n 0 (variable g x rest) ps

    others : PlainParts
    others = variables_of f n 0 rest ps

    either : (b : Bool) → (b ≡ true → 0 < f.first_loop) →
        all_parts (if b then with_factor_of (factor_at 0 (variable g x rest))
        (Proc (factor_at 0 (variable g x rest))) theirs else theirs)
        ≤ 1 + all_parts (if b then with_factor_of (factor_at 0 rest) (Proc (factor_at 0 rest)) others else others)
    either false h = one-more f n 0 g x rest ps
    either true h =
        let some : 0 < f.first_loop = h refl in
        elim (cases_eq 0 x) [
          | inl same ↦
              omega (
                arith,
                parts-with (factor_at 0 (variable g x rest)) (Proc (factor_at 0 (variable g x rest))) theirs,
                parts-least (factor_at 0 rest) (Proc (factor_at 0 rest)) others,
                ap all_parts (same-variables f n 0 (variable g x rest) rest ps
                    (λ i low. factor-other i x g rest (λ e. omega arith))),
              )
          | inr other ↦
              subst (λ a. all_parts (with_factor_of a (Proc a) theirs) ≤ 1 + all_parts (with_factor_of (factor_at 0 rest) (Proc (factor_at 0 rest)) others)) (sym (factor-other 0 x g rest other))
              (parts-same (factor_at 0 rest) (Proc (factor_at 0 rest)) theirs others 1 (one-more f n 0 g x rest ps))
        ]

no-variables : (f : PlainFrame) (k d c : ℕ) (ps : PlainParts) → variables_of f k d (constant c) ps ≡ ps
no-variables f zero d c ps = refl
no-variables f (suc k) d c ps = no-variables f k (d + 1) c ps

no-processor : (f : PlainFrame) (c : ℕ) (ps : PlainParts) → processor_of f (constant c) ps ≡ ps
no-processor f c ps =
    elim f.shared as (λ b. (if b then with_factor_of 0 (Proc 0) ps else ps) ≡ ps) [ true ↦ refl | false ↦ refl ]

-- the variables at the outer level, and the parts of remainders and of quotients
abbrev outer_variables : Sum → ℕ
outer_variables (constant c) = 0
outer_variables (variable f d rest) = 1 + outer_variables rest
outer_variables (remainder f of m rest) = outer_variables rest
outer_variables (quotient f of m rest) = outer_variables rest

abbrev remainder_parts : Sum → ℕ
remainder_parts (constant c) = 0
remainder_parts (variable f d rest) = remainder_parts rest
remainder_parts (remainder f of m rest) = 1 + parts of + remainder_parts rest
remainder_parts (quotient f of m rest) = remainder_parts rest

abbrev quotient_parts : Sum → ℕ
quotient_parts (constant c) = 0
quotient_parts (variable f d rest) = quotient_parts rest
quotient_parts (remainder f of m rest) = quotient_parts rest
quotient_parts (quotient f of m rest) = 1 + parts of + quotient_parts rest

parts-are : (e : Sum) → parts e ≡ outer_variables e + (remainder_parts e + quotient_parts e)
parts-are (constant c) = refl
parts-are (variable f d rest) = let h = parts-are rest in omega arith
parts-are (remainder f of m rest) = let h = parts-are rest in omega arith
parts-are (quotient f of m rest) = let h = parts-are rest in omega arith

module _ (f : PlainFrame) (n : ℕ) (apart : IsFrame f) where
  variables-parts : (e : Sum) (ps : PlainParts) → all_parts (processor_of f e (variables_of f n 0 e ps))
      ≤ outer_variables e + all_parts ps
  variables-parts (constant c) ps = omega (arith, ap all_parts (no-processor f c (variables_of f n 0 (constant c) ps) ∙ no-variables f n 0 c ps))
  variables-parts (variable g x rest) ps = omega (arith, one-more-processor f n g x rest ps apart, variables-parts rest ps)
  variables-parts (remainder g of s rest) ps =
      omega (arith, ap (λ after. all_parts (processor_of f rest after)) (same-variables f n 0 (remainder g of s rest) rest ps (λ i low. refl)), variables-parts rest ps)
  variables-parts (quotient g of s rest) ps =
      omega (arith, ap (λ after. all_parts (processor_of f rest after)) (same-variables f n 0 (quotient g of s rest) rest ps (λ i low. refl)), variables-parts rest ps)

  -- a sum by those of its divisions
  sum-parts : (e : Sum) → all_parts (remainders_of f n e (quotients_of f n e)) ≤ remainder_parts e
      + all_parts (quotients_of f n e) → all_parts (quotients_of f n e) ≤ quotient_parts e →
      sum_parts (expr_of f n e) ≤ parts e
  sum-parts e first second = omega (arith, variables-parts e (divisions_of f n e), first, second, parts-are e)

  mutual
    remainders-parts : (e : Sum) (ps : PlainParts) → all_parts (remainders_of f n e ps) ≤ remainder_parts e
        + all_parts ps
    remainders-parts (constant c) ps = omega arith
    remainders-parts (variable k d rest) ps = remainders-parts rest ps
    remainders-parts (remainder k of s rest) ps =
        let inner = sum-parts of (remainders-parts of (quotients_of f n of)) (quotients-parts of) in
        omega (arith, inner, remainders-parts rest ps)
    remainders-parts (quotient k of s rest) ps = remainders-parts rest ps

    quotients-parts : (e : Sum) → all_parts (quotients_of f n e) ≤ quotient_parts e
    quotients-parts (constant c) = omega arith
    quotients-parts (variable k d rest) = quotients-parts rest
    quotients-parts (remainder k of s rest) = quotients-parts rest
    quotients-parts (quotient k of s rest) =
        let inner = sum-parts of (remainders-parts of (quotients_of f n of)) (quotients-parts of) in
        omega (arith, inner, quotients-parts rest)

  expr-parts : (e : Sum) → sum_parts (expr_of f n e) ≤ parts e
  expr-parts e = sum-parts e (remainders-parts e (quotients_of f n e)) (quotients-parts e)

-- ---- how deep they are

depth-with : (g : ℕ) (part : PlainPart) (after : PlainParts) → part_depth part ≡ 0 →
    parts_depth (with_factor_of g part after) ≡ parts_depth after
depth-with g part after flat =
    by_zero g (λ b. parts_depth (if b then after else AndParts part after) ≡ parts_depth after) (λ gone. refl)
    (λ some. omega (arith, flat))

variables-depth : (f : PlainFrame) (k d : ℕ) (e : Sum) (ps : PlainParts) →
    parts_depth (variables_of f k d e ps) ≡ parts_depth ps
variables-depth f zero d e ps = refl
variables-depth f (suc k) d e ps =
    depth-with (factor_at (f.first_loop + d) e) (Var d (factor_at (f.first_loop + d) e)) (variables_of f k (d + 1) e ps) refl ∙ variables-depth f k (d + 1) e ps

processor-depth : (f : PlainFrame) (e : Sum) (ps : PlainParts) → parts_depth (processor_of f e ps) ≡ parts_depth ps
processor-depth f e ps =
    elim f.shared as (λ b. parts_depth (if b then with_factor_of (factor_at 0 e) (Proc (factor_at 0 e)) ps else ps)
    ≡ parts_depth ps) [
      | true ↦ depth-with (factor_at 0 e) (Proc (factor_at 0 e)) ps refl
      | false ↦ refl
    ]

expr-depth : (f : PlainFrame) (n : ℕ) (e : Sum) → sum_depth (expr_of f n e) ≡ parts_depth (divisions_of f n e)
expr-depth f n e = processor-depth f e (variables_of f n 0 e (divisions_of f n e)) ∙ variables-depth f n 0 e (divisions_of f n e)

module _ (f : PlainFrame) (n : ℕ) where
  mutual
    remainders-depth : (e : Sum) (ps : PlainParts) (most : ℕ) → levels e ≤ most → parts_depth ps ≤ most →
        parts_depth (remainders_of f n e ps) ≤ most
    remainders-depth (constant c) ps most h after = after
    remainders-depth (variable k d rest) ps most h after = remainders-depth rest ps most h after
    remainders-depth (remainder k of s rest) ps most h after =
        omega (arith, h, expr-depth f n of, remainders-depth of (quotients_of f n of) (levels of) (omega arith) (quotients-depth of (levels of) (omega arith)), remainders-depth rest ps most (omega (arith, h)) after)
    remainders-depth (quotient k of s rest) ps most h after = remainders-depth rest ps most (omega (arith, h)) after

    quotients-depth : (e : Sum) (most : ℕ) → levels e ≤ most → parts_depth (quotients_of f n e) ≤ most
    quotients-depth (constant c) most h = omega arith
    quotients-depth (variable k d rest) most h = quotients-depth rest most h
    quotients-depth (remainder k of s rest) most h = quotients-depth rest most (omega (arith, h))
    quotients-depth (quotient k of s rest) most h =
        omega (arith, h, expr-depth f n of, remainders-depth of (quotients_of f n of) (levels of) (omega arith) (quotients-depth of (levels of) (omega arith)), quotients-depth rest most (omega (arith, h)))

-- ---- all together

pub expressions_are_within : ExpressionsAreWithin
expressions_are_within f n e apart enough h =
    and_from _ _ (whole-within f n e enough h.whole (remainders-within f n enough e (quotients_of f n e) h.divided (quotients-within f n enough e h.divided)))
    (and_from _ _ (le-leb (sum_parts (expr_of f n e)) 64 (let few = h.few in omega (arith, few, expr-parts f n apart e)))
    (le-leb (sum_depth (expr_of f n e)) 64 (let flat = h.flat in omega (arith, flat, expr-depth f n e, remainders-depth f n e (quotients_of f n e) (levels e) (omega arith) (quotients-depth f n e (levels e) (omega arith))))))
