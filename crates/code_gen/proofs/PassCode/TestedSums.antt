-- Sums that pass merging's test are coded.
use Rattle.std.proofs.Common.{◌≡◌, ℕ, ◌+◌, ◌*◌, ◌^◌, ◌<◌, ◌≤◌, true, inl, inr, arith, nat_lt, ◌&&◌}
use Rattle.std.proofs.Math.Nat.{mul-le-mul, mul-le-mul_right}
use Rattle.std.proofs.lemmas.Bool.{and_parts, cases_eq, ltb-true}
use Rattle.perm_algebra.specs.Affine.{Sum, constant, variable, remainder, quotient, parts, peak, top}
use Rattle.perm_algebra.specs.Room.{constant_of}
use Rattle.code_gen.specs.PassCode.Conditions.{CanWrite, DividesWords}
use Rattle.code_gen.specs.PassCode.Expressions.{factor_at}
use Rattle.code_gen.specs.PassCode.Small.{DividesSmall, HasSmall, IsSmallPositive, TestedSumsAreCoded}
use Rattle.code_gen.proofs.PassCode.Writing.{factor-same, factor-other}
use Rattle.sigma_spl.specs.Merge.{total, is_divided, are_small}
use Rattle.sigma_spl.proofs.Limited.{tested}
use Rattle.sigma_spl.proofs.Small.{max-left, max-right}

-- ---- what the tests say

record Divided (cs : ℕ → ℕ) (f : ℕ) (of : Sum) (m : ℕ) (rest : Sum) : Type 0 where
  pub factor : IsSmallPositive f
  pub divisor : IsSmallPositive m
  pub total : total of < 2 ^ 32
  pub top : top of cs < 2 ^ 64
  pub inner : are_small cs of ≡ true
  pub others : are_small cs rest ≡ true

divided : (cs : ℕ → ℕ) (f : ℕ) (of : Sum) (m : ℕ) (rest : Sum) →
    (is_divided cs f of m && (are_small cs of && are_small cs rest)) ≡ true → Divided cs f of m rest
divided cs f of m rest h =
    let all = and_parts (is_divided cs f of m) _ h in
    let parts = and_parts (are_small cs of) (are_small cs rest) all.1 in
    let first = and_parts (nat_lt 0 f && nat_lt f (2 ^ 32)) _ all.0 in
    let second = and_parts (nat_lt 0 m && nat_lt m (2 ^ 32)) _ first.1 in
    let factor = and_parts (nat_lt 0 f) (nat_lt f (2 ^ 32)) first.0 in
    let divisor = and_parts (nat_lt 0 m) (nat_lt m (2 ^ 32)) second.0 in
    let bounds = and_parts (nat_lt (total of) (2 ^ 32)) (nat_lt (top of cs) (2 ^ 64)) second.1 in
    record {
      factor = (ltb-true 0 f factor.0, ltb-true f (2 ^ 32) factor.1);
      divisor = (ltb-true 0 m divisor.0, ltb-true m (2 ^ 32) divisor.1);
      total = ltb-true (total of) (2 ^ 32) bounds.0;
      top = ltb-true (top of cs) (2 ^ 64) bounds.1;
      inner = parts.0;
      others = parts.1;
    }

-- ---- factors

constant-total : (e : Sum) → constant_of e ≤ total e
constant-total (constant c) = omega arith
constant-total (variable f d rest) = let h = constant-total rest in omega (arith, h)
constant-total (remainder f of m rest) = let h = constant-total rest in omega (arith, h)
constant-total (quotient f of m rest) = let h = constant-total rest in omega (arith, h)

factor-total : (d : ℕ) (e : Sum) → factor_at d e ≤ total e
factor-total d (constant c) = omega arith
factor-total d (variable f x rest) =
    let below = factor-total d rest in
    elim (cases_eq d x) [
      | inl same ↦ omega (arith, factor-same d x f rest same, below)
      | inr other ↦ omega (arith, factor-other d x f rest other, below)
    ]
factor-total d (remainder f of m rest) = let below = factor-total d rest in omega (arith, below)
factor-total d (quotient f of m rest) = let below = factor-total d rest in omega (arith, below)

has-small : (e : Sum) → total e < 2 ^ 32 → HasSmall e
has-small e low = record { constant_is = let le = constant-total e in omega arith; factors = λ d. let le = factor-total d e in omega arith }

more-parts : (f t n p q : ℕ) → f < n → t ≤ (1 + p) * n → 2 + p ≤ q → f + t ≤ q * n
more-parts f t n p q one inner parts =
    let wide : (2 + p) * n ≤ q * n = mul-le-mul_right n parts in
    let spread : (2 + p) * n ≡ n + (1 + p) * n = omega arith in
    omega (arith, spread, one, inner, wide)

total-parts : (n : ℕ) (e : Sum) → peak e < n → total e ≤ (1 + parts e) * n
total-parts n (constant c) h = omega arith
total-parts n (variable f d rest) h =
    more-parts f (total rest) n (parts rest) (1 + (1 + parts rest)) (max-left f (peak rest) n h)
    (total-parts n rest (max-right f (peak rest) n h)) (omega arith)
total-parts n (remainder f of m rest) h =
    more-parts f (total rest) n (parts rest) (1 + (1 + parts of + parts rest)) (max-left f (peak rest) n h)
    (total-parts n rest (max-right f (peak rest) n h)) (omega arith)
total-parts n (quotient f of m rest) h =
    more-parts f (total rest) n (parts rest) (1 + (1 + parts of + parts rest)) (max-left f (peak rest) n h)
    (total-parts n rest (max-right f (peak rest) n h)) (omega arith)

-- ---- at every level

coded : (cs : ℕ → ℕ) (e : Sum) → total e < 2 ^ 32 → are_small cs e ≡ true →
    DividesSmall e × DividesWords cs e × CanWrite e
coded cs (constant c) low h = (tt, tt, tt)
coded cs (variable f d rest) low h =
    let more = coded cs rest (omega (arith, low)) (and_parts (nat_lt f (2 ^ 32)) _ h).1 in
    (more.0, more.1, ((λ x. let le = factor-total x (variable f d rest) in omega (arith, le, low)), more.2))
coded cs (remainder f of m rest) low h =
    let d = divided cs f of m rest h in
    let inner = coded cs of d.total d.inner in
    let more = coded cs rest (omega (arith, low)) d.others in
    ((d.factor, d.divisor, has-small of d.total, inner.0, more.0), (d.top, inner.1, more.1), (inner.2, more.2))
coded cs (quotient f of m rest) low h =
    let d = divided cs f of m rest h in
    let inner = coded cs of d.total d.inner in
    let more = coded cs rest (omega (arith, low)) d.others in
    ((d.factor, d.divisor, has-small of d.total, inner.0, more.0), (d.top, inner.1, more.1), (inner.2, more.2))

pub tested_sums_are_coded : TestedSumsAreCoded
tested_sums_are_coded room n cs e few word h =
    let t = tested room n cs e h in
    let many : 1 + parts e ≤ 65 = omega (arith, t.parts, few) in
    let most : (1 + parts e) * n ≤ 65 * 2 ^ 20 = mul-le-mul many word in
    let low : total e < 2 ^ 32 = let all = total-parts n e t.peak in omega (arith, all, most) in
    let parts = coded cs e low t.small in
    record {
      small = record { whole = has-small e low; divided = parts.0; few = omega (arith, t.parts, few); flat = t.levels };
      fits = record { whole = omega (arith, t.top, word); divided = parts.1 };
      writable = parts.2;
    }
