-- Reductions by doubles are exact, and find the residue.
use Rattle.std.proofs.Common.{◌≡◌, ℕ, ◌-◌, ◌<◌, arith, ap, ◌∙◌, true, false}
use Rattle.std.proofs.Common.{ℤ, pos, ◌+ℤ◌, ◌-ℤ◌, ◌*ℤ◌, unsigned_abs}
use Rattle.std.proofs.Math.Nat.{mod-eq_of_lt}
use Rattle.std.proofs.lemmas.Bool.{cond_both}
use Rattle.std.proofs.lemmas.Int.{ints}
use Rattle.std.specs.Prelude.{int_lt}
use borrow.Author.Differences.{up, down}
use Rattle.double_code.specs.Rounding.{rounded, double_quotient}
use Rattle.double_code.specs.Products.{residue}
use Rattle.double_code.specs.Reductions.{reduced, DoubleReductions}
use Rattle.double_code.proofs.Products.{reduced_near}
use Rattle.double_code.proofs.Residues.{residue_is, residue_same, residue_low}
use Rattle.double_code.proofs.Signed.{abs_parts, one_part, small_double, quotient_whole}

-- a number from 1 - m to m - 1 is its residue, or m below it
pub settled_is : (m : ℕ) (r : ℤ) → unsigned_abs r < m →
    (int_lt r (pos 0) ≡ true → r +ℤ pos m ≡ pos (residue m r)) × (int_lt r (pos 0) ≡ false → r ≡ pos (residue m r))
settled_is m r small =
    let abs = abs_parts r in
    let part = one_part r in (
      λ negative.
          let n = m - down r in
          let e = residue_is m r 1 n (omega arith) (omega (arith, ints)) in
          let f = mod-eq_of_lt {n = n} {m = m} (omega (arith, ints)) in
          omega (arith, ints),
      λ positive.
          let n = up r in
          let e = residue_is m r 0 n (omega arith) (omega (arith, ints)) in
          let f = mod-eq_of_lt {n = n} {m = m} (omega arith) in
          omega (arith, ints),
    )

pub double_reductions : DoubleReductions
double_reductions m k e x some below inverse within =
    let q = double_quotient k e x in
    let r = x -ℤ q *ℤ pos m in
    let left = reduced_near m k e (unsigned_abs x) x some inverse (omega arith) (omega arith) in
    let result = small_double r (omega arith) in
    let same = residue_same m x (reduced m k e x) q some result in
    let size = ap unsigned_abs result in
    let is = settled_is m (reduced m k e x) (omega arith) in
    record {
      quotient = quotient_whole m k e (unsigned_abs x) x some inverse (omega arith) (omega arith);
      result = result;
      same = same;
      bound = omega arith;
      whole = cond_both (int_lt (reduced m k e x) (pos 0)) (rounded (reduced m k e x +ℤ pos m)) (reduced m k e x)
          (λ z. z ≡ pos (residue m x))
          (λ negative.
          let up = is.0 negative in
          let low = residue_low m (reduced m k e x) some in
          ap rounded up ∙ small_double (pos (residue m (reduced m k e x))) (omega arith) ∙ ap pos same)
          (λ positive. is.1 positive ∙ ap pos same);
    }
