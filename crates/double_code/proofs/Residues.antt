-- Numbers that differ by a multiple of m stand for one residue.
use Rattle.std.proofs.Common.{◌≡◌, ℕ, ◌+◌, ◌-◌, ◌*◌, ◌%◌, ◌<◌, ◌≤◌, arith, sym, ap, ◌∙◌, refl, mul-le-mul_left}
use Rattle.std.proofs.Common.{ℤ, pos, negsuc, ◌+ℤ◌, ◌-ℤ◌, ◌*ℤ◌, unsigned_abs}
use Rattle.std.proofs.lemmas.Int.{ints, int_rem_euclid_is}
use Rattle.std.proofs.lemmas.Nat.{mod_below}
use borrow.Author.Differences.{up, down, product_is}
use Rattle.double_code.specs.Products.{residue}

-- so many times m makes it the natural number n
pub residue_is : (m : ℕ) (z : ℤ) (t n : ℕ) → 0 < m → z +ℤ pos (t * m) ≡ pos n → residue m z ≡ n % m
residue_is m z t n some e = ap unsigned_abs (int_rem_euclid_is z (pos m) m t n some refl e)

pub residue_same : (m : ℕ) (y z q : ℤ) → 0 < m → z ≡ y -ℤ q *ℤ pos m → residue m z ≡ residue m y
residue_same m y z q some e =
    let t = down z + down y in
    let far : t * 1 ≤ t * m = mul-le-mul_left t some in
    let n = up z + (t + up q) * m - down z in
    let product = product_is q (pos m) in
    let wide : (t + up q) * m ≡ t * m + up q * m = omega arith in
    let wide' : (t + down q) * m ≡ t * m + down q * m = omega arith in
    residue_is m z (t + up q) n some (omega (arith, ints))
    ∙ sym (residue_is m y (t + down q) n some (omega (arith, ints)))

-- a residue is below m
pub residue_low : (m : ℕ) (z : ℤ) → 0 < m → residue m z < m
residue_low m (pos n) some = mod_below n m some
residue_low m (negsuc n) some = omega arith
