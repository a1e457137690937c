-- Each modulus has an inverse among the doubles.
use Rattle.std.proofs.Common.{◌≡◌, ℕ, zero, suc, ◌-◌, ◌*◌, ◌^◌, ◌<◌, ◌≤◌, arith, sym, ◌∙◌, subst, refl}
use Rattle.std.proofs.Math.Nat.{pow-succ'}
use Rattle.std.proofs.lemmas.Nat.{pow-add, div_below}
use Rattle.std.specs.Float.Ieee.{size}
use Rattle.std.specs.Float.Ieee.Digits.{size_reaches, size-lt}
use Rattle.double_code.specs.Products.{IsInverse, InversesAreThere, exponent_of}
use Rattle.double_code.proofs.Nearest.{IsNearest, nearest_is}
use Rattle.double_code.proofs.Spacing.{whole_double}

pub inverse_nearest : (m k e : ℕ) → 0 < m → IsInverse m k e → IsNearest (2 ^ e) m k
inverse_nearest m k e some inverse =
    let small = div_below (2 ^ e) m (2 ^ 53) some inverse.high in
    subst (IsNearest (2 ^ e) m) (sym (inverse.near ∙ whole_double (2 ^ e) m small))
    (nearest_is (2 ^ e) m some)

-- 2 to the digits of m - 1 is at least m and less than twice m
digits_high : (m n : ℕ) → 1 ≤ m → n ≡ size (m - 1) → 2 ^ n < 2 * m
digits_high m zero some e = omega arith
digits_high m (suc j) some e =
    let reach = size_reaches (m - 1) j (omega arith) in
    let double : 2 ^ suc j ≡ 2 * 2 ^ j = pow-succ' 2 j in
    omega arith

pub inverses_are_there : InversesAreThere
inverses_are_there m some =
    let n = size (m - 1) in
    let split : 2 ^ exponent_of m ≡ 2 ^ 52 * 2 ^ n = pow-add 2 52 n in
    let low = size-lt (m - 1) in
    let high = digits_high m n some refl in
    record { low = omega arith; high = omega arith; near = refl }
