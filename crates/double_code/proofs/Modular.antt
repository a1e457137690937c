-- Sums, differences and products of numbers stand for those of their residues.
use Rattle.std.proofs.Common.{◌≡◌, ℕ, suc, ◌+◌, ◌-◌, ◌*◌, ◌/◌, ◌%◌, ◌<◌, arith, sym, ap, ◌∙◌}
use Rattle.std.proofs.Common.{ℤ, pos, negsuc, neg_ℤ, ◌+ℤ◌, ◌-ℤ◌, ◌*ℤ◌}
use Rattle.std.proofs.Math.Nat.{zero-mul}
use Rattle.std.proofs.lemmas.Bool.{cond_both}
use Rattle.std.proofs.lemmas.Int.{ints}
use Rattle.std.proofs.lemmas.Nat.{div-add-mod', mod_below, mul-mod_first}
use Rattle.std.specs.Prelude.{nat_le}
use Rattle.ring_mod.specs.Residue.{sum_mod, difference_mod, negation_mod, product_mod}
use borrow.Author.Differences.{up, down, product_is}
use Rattle.double_code.specs.Factors.{centred}
use Rattle.double_code.specs.Products.{residue}
use Rattle.double_code.proofs.Residues.{residue_is, residue_same, residue_low}

-- z is its residue less a multiple of m
split : (m : ℕ) (z : ℤ) → 0 < m → (q : ℤ) × (z ≡ pos (residue m z) -ℤ q *ℤ pos m)
split m (pos n) some =
    let whole = div-add-mod' n m in
    let q = neg_ℤ (pos (n / m)) in
    let product = product_is q (pos m) in
    let no_up : up q ≡ 0 = omega (arith, ints) in
    let down_is : down q ≡ n / m = omega (arith, ints) in
    let none : up q * m ≡ 0 = ap (λ x. x * m) no_up ∙ zero-mul m in
    let all : down q * m ≡ n / m * m = ap (λ x. x * m) down_is in
    (q, omega (arith, ints))
split m (negsuc n) some =
    let whole = div-add-mod' n m in
    let small = mod_below n m some in
    let next : (n / m + 1) * m ≡ n / m * m + m = omega arith in
    (pos (n / m + 1), omega (arith, ints))

pub residue-sum : (m : ℕ) (x y : ℤ) → 0 < m → residue m (x +ℤ y) ≡ sum_mod m (residue m x) (residue m y)
residue-sum m x y some =
    let a = split m x some in
    let b = split m y some in
    let r = pos (residue m x) in
    residue_same m (r +ℤ y) (x +ℤ y) a.0 some (let e = a.1 in omega (arith, ints))
    ∙ residue_same m (r +ℤ pos (residue m y)) (r +ℤ y) b.0 some (let e = b.1 in omega (arith, ints))

-- a residue less another
less : (m r s : ℕ) → 0 < m → s < m → residue m (pos r -ℤ pos s) ≡ difference_mod m r s
less m r s some lt = residue_is m (pos r -ℤ pos s) 1 (r + (m - s)) some (omega (arith, ints))

pub residue-difference : (m : ℕ) (x y : ℤ) → 0 < m → residue m (x -ℤ y) ≡ difference_mod m (residue m x) (residue m y)
residue-difference m x y some =
    let a = split m x some in
    let b = split m y some in
    let r = pos (residue m x) in
    residue_same m (r -ℤ y) (x -ℤ y) a.0 some (let e = a.1 in omega (arith, ints))
    ∙ sym (residue_same m (r -ℤ y) (r -ℤ pos (residue m y)) b.0 some (let e = b.1 in omega (arith, ints)))
    ∙ less m (residue m x) (residue m y) some (residue_low m y some)

pub residue-negation : (m : ℕ) (y : ℤ) → 0 < m → residue m (neg_ℤ y) ≡ negation_mod m (residue m y)
residue-negation m y some =
    let b = split m y some in
    let low = residue_low m y some in
    sym (residue_same m (neg_ℤ y) (neg_ℤ (pos (residue m y))) b.0 some (let e = b.1 in omega (arith, ints)))
    ∙ residue_is m (neg_ℤ (pos (residue m y))) 1 (m - residue m y) some (omega (arith, ints))

times : (m : ℕ) (a : ℤ) (c : ℕ) → 0 < m → residue m (a *ℤ pos c) ≡ product_mod m (residue m a) c
times m (pos n) c some = sym (mul-mod_first n c m)
times m (negsuc n) c some =
    let whole = div-add-mod' n m in
    let small = mod_below n m some in
    let w = m - 1 - n % m in
    let sum : w + suc n ≡ m + n / m * m = omega arith in
    let grown : (w + suc n) * c ≡ (m + n / m * m) * c = ap (λ x. x * c) sum in
    let left : (w + suc n) * c ≡ w * c + suc n * c = omega arith in
    let right : (m + n / m * m) * c ≡ (c + n / m * c) * m = omega arith in
    residue_is m (neg_ℤ (pos (suc n * c))) (c + n / m * c) (w * c) some (omega (arith, ints))

-- a times the residue, or times m less than that
pub residue-product : (m : ℕ) (a : ℤ) (c : ℕ) → 0 < m → residue m (a *ℤ centred m c) ≡ product_mod m (residue m a) c
residue-product m a c some =
    cond_both (nat_le (2 * c) m) (pos c) (pos c -ℤ pos m)
    (λ z. residue m (a *ℤ z) ≡ product_mod m (residue m a) c)
    (λ small. times m a c some)
    (λ large. residue_same m (a *ℤ pos c) (a *ℤ (pos c -ℤ pos m)) a some (apart a) ∙ times m a c some)
  where
    apart : (a : ℤ) → a *ℤ (pos c -ℤ pos m) ≡ a *ℤ pos c -ℤ a *ℤ pos m
    apart a =
        let d = pos c -ℤ pos m in
        let parts : up d + m ≡ down d + c = omega (arith, ints) in
        let ups : up a * (up d + m) ≡ up a * (down d + c) = ap (λ x. up a * x) parts in
        let downs : down a * (up d + m) ≡ down a * (down d + c) = ap (λ x. down a * x) parts in
        let one : up a * (up d + m) ≡ up a * up d + up a * m = omega arith in
        let two : up a * (down d + c) ≡ up a * down d + up a * c = omega arith in
        let three : down a * (up d + m) ≡ down a * up d + down a * m = omega arith in
        let four : down a * (down d + c) ≡ down a * down d + down a * c = omega arith in
        let x = product_is a d in
        let y = product_is a (pos c) in
        let z = product_is a (pos m) in
        omega (arith, ints)
