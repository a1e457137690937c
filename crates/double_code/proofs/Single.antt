-- What an operation does of single numbers: it loses nothing, within bounds, and stands for the operation on residues.
use Rattle.std.proofs.Common.{◌≡◌, ℕ, ◌+◌, ◌^◌, ◌<◌, ◌≤◌, arith, sym, ap, ◌∙◌}
use Rattle.std.proofs.Common.{ℤ, pos, neg_ℤ, ◌+ℤ◌, ◌-ℤ◌, unsigned_abs}
use Rattle.std.proofs.lemmas.Int.{ints}
use Rattle.ring_mod.specs.Residue.{sum_mod, difference_mod, negation_mod, product_mod}
use Rattle.double_code.specs.DoubleMachine.{sum, difference, product, reduction, settlement}
use Rattle.double_code.specs.Doubled.{most_of, reduced_bound}
use Rattle.double_code.specs.Factors.{centred}
use Rattle.double_code.specs.Products.{residue, product_bound, inverse_of, exponent_of}
use Rattle.double_code.specs.Reductions.{limit_of}
use Rattle.double_code.proofs.Bounds.{Within}
use Rattle.double_code.proofs.Factors.{factors_are_centred}
use Rattle.double_code.proofs.Inverses.{inverses_are_there}
use Rattle.double_code.proofs.Modular.{residue-sum, residue-difference, residue-negation, residue-product}
use Rattle.double_code.proofs.Products.{double_products}
use Rattle.double_code.proofs.Reductions.{double_reductions}
use Rattle.double_code.proofs.Signed.{abs_parts, small_double}

pub sum_number : (m p q : ℕ) (a b : ℤ) → 0 < m → p + q ≤ 2 ^ 53 → Within p a → Within q b →
    (sum_mod m (residue m a) (residue m b) ≡ residue m (sum a b)) × Within (p + q) (sum a b)
sum_number m p q a b some room of_a of_b =
    let x = abs_parts a in
    let y = abs_parts b in
    let z = abs_parts (a +ℤ b) in
    let size : unsigned_abs (a +ℤ b) ≤ p + q = omega (arith, ints) in
    let is = small_double (a +ℤ b) (omega (arith, size)) in
    let alike = ap unsigned_abs is in
    (sym (ap (residue m) is ∙ residue-sum m a b some), omega (arith, size, alike))

pub difference_number : (m p q : ℕ) (a b : ℤ) → 0 < m → p + q ≤ 2 ^ 53 → Within p a → Within q b →
    (difference_mod m (residue m a) (residue m b) ≡ residue m (difference a b)) × Within (p + q) (difference a b)
difference_number m p q a b some room of_a of_b =
    let x = abs_parts a in
    let y = abs_parts b in
    let z = abs_parts (a -ℤ b) in
    let size : unsigned_abs (a -ℤ b) ≤ p + q = omega (arith, ints) in
    let is = small_double (a -ℤ b) (omega (arith, size)) in
    let alike = ap unsigned_abs is in
    (sym (ap (residue m) is ∙ residue-difference m a b some), omega (arith, size, alike))

pub negation_number : (m p : ℕ) (a : ℤ) → 0 < m → Within p a →
    (negation_mod m (residue m a) ≡ residue m (neg_ℤ a)) × Within p (neg_ℤ a)
negation_number m p a some of_a =
    let x = abs_parts a in
    let y = abs_parts (neg_ℤ a) in
    (sym (residue-negation m a some), omega (arith, ints))

pub product_number : (m most : ℕ) (a : ℤ) (c : ℕ) → 0 < m → m < 2 ^ 50 → c < m → most ≤ most_of m → Within most a →
    (product_mod m (residue m a) c ≡ residue m (product m a (centred m c)))
    × Within (product_bound m most) (product m a (centred m c))
product_number m most a c some below lt few of_a =
    let is = double_products m (inverse_of m) (exponent_of m) most a (centred m c) some below
    (inverses_are_there m some) of_a (omega arith) (factors_are_centred m c lt).0 in
    (sym (is.same ∙ residue-product m a c some), is.bound)

pub reduction_number : (m : ℕ) (a : ℤ) → 0 < m → m < 2 ^ 50 → Within (limit_of m) a →
    (residue m a ≡ residue m (reduction m a)) × Within (reduced_bound m) (reduction m a)
reduction_number m a some below of_a =
    let is = double_reductions m (inverse_of m) (exponent_of m) a some below (inverses_are_there m some) of_a in
    (sym is.same, is.bound)

pub settlement_number : (m : ℕ) (a : ℤ) → 0 < m → m < 2 ^ 50 → Within (limit_of m) a →
    settlement m a ≡ pos (residue m a)
settlement_number m a some below of_a =
    (double_reductions m (inverse_of m) (exponent_of m) a some below (inverses_are_there m some) of_a).whole
