-- Centred factors stand for their residues.
use Rattle.std.proofs.Common.{◌≡◌, ◌*◌, ◌≤◌, arith, ◌∙◌, pos, ◌-ℤ◌, unsigned_abs}
use Rattle.std.specs.Prelude.{nat_le}
use Rattle.std.proofs.Math.Nat.{mod-eq_of_lt}
use Rattle.std.proofs.lemmas.Bool.{cond_both, leb-true, leb-false}
use Rattle.std.proofs.lemmas.Int.{ints}
use Rattle.double_code.specs.Factors.{FactorsAreCentred}
use Rattle.double_code.specs.Products.{residue}
use Rattle.double_code.proofs.Residues.{residue_is}

pub factors_are_centred : FactorsAreCentred
factors_are_centred m c lt =
    cond_both (nat_le (2 * c) m) (pos c) (pos c -ℤ pos m)
    (λ z. (2 * unsigned_abs z ≤ m) × (residue m z ≡ c))
    (λ small. (leb-true (2 * c) m small, mod-eq_of_lt lt))
    (λ large. let over = leb-false (2 * c) m large in (
      omega (arith, ints),
      residue_is m (pos c -ℤ pos m) 1 c (omega arith) (omega (arith, ints)) ∙ mod-eq_of_lt lt,
    ))
