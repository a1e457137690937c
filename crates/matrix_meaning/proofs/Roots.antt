-- Roots, whose power by the size is 1.
use Rattle.std.proofs.Common.{◌≡◌, ◌≢◌, ℕ, ◌≤◌, ◌%◌, arith, refl, sym, ap, ◌∙◌, mod-eq_of_lt}
use Rattle.ring_mod.specs.Residue.{power_mod}
use Rattle.ring_mod.proofs.Powers.{power_mod-one}
use Rattle.matrix_meaning.specs.declared.Kind.{Kind}
use Rattle.matrix_meaning.specs.declared.Kind.TheVariants.{Dft, Wht, Idft}
use Rattle.matrix_meaning.specs.declared.Request.{Request}
use Rattle.matrix_meaning.specs.Valid.{HasRoot}

-- a request's root is a root of its size
abbrev pub HasItsRoot : Request → Type 0
HasItsRoot p = HasRoot p.kind p.modulus p.root p.size

one_reduced : (m : ℕ) → 2 ≤ m → 1 % m ≡ 1
one_reduced m two = mod-eq_of_lt (omega (arith, two))

-- 1 is a root of each size
pub one_is_root : (m n : ℕ) → 2 ≤ m → power_mod m 1 n ≡ 1
one_is_root m n two =
    ap (λ w. power_mod m w n) (sym (one_reduced m two)) ∙ power_mod-one m n ∙ one_reduced m two

-- the root of a Fourier transform, as the law of roots has it
pub root-is : (kind : Kind) (m w n : ℕ) → 2 ≤ m → kind ≢ Wht → HasRoot kind m w n → power_mod m w n ≡ 1 % m
root-is Dft m w n two other root = root ∙ sym (one_reduced m two)
root-is Wht m w n two other root = absurd (other refl)
root-is Idft m w n two other root = root ∙ sym (one_reduced m two)

pub root-by_power : (kind : Kind) (m w n : ℕ) → power_mod m w n ≡ 1 → HasRoot kind m w n
root-by_power Dft m w n is = is
root-by_power Wht m w n is = tt
root-by_power Idft m w n is = is

pub root-reduced : (m w n : ℕ) → 2 ≤ m → power_mod m w n ≡ 1 % m → power_mod m w n ≡ 1
root-reduced m w n two is = is ∙ one_reduced m two
