-- Numbers that count modulo m.
use Rattle.std.proofs.Common.{◌≡◌, ℕ, ◌-◌, ◌*◌, ◌%◌, ap, List, refl}
use Rattle.std.proofs.lemmas.Nat.{mul-mod_first, pow-mod}
use Rattle.ring_mod.specs.Inverse.{inverse_mod}
use Rattle.ring_mod.specs.Residue.{power_mod, product_mod}
use Rattle.operators.proofs.Matrices.{matrix_times-same}
use Rattle.matrix_meaning.specs.declared.Kind.{Kind}
use Rattle.matrix_meaning.specs.declared.Kind.TheVariants.{Dft, Wht, Idft}
use Rattle.matrix_meaning.specs.Kind.{transform, entry_of}

pub product_of_reduced : (m a b : ℕ) → (a % m * b) % m ≡ (a * b) % m
product_of_reduced m a b = mul-mod_first a b m

pub power_of_reduced : (m w e : ℕ) → power_mod m (w % m) e ≡ power_mod m w e
unfolding power_mod
power_of_reduced m w e = pow-mod w e m

-- a root counts modulo m
pub transform_of_reduced : (kind : Kind) (m n w : ℕ) (x : List ℕ) →
    transform kind m n (w % m) x ≡ transform kind m n w x
transform_of_reduced Dft m n w x =
    matrix_times-same m n (entry_of Dft m n (w % m)) (entry_of Dft m n w) x (λ k l _ _. ap (λ v. v % m) (power_of_reduced m w (k * l)))
transform_of_reduced Wht m n w x = refl
transform_of_reduced Idft m n w x =
    matrix_times-same m n (entry_of Idft m n (w % m)) (entry_of Idft m n w) x (λ k l _ _.
    ap (λ v. product_mod m (inverse_mod m n) (power_mod m v (k * l)) % m) (power_of_reduced m w (n - 1)))
