-- Any two numbers have a greatest common divisor.
use Rattle.std.proofs.Common.{ℕ, zero, suc, ◌%◌, ◌<◌, refl, arith, mod-lt}
use Rattle.std.specs.Int.{IsGcd}
use Rattle.std.proofs.lemmas.Nat.Gcd.{IsGcd-from_zero, IsGcd-from_mod}

-- Euclid's steps, of which there are fewer than n
gcd_within : (n a b : ℕ) → b < n → (g : ℕ) × IsGcd a b g
gcd_within zero a b less = absurd (omega arith)
gcd_within (suc n) a zero less = (a, IsGcd-from_zero a zero refl)
gcd_within (suc n) a (suc b) less =
    let rest_below : a % suc b < suc b = mod-lt a (omega arith) in
    let inner = gcd_within n (suc b) (a % suc b) (omega arith) in
    (inner.0, IsGcd-from_mod a (suc b) inner.0 inner.1)

pub gcd_exists : (a b : ℕ) → (g : ℕ) × IsGcd a b g
gcd_exists a b = gcd_within (suc b) a b (omega arith)
