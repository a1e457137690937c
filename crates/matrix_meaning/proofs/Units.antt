-- A number without an inverse.
use Rattle.std.proofs.Common.{◌≡◌, ◌≢◌, ℕ, zero, suc, ◌*◌, ◌%◌, refl, ap, subst, ◌∙◌}
use Rattle.std.specs.Prelude.{if◌then◌else◌}
use Rattle.std.specs.Int.{IsGcd, ◌∣◌}
use Rattle.std.proofs.Math.Nat.{dvd-mod_iff, dvd-mul_right, one-dvd}
use Rattle.std.proofs.lemmas.Bool.{ne_eqb}
use Rattle.std.proofs.lemmas.Nat.Gcd.{dvd_trans}
use Rattle.ring_mod.specs.Inverse.{inverse_below, inverse_mod}

-- what times a number is 1 modulo m shows that both share no factor
coprime_by : (m a c : ℕ) → (a * c) % m ≡ 1 % m → IsGcd a m 1
coprime_by m a c is = (
  one-dvd a,
  one-dvd m,
  λ d of_a of_m.
      (dvd-mod_iff d of_m).0
      (subst (λ n. d ∣ n) is ((dvd-mod_iff d of_m).1 (dvd_trans d of_a (dvd-mul_right a c)))),
)

none_below : (m a n : ℕ) → ((c : ℕ) → (a * c) % m ≢ 1 % m) → inverse_below m a n ≡ 0
unfolding inverse_below
none_below m a zero none = refl
none_below m a (suc c) none =
    ap (λ b. if b then c else inverse_below m a c) (ne_eqb ((a * c) % m) (1 % m) (none c)) ∙ none_below m a c none

pub no_inverse : (m a : ℕ) → (IsGcd a m 1 → ⊥) → inverse_mod m a ≡ 0
unfolding inverse_mod
no_inverse m a shared = none_below m a m (λ c is. shared (coprime_by m a c is))
