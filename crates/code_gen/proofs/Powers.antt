-- Powers one after another.
use Rattle.std.proofs.Common.{◌≡◌, ℕ, ◌+◌, ◌*◌, ◌%◌, ap, ◌∙◌, pow-suc}
use Rattle.std.proofs.Math.Nat.{pow-zero, one-mul}
use Rattle.ring_mod.specs.Residue.{power_mod}
use Rattle.ring_mod.proofs.Powers.{power_mod-add}

pub power_mod-one : (m w : ℕ) → power_mod m w 1 ≡ w % m
unfolding power_mod
power_mod-one m w = ap (λ x. x % m) (pow-suc w 0 ∙ ap (λ x. x * w) (pow-zero w) ∙ one-mul w)

pub power-more : (m w e : ℕ) → power_mod m w (e + 1) ≡ (power_mod m w e * (w % m)) % m
power-more m w e = power_mod-add m w e 1 ∙ ap (λ x. (power_mod m w e * x) % m) (power_mod-one m w)
