-- The law of the inverse transform, entry by entry.
use Rattle.std.proofs.Common.{◌≡◌, ℕ, List, ◌+◌, ◌-◌, ◌*◌, ◌%◌, arith, sym, ap, ◌∙◌, mul_assoc, mul_comm}
use Rattle.std.specs.Prelude.{slice_index}
use Rattle.std.proofs.lemmas.Nat.{mul-mod_first, mul-mod_second}
use Rattle.ring_mod.specs.Inverse.{inverse_mod}
use Rattle.ring_mod.specs.Residue.{power_mod}
use Rattle.ring_mod.proofs.Powers.{power_mod_of_power, power_mod-drop, power_mod-zero}
use Rattle.matrix_meaning.specs.declared.Kind.TheVariants.{Dft, Idft}
use Rattle.matrix_meaning.specs.Kind.{entry_of, inverse_root}
use Rattle.matrix_meaning.specs.Laws.{InverseTransform, InverseRoot}
use Rattle.operators.specs.Sum.{sum_below}
use Rattle.operators.proofs.Matrices.{at-matrix_times}
use Rattle.operators.proofs.Sums.{mul-sum_below, same-sum_below}
use Rattle.operators.proofs.Lists.{list_below-same}

-- a row of the inverse, times a list: 1 / n times the same row by the inverse root
pub inverse_row : (m n w k : ℕ) (x : List ℕ) →
    sum_below n (λ l. entry_of Idft m n w k l * slice_index x l) % m
    ≡ (inverse_mod m n * (sum_below n (λ l. entry_of Dft m n (inverse_root m n w) k l * slice_index x l) % m)) % m
inverse_row m n w k x =
    same-sum_below m n _ _ (λ l _.
    mul-mod_first (inverse_mod m n * power_mod m (inverse_root m n w) (k * l)) (slice_index x l) m
    ∙ ap (λ y. y % m) (mul_assoc (inverse_mod m n) (power_mod m (inverse_root m n w) (k * l)) (slice_index x l)))
    ∙ ap (λ y. y % m) (sym (mul-sum_below n (inverse_mod m n) (λ l. power_mod m (inverse_root m n w) (k * l) * slice_index x l)))
    ∙ sym (mul-mod_second (inverse_mod m n) _ m)

pub inverse_transform_is : InverseTransform
inverse_transform_is m n w x =
    list_below-same n _ _ (λ k row.
    inverse_row m n w k x
    ∙ ap (λ y. (inverse_mod m n * y) % m) (sym (at-matrix_times m n (entry_of Dft m n (inverse_root m n w)) x k row)))

pub inverse_root_is_root : InverseRoot
inverse_root_is_root m n w root =
    let exponent : (n - 1) * n ≡ n * (n - 1) + 0 = omega (arith, mul_comm (n - 1) n) in
    power_mod_of_power m w (n - 1) n ∙ ap (power_mod m w) exponent ∙ power_mod-drop m w n (n - 1) 0 root ∙ power_mod-zero m w
