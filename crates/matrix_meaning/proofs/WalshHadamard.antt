-- The law that splits a Walsh-Hadamard transform.
use Rattle.std.proofs.Common.{◌≡◌, ℕ, zero, suc, ◌+◌, ◌-◌, ◌*◌, ◌/◌, ◌%◌, ◌^◌, ◌<◌, arith, refl, sym, ap, ap₂, ◌∙◌}
use Rattle.std.proofs.Common.{subst, mod-lt, pow_pos}
use Rattle.std.specs.Prelude.{bit_and, count_ones}
use Rattle.std.proofs.lemmas.Nat.{and_block, and_le_l, ones_cat}
use Rattle.std.proofs.lemmas.Bool.Decides.{nat_tests}
use Rattle.std.proofs.Math.Nat.{div-add-mod', mul-add-mod_self_right}
use Rattle.matrix_meaning.specs.declared.Kind.TheVariants.{Wht}
use Rattle.matrix_meaning.specs.Kind.{sign, entry_of}
use Rattle.matrix_meaning.specs.Laws.{Split}
use Rattle.operators.proofs.Matrices.{matrix_times-same, on_columns-on_blocks}

-- m - 1 is its own inverse
last-squared : (m : ℕ) → 0 < m → ((m - 1) * (m - 1)) % m ≡ 1 % m
last-squared zero positive = absurd (omega arith)
last-squared (suc zero) positive = refl
last-squared (suc (suc q)) positive =
    let last : suc (suc q) - 1 ≡ suc q = omega arith in
    let square : suc q * suc q ≡ q * suc (suc q) + 1 = omega arith in
    ap (λ n. (n * n) % suc (suc q)) last ∙ ap (λ n. n % suc (suc q)) square ∙ mul-add-mod_self_right q (suc (suc q)) 1

pub sign-add : (m a b : ℕ) → 0 < m → sign m (a + b) % m ≡ (sign m a * sign m b) % m
sign-add m a b positive = grind (arith, nat_tests, last-squared m positive)

-- the common one bits of two places are those of their rows and those of their columns
common-ones : (k a b i j : ℕ) → b < 2 ^ k → j < 2 ^ k → count_ones (bit_and (a * 2 ^ k + b) (i * 2 ^ k + j))
    ≡ count_ones (bit_and a i) + count_ones (bit_and b j)
common-ones k a b i j below within =
    ap count_ones (and_block k a i b j below within) ∙ ones_cat k (bit_and a i) (bit_and b j) (omega (arith, and_le_l b j))

-- an entry is the product of the entry at the rows and the entry at the columns
wht-entry : (m k p q : ℕ) → 0 < m →
    sign m (count_ones (bit_and p q)) % m
    ≡ (sign m (count_ones (bit_and (p / 2 ^ k) (q / 2 ^ k))) * sign m (count_ones (bit_and (p % 2 ^ k) (q % 2 ^ k))))
    % m
wht-entry m k p q positive =
    ap (λ n. sign m n % m)
    (ap₂ (λ x y. count_ones (bit_and x y)) (sym (div-add-mod' p (2 ^ k))) (sym (div-add-mod' q (2 ^ k)))
    ∙ common-ones k (p / 2 ^ k) (p % 2 ^ k) (q / 2 ^ k) (q % 2 ^ k) (mod-lt p (pow_pos k)) (mod-lt q (pow_pos k)))
    ∙ sign-add m (count_ones (bit_and (p / 2 ^ k) (q / 2 ^ k))) (count_ones (bit_and (p % 2 ^ k) (q % 2 ^ k))) positive

pub split : Split
split m r s w x positive (k, e) =
    matrix_times-same m (r * s) (entry_of Wht m (r * s) w)
    (λ p q. entry_of Wht m r w (p / s) (q / s) * entry_of Wht m s w (p % s) (q % s)) x
    (λ p q _ _.
    subst (λ n. entry_of Wht m (r * s) w p q % m
    ≡ (entry_of Wht m r w (p / n) (q / n) * entry_of Wht m s w (p % n) (q % n)) % m)
    (sym e) (wht-entry m k p q positive))
    ∙ sym (on_columns-on_blocks m r s (entry_of Wht m r w) (entry_of Wht m s w) x)
