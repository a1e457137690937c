-- A number with one bit set is a power of two.
use Rattle.std.proofs.Common.{◌≡◌, ℕ, zero, suc, ◌+◌, ◌*◌, ◌^◌, ◌<◌, ◌≤◌, ◌⊎◌, true, refl, sym, ap, ap₂, ◌∙◌, inl, inr}
use Rattle.std.proofs.Common.{arith, pow-add}
use Rattle.std.proofs.Math.Nat.{pow-succ'}
use Rattle.std.specs.Int.{is_power_of_two}
use Rattle.std.specs.Int.RustNames.{count_ones}
use lib.Count.{ones}
use Rattle.std.proofs.lemmas.Nat.{ones_cat, zero_from_ones, ones_le_self}
use Rattle.std.proofs.lemmas.Bool.{eqb-true, eq-eqb}
use Rattle.matrix_meaning.specs.declared.Kind.TheVariants.{Wht}
use Rattle.matrix_meaning.specs.Kind.{IsPowerOfTwo}
use Rattle.tree_model.specs.Breakdown.{Breakdown, leaf, node, size_of, IsWellFormed}

pub even_or_odd : (n : ℕ) → ((q : ℕ) × (n ≡ 2 * q)) ⊎ ((q : ℕ) × (n ≡ 2 * q + 1))
even_or_odd zero = inl (0, omega arith)
even_or_odd (suc n) = elim (even_or_odd n) [ inl w ↦ inr (w.0, omega (arith, w.1)) | inr w ↦ inl (w.0 + 1, omega (arith, w.1)) ]

ones_of_double : (q r : ℕ) → r < 2 → count_ones (2 * q + r) ≡ count_ones q + count_ones r
ones_of_double q r h = let e : 2 * q + r ≡ q * 2 ^ 1 + r = omega arith in ap count_ones e ∙ ones_cat 1 q r h

ones_of_zero : count_ones 0 ≡ 0
ones_of_zero = let low : count_ones 0 ≤ 0 = ones_le_self 0 in omega arith

ones_of_one : count_ones 1 ≡ 1
unfolding ones
ones_of_one = refl

even_sum : (n q : ℕ) → n ≡ 2 * q → n ≡ 2 * q + 0
even_sum n q e = omega arith

-- half of an even number is smaller, since 0 has no bit set
half_below : (n q bound : ℕ) → n < suc bound → n ≡ 2 * q → count_ones n ≡ 1 → q < bound
half_below n zero bound less e h = absurd (let none : count_ones n ≡ 0 = ap count_ones e ∙ ones_of_zero in omega arith)
half_below n (suc q) bound less e h = omega arith

power_below : (bound n : ℕ) → n < bound → count_ones n ≡ 1 → (k : ℕ) × (n ≡ 2 ^ k)
power_below zero n less e = absurd (omega arith)
power_below (suc bound) n less e = elim (even_or_odd n) [
  | inl even ↦
      let sum : count_ones even.0 + count_ones 0 ≡ 1 = sym (ones_of_double even.0 0 (omega arith)) ∙ ap count_ones (sym (even_sum n even.0 even.1)) ∙ e in
      let ones_of_half : count_ones even.0 ≡ 1 = omega (arith, ones_of_zero) in
      let inner = power_below bound even.0 (half_below n even.0 bound less even.1 e) ones_of_half in
      (suc inner.0, even.1 ∙ ap (λ q. 2 * q) inner.1 ∙ sym (pow-succ' 2 inner.0))
  | inr odd ↦
      let sum : count_ones odd.0 + count_ones 1 ≡ 1 = sym (ones_of_double odd.0 1 (omega arith)) ∙ ap count_ones (sym odd.1) ∙ e in
      let none : odd.0 ≡ 0 = zero_from_ones odd.0 (omega (arith, ones_of_one)) in
      (0, odd.1 ∙ ap (λ q. 2 * q + 1) none)
]

pub power_of_two : (n : ℕ) → is_power_of_two n ≡ true → (k : ℕ) × (n ≡ 2 ^ k)
power_of_two n e = power_below (suc n) n (omega arith) (eqb-true (count_ones n) 1 e)

ones_of_power : (k : ℕ) → count_ones (2 ^ k) ≡ 1
ones_of_power zero = ones_of_one
ones_of_power (suc k) =
    let sum : count_ones (2 * 2 ^ k + 0) ≡ count_ones (2 ^ k) + count_ones 0 = ones_of_double (2 ^ k) 0 (omega arith) in
    let double : 2 ^ suc k ≡ 2 * 2 ^ k + 0 = omega (arith, pow-succ' 2 k) in
    ap count_ones double ∙ sum ∙ ap (λ n. count_ones (2 ^ k) + n) ones_of_zero ∙ omega (arith, ones_of_power k)

pub is_power_of_power : (n k : ℕ) → n ≡ 2 ^ k → is_power_of_two n ≡ true
is_power_of_power n k e = eq-eqb (count_ones n) 1 (ap count_ones e ∙ ones_of_power k)

product_of_powers : (r s i j : ℕ) → r ≡ 2 ^ i → s ≡ 2 ^ j → r * s ≡ 2 ^ (i + j)
product_of_powers r s i j e f = ap₂ (λ x y. x * y) e f ∙ sym (pow-add 2 i j)

-- the size of each tree of the Walsh-Hadamard transform is a power of two
pub walsh_size : (t : Breakdown) → IsWellFormed Wht t → IsPowerOfTwo (size_of t)
walsh_size (leaf zero) h = absurd (omega (arith, h.0))
walsh_size (leaf (suc zero)) h = (0, refl)
walsh_size (leaf (suc (suc zero))) h = (1, refl)
walsh_size (leaf (suc (suc (suc d)))) h = absurd (omega (arith, h.1))
walsh_size (node rule a b) h =
    let left = walsh_size a h.1 in
    let right = walsh_size b h.2 in
    (left.0 + right.0, product_of_powers (size_of a) (size_of b) left.0 right.0 left.1 right.1)
