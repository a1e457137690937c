-- Entries by the first digits of places and the others.
use Rattle.std.proofs.Common.{◌≡◌, ℕ, ◌*◌, ◌%◌, ◌<◌, ◌≤◌, arith, refl, sym, ap, subst, ◌∙◌, List, [], ◌∷◌}
use Rattle.std.proofs.Common.{mod-lt, mul_comm}
use Rattle.std.proofs.Math.Nat.{mul-one, mul-le-mul}
use Rattle.matrix_meaning.specs.Dimensions.{product_of}
use Rattle.operators.proofs.Lists.{factor_positive}

-- the product by the first size
pub product_of-first : (sizes : List ℕ) (n : ℕ) (later : List ℕ) → sizes ≡ n ∷ later →
    product_of sizes ≡ n * product_of later
product_of-first sizes n later is = ap product_of is ∙ by_first later
  where
    by_first : (later : List ℕ) → product_of (n ∷ later) ≡ n * product_of later
    by_first [] = sym (mul-one n)
    by_first (s ∷ sizes) = refl

-- both factors of a product that is not 0 are not 0
pub first_positive : (p n s k : ℕ) → p ≡ n * s → k < p → 0 < n
first_positive p n s k is below = factor_positive s n k (subst (λ z. k < z) (is ∙ mul_comm n s) below)

pub later_positive : (p n s k : ℕ) → p ≡ n * s → k < p → 0 < s
later_positive p n s k is below = factor_positive n s k (subst (λ z. k < z) is below)

-- the later factor is at most the product
pub later_fits : (p n s : ℕ) → p ≡ n * s → 0 < n → s ≤ p
later_fits p n s is some = let once : 1 * s ≤ n * s = mul-le-mul some (omega arith) in omega (arith, once, is)

pub digit_below : (k s p : ℕ) → s ≡ p → 0 < p → k % s < p
digit_below k s p is some = subst (λ z. k % z < p) (sym is) (mod-lt k some)
