-- The functions of a good step's permutation take the places of the whole to places of it, and every number on the way fits 64 bits.
use Rattle.sigma_lower.proofs.Words.{ℕ, ◌*◌, ◌/◌, ◌%◌, ◌<◌, ◌≤◌, arith, [], ◌∷◌, mod-lt, div-lt_iff_lt-mul}
use Rattle.sigma_lower.proofs.Words.{mul-le-mul_left, le-mul_of_pos_right, div-add-mod', mul-le, mul-lt, Mapping}
use Rattle.sigma_lower.proofs.Words.{ThomasIn, ThomasBack, at, factor_positive, wrapped, Blocks, Columns, Path}
use Rattle.sigma_lower.proofs.Words.{size_under, le-times}
use Rattle.index_fn.specs.Mapping.{IsDefinedAt}
use Rattle.sigma_lower.proofs.TreeTerms.Permuted.{StaysBelow, wrapped-below}

-- a function of the numbers below n
pub record IsClosed (n : ℕ) (f : Mapping) : Type 0 where
  pub defined : (i : ℕ) → i < n → IsDefinedAt f i
  pub below : StaysBelow n (at f)

-- ---- under tensors

pub wrapped-defined : (path : Path) (n : ℕ) (f : Mapping) → IsClosed n f → size_under path n ≤ 1048576 → (i : ℕ) →
    i < size_under path n → IsDefinedAt (wrapped path n f) i
wrapped-defined [] n f h high i below = h.defined i below
wrapped-defined (Blocks c ∷ path) n f h high i below =
    let size = size_under path n in
    let positive : 0 < size = factor_positive c size i below in
    let count : 0 < c = factor_positive size c i (omega arith) in
    let within : size ≤ c * size = le-times c size count in
    (tt, wrapped-defined path n f h (omega arith) (i % size) (mod-lt i positive), omega (arith, wrapped-below (Blocks c ∷ path) n f h.below i below))
wrapped-defined (Columns c ∷ path) n f h high i below =
    let size = size_under path n in
    let positive : 0 < c = factor_positive size c i below in
    let within : size ≤ size * c = le-mul_of_pos_right {m = c} size positive in
    (wrapped-defined path n f h (omega arith) (i / c) ((div-lt_iff_lt-mul positive).1 below), tt, omega (arith, wrapped-below (Columns c ∷ path) n f h.below i below))

-- ---- the permutations of a rule

pub thomas_in-closed : (r s : ℕ) → 0 < r → 0 < s → r * s ≤ 1048576 → IsClosed (r * s) (ThomasIn r s)
thomas_in-closed r s pr ps high =
    record {
      defined = λ i below.
          let part : r * (i % s) ≤ r * s = mul-le-mul_left r (omega (arith, mod-lt i ps)) in
          (below, omega (arith, div-add-mod' i s));
      below = λ i below. mod-lt _ (mul-lt 0 0 r s pr ps);
    }

pub thomas_back-closed : (r s u v : ℕ) → 0 < r → 0 < s → r * s ≤ 1048576 → u < r * s → v < r * s →
    IsClosed (r * s) (ThomasBack r s u v)
thomas_back-closed r s u v pr ps high pu pv =
    record {
      defined = λ i below.
          let row : i / s < r = (div-lt_iff_lt-mul ps).1 below in
          let rows : r ≤ r * s = le-mul_of_pos_right {m = s} r ps in
          let columns : s ≤ r * s = le-times r s pr in
          let one : i / s * u ≤ 1048576 * 1048576 = mul-le (i / s) u 1048576 1048576 (omega arith) (omega arith) in
          let other : i % s * v ≤ 1048576 * 1048576 = mul-le (i % s) v 1048576 1048576 (omega (arith, mod-lt i ps)) (omega arith) in
          (below, omega arith);
      below = λ i below. mod-lt _ (mul-lt 0 0 r s pr ps);
    }
