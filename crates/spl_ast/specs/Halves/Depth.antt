-- Formulas whose direct sums are balanced.
use Rattle.std.specs.Prelude.{◌≡◌, ℕ, ◌+◌, ◌*◌, ◌^◌, ◌<◌, max, length}
use Rattle.spl_ast.specs.Formula.{Formula, Product, TensorLeft, TensorRight, DirectSum, Pending}
use Rattle.spl_ast.specs.Halves.Summands.{summands}

-- how many direct sums stand one in the other, from the outermost on
abbrev pub sum_depth : Formula → ℕ
sum_depth (DirectSum a b) = max (sum_depth a) (sum_depth b) + 1
sum_depth f = 0

-- wherever a direct sum of depth d stands in the formula, it has more than half of 2 ^ d summands
abbrev pub IsBalanced : Formula → Type 0
IsBalanced (Product a b) = IsBalanced a × IsBalanced b
IsBalanced (TensorLeft a k) = IsBalanced a
IsBalanced (TensorRight k a) = IsBalanced a
IsBalanced (DirectSum a b) = (2 ^ sum_depth (DirectSum a b) < 2 * length (summands (DirectSum a b))) × IsBalanced a × IsBalanced b
IsBalanced (Pending a) = IsBalanced a
IsBalanced f = Unit {0}

-- a formula that is no sum itself
pub record IsSummand (f : Formula) : Type 0 where
  pub balanced : IsBalanced f
  pub alone : sum_depth f ≡ 0

-- `count` summands, balanced
pub record IsSumOf (count : ℕ) (f : Formula) : Type 0 where
  pub balanced : IsBalanced f
  pub shallow : 2 ^ sum_depth f < 2 * count
  pub counted : length (summands f) ≡ count
