-- What holds of formulas with the same summands.
use Rattle.std.proofs.Common.{ℕ, ◌<◌, List, [], ◌∷◌, ◌++◌, length, arith, length-append}
use Rattle.spl_ast.specs.Formula.{Formula, Identity, Fourier, Hadamard, Twiddles, Diagonal, Stride, Permutation}
use Rattle.spl_ast.specs.Formula.{GoodThomasIn, GoodThomasOut, Product, TensorLeft, TensorRight, DirectSum, Pending}
use Rattle.spl_ast.specs.Halves.Summands.{summands, sum_of}

-- a relation that leads from each part of a formula to the whole, and from a direct sum of three to the same, grouped from the right
pub record KnowsSums (R : Formula → Formula → Type 0) : Type 0 where
  pub same : (f : Formula) → R f f
  pub chain : (f g h : Formula) → R f g → R g h → R f h
  pub grouped : (a b c : Formula) → R (DirectSum (DirectSum a b) c) (DirectSum a (DirectSum b c))
  pub sum : (a b c d : Formula) → R a c → R b d → R (DirectSum a b) (DirectSum c d)
  pub product : (a b c d : Formula) → R a c → R b d → R (Product a b) (Product c d)
  pub left : (a c : Formula) (k : ℕ) → R a c → R (TensorLeft a k) (TensorLeft c k)
  pub right : (k : ℕ) (a c : Formula) → R a c → R (TensorRight k a) (TensorRight k c)
  pub pending : (a c : Formula) → R a c → R (Pending a) (Pending c)

-- there is a summand
some_summand : (f : Formula) → 0 < length (summands f)
some_summand (Identity n) = omega arith
some_summand (Fourier n w) = omega arith
some_summand (Hadamard n) = omega arith
some_summand (Twiddles n s w) = omega arith
some_summand (Diagonal c) = omega arith
some_summand (Stride n r) = omega arith
some_summand (Permutation k) = omega arith
some_summand (GoodThomasIn r s) = omega arith
some_summand (GoodThomasOut r s) = omega arith
some_summand (Product a b) = omega arith
some_summand (TensorLeft a k) = omega arith
some_summand (TensorRight k a) = omega arith
some_summand (DirectSum a b) = omega (arith, length-append (summands a) (summands b), some_summand a)
some_summand (Pending a) = omega arith

module _ (R : Formula → Formula → Type 0) (laws : KnowsSums R) where
  -- two direct sums, as one
  sum-append : (fs gs : List Formula) → 0 < length fs → 0 < length gs →
      R (DirectSum (sum_of fs) (sum_of gs)) (sum_of (fs ++ gs))
  sum-append [] gs some other = absurd (omega arith)
  sum-append (f ∷ fs) [] some other = absurd (omega arith)
  sum-append (f ∷ []) (g ∷ gs) some other = laws.same (DirectSum f (sum_of (g ∷ gs)))
  sum-append (f ∷ e ∷ fs) (g ∷ gs) some other =
      laws.chain _ _ _
      (laws.grouped f (sum_of (e ∷ fs)) (sum_of (g ∷ gs)))
      (laws.sum f _ f _ (laws.same f) (sum-append (e ∷ fs) (g ∷ gs) (omega arith) other))

  pub from_right : (f : Formula) → R f (sum_of (summands f))
  from_right (Identity n) = laws.same _
  from_right (Fourier n w) = laws.same _
  from_right (Hadamard n) = laws.same _
  from_right (Twiddles n s w) = laws.same _
  from_right (Diagonal c) = laws.same _
  from_right (Stride n r) = laws.same _
  from_right (Permutation k) = laws.same _
  from_right (GoodThomasIn r s) = laws.same _
  from_right (GoodThomasOut r s) = laws.same _
  from_right (Product a b) = laws.product a b _ _ (from_right a) (from_right b)
  from_right (TensorLeft a k) = laws.left a _ k (from_right a)
  from_right (TensorRight k a) = laws.right k a _ (from_right a)
  from_right (DirectSum a b) =
      laws.chain _ _ _
      (laws.sum a b _ _ (from_right a) (from_right b))
      (sum-append (summands a) (summands b) (some_summand a) (some_summand b))
  from_right (Pending a) = laws.pending a _ (from_right a)
