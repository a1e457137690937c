-- The summands of a formula.
use Rattle.std.specs.Prelude.{List, [], ◌∷◌, ◌++◌}
use Rattle.spl_ast.specs.Formula.{Formula, Identity, Product, TensorLeft, TensorRight, DirectSum, Pending}

-- the direct sum of some formulas, grouped from the right
abbrev pub sum_of : List Formula → Formula
sum_of [] = Identity 0
sum_of (f ∷ []) = f
sum_of (f ∷ g ∷ gs) = DirectSum f (sum_of (g ∷ gs))

-- The summands of a formula in their order, the sums in each of them grouped from the right. Formulas with the same summands are one formula, but for how its direct sums are grouped
abbrev pub summands : Formula → List Formula
summands (Product a b) = Product (sum_of (summands a)) (sum_of (summands b)) ∷ []
summands (TensorLeft a k) = TensorLeft (sum_of (summands a)) k ∷ []
summands (TensorRight k a) = TensorRight k (sum_of (summands a)) ∷ []
summands (DirectSum a b) = summands a ++ summands b
summands (Pending a) = Pending (sum_of (summands a)) ∷ []
summands f = f ∷ []
