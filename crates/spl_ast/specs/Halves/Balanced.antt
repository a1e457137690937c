-- A formula with its direct sums grouped in halves.
use Rattle.std.specs.Prelude.{ℕ, zero, suc, ◌/◌, nat_le, if◌then◌else◌, List, [], ◌∷◌, ◌++◌, take, drop, length}
use Rattle.spl_ast.specs.Formula.{Formula, Product, TensorLeft, TensorRight, DirectSum, Pending}
use Rattle.spl_ast.specs.Halves.Summands.{sum_of}

-- the direct sum of some formulas, in halves down to this depth
abbrev pub halved : ℕ → List Formula → Formula
halved zero fs = sum_of fs
halved (suc depth) fs =
    if nat_le (length fs) 1 then sum_of fs
    else DirectSum (halved depth (take (length fs / 2) fs)) (halved depth (drop (length fs / 2) fs))

-- the same, as deep as there are formulas
abbrev pub in_halves : List Formula → Formula
in_halves fs = halved (length fs) fs

-- the summands of a formula in their order, the sums in each of them in halves
abbrev pub balanced_summands : Formula → List Formula
balanced_summands (Product a b) = Product (in_halves (balanced_summands a)) (in_halves (balanced_summands b)) ∷ []
balanced_summands (TensorLeft a k) = TensorLeft (in_halves (balanced_summands a)) k ∷ []
balanced_summands (TensorRight k a) = TensorRight k (in_halves (balanced_summands a)) ∷ []
balanced_summands (DirectSum a b) = balanced_summands a ++ balanced_summands b
balanced_summands (Pending a) = Pending (in_halves (balanced_summands a)) ∷ []
balanced_summands f = f ∷ []

-- the formula with each of its direct sums in halves
abbrev pub balanced : Formula → Formula
balanced f = in_halves (balanced_summands f)
