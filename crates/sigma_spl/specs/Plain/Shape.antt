-- Terms whose numbers are words and whose places are inside of their lists.
use Rattle.std.specs.Prelude.{◌≡◌, ℕ, ◌+◌, ◌<◌, List, [], ◌∷◌, length}
use Rattle.index_fn.specs.Mapping.{Mapping, at, IsDefinedAt, IsWellFormed}
use Rattle.sigma_spl.specs.Good.{AreBelow}
use Rattle.sigma_spl.specs.Nest.{factor_count}
use Rattle.sigma_spl.specs.Sigma.{IsGoodSigma, PlainSigma}
use Rattle.sigma_spl.specs.Term.{PlainTerm, same, gath, scat, diag, nest, move, product, beside}
use Rattle.sigma_spl.specs.Work.{HasWords, work_size}
use Rattle.spl_ast.specs.Shape.{IsSize}
use Rattle.operators.specs.Paths.Tensors.{size_under}

-- f takes the numbers below n to numbers below n
pub record StaysInside (n : ℕ) (f : Mapping) : Type 0 where
  pub well_formed : IsWellFormed f
  pub defined : (i : ℕ) → i < n → IsDefinedAt f i
  pub below : (i : ℕ) → i < n → at f i < n

-- a term on lists of n items
abbrev pub Fits : ℕ → PlainTerm → Type 0
Fits n same = Unit {0}
Fits n (gath f) = StaysInside n f
Fits n (scat f) = StaysInside n f
Fits n (diag path factors) = size_under path (factor_count factors) ≡ n
Fits n (nest path w) = HasWords w × (size_under path (work_size w) ≡ n)
Fits n (move path ks) = AreBelow (length ks) ks × (size_under path (length ks) ≡ n)
Fits n (product a b) = Fits n a × Fits n b
Fits n (beside path k a l b) = ((0 < k) × (0 < l) × Fits k a × Fits l b) × (size_under path (k + l) ≡ n)

-- what it does to one copy
abbrev pub FitsCopy : PlainTerm → Type 0
FitsCopy (nest path w) = HasWords w
FitsCopy (move path ks) = AreBelow (length ks) ks
FitsCopy (beside path k a l b) = (0 < k) × (0 < l) × Fits k a × Fits l b
FitsCopy t = ⊥

abbrev pub AllFit : ℕ → List PlainTerm → Type 0
AllFit n [] = Unit {0}
AllFit n (t ∷ ts) = Fits n t × AllFit n ts

-- terms that can be merged are such
abbrev pub GoodSigmasFit : Type 0
GoodSigmasFit = (g : PlainSigma) → IsGoodSigma g → IsSize g.size × AllFit g.size g.phases
