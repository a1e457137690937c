-- Sigmas of formulas.
use Rattle.std.specs.Prelude.{◌≡◌, ℕ, List, [], ◌∷◌}
use Rattle.sigma_spl.specs.Merge.{passes_of}
use Rattle.sigma_spl.specs.PlainPasses.{ArePlainPasses}
use Rattle.sigma_spl.specs.Sigma.{PlainSigma}
use Rattle.sigma_spl.specs.Term.{PlainTerm}
use Rattle.spl_ast.specs.Formula.{Formula, size_of}

-- one phase on one processor of one lane, on as many words as the formula has rows, and a program modulo m can be made of
-- the passes of its term
pub record IsFormulaSigma (m : ℕ) (f : Formula) (s : PlainSigma) : Type 0 where
  pub size : s.size ≡ size_of f
  pub procs : s.procs ≡ 1
  pub lanes : s.lanes ≡ 1
  pub term : PlainTerm
  pub phases : s.phases ≡ term ∷ []
  pub passes : ArePlainPasses (size_of f) m (passes_of (size_of f) term)
