-- The term of a formula as the one phase of one processor of one lane.
use Rattle.std.specs.Prelude.{ℕ, [], ◌∷◌}
use Rattle.sigma_lower.specs.Terms.{term_of}
use Rattle.sigma_spl.specs.Sigma.{PlainSigma}
use Rattle.spl_ast.specs.Formula.{Formula, size_of}

abbrev pub formula_sigma : ℕ → Formula → PlainSigma
formula_sigma m f = record { size = size_of f; procs = 1; lanes = 1; phases = term_of m [] f ∷ [] }
