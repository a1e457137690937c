-- The passes of a formula.
use Rattle.std.specs.Prelude.{◌≡◌, ℕ, ◌<◌, List, []}
use Rattle.sigma_spl.specs.Counts.{passes_cost}
use Rattle.sigma_spl.specs.Good.{AreGoodPasses}
use Rattle.spl_ast.specs.Meaning.{IsVector}
use Rattle.sigma_spl.specs.Limits.{AreWithin}
use Rattle.sigma_spl.specs.Merge.{passes_of}
use Rattle.sigma_spl.specs.Nest.{passes_on}
use Rattle.sigma_spl.specs.Shared.Costs.{work_cost}
use Rattle.sigma_lower.specs.Operations.{operations}
use Rattle.sigma_lower.specs.Terms.{term_of}
use Rattle.spl_ast.specs.Formula.{Formula, size_of}
use Rattle.spl_ast.specs.Meaning.{apply}
use Rattle.spl_ast.specs.Shape.{IsShaped}

-- Each pass writes each word of its array once, and its places are within the limits of programs. Together the passes
-- do to every vector what the formula does, in exactly its operations, whatever a product counts
pub record Compiles (m : ℕ) (f : Formula) : Type 0 where
  pub good : AreGoodPasses 0 m (size_of f) (passes_of (size_of f) (term_of m [] f))
  pub limits : AreWithin 64 (size_of f) (passes_of (size_of f) (term_of m [] f))
  pub on : (x : List ℕ) → IsVector m (size_of f) x →
      passes_on m (size_of f) (passes_of (size_of f) (term_of m [] f)) x ≡ apply m f x
  pub cost : (weight : ℕ) →
      passes_cost weight (work_cost weight m) (passes_of (size_of f) (term_of m [] f)) ≡ operations weight m f

-- every formula of this language
abbrev pub FormulasCompile : Type 0
FormulasCompile = (m : ℕ) (f : Formula) → 0 < m → IsShaped f → Compiles m f
