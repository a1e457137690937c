-- What makes a program the code of a formula.
use Rattle.std.specs.Prelude.{◌≡◌, ℕ, ◌^◌, ◌≤◌, ◌<◌, List, length, All}
use Rattle.icode.specs.Actions.{PlainFits, plain_code}
use Rattle.icode.specs.Fresh.{IsFresh}
use Rattle.icode.specs.Leftovers.{AreLeftovers, Leftovers, results_among}
use Rattle.icode.specs.Limits.{IsWithinLimits}
use Rattle.icode.specs.Machine.{IsApart, results, weighted, whole_counts}
use Rattle.icode.specs.Plain.{PlainProgram}
use Rattle.sigma_lower.specs.Operations.{operations}
use Rattle.spl_ast.specs.Meaning.{IsVector}
use Rattle.spl_ast.specs.Formula.{Formula, size_of}
use Rattle.spl_ast.specs.Meaning.{apply}

-- one processor, of one lane, works on as many residues modulo m as the formula has rows
pub record HasHeader (m : ℕ) (f : Formula) (p : PlainProgram) : Type 0 where
  pub size : p.size ≡ size_of f
  pub modulus : p.modulus ≡ m
  pub procs : p.procs ≡ 1
  pub line : p.line ≡ 1
  pub lanes : p.lanes ≡ 1

-- Whatever the vector and whatever turns come first, the program leaves the formula's
-- matrix times the vector, in one phase, in exactly the formula's operations. It
-- stands within the limits of listings, and every place that it names is there
pub record IsCodeOf (m : ℕ) (f : Formula) (p : PlainProgram) : Type 0 where
  pub header : HasHeader m f p
  pub limits : IsWithinLimits p
  pub tables : length p.tables ≤ 2 ^ 64
  pub fits : PlainFits p
  pub phases : length (plain_code p).lists ≡ 1
  pub apart : (phase : ℕ) → IsApart (plain_code p) phase
  pub product : (x turns : List ℕ) → IsVector m (size_of f) x → All (λ q. q < 1) turns →
      results (plain_code p) x turns ≡ apply m f x
  pub again : (left : Leftovers) (x turns : List ℕ) → AreLeftovers (plain_code p) left → IsVector m (size_of f) x →
      results_among (plain_code p) left x turns ≡ apply m f x
  pub fresh : IsFresh (plain_code p)
  pub operations : weighted 1 (whole_counts (plain_code p) 0) ≡ operations 1 m f
