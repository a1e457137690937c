-- What the program of a formula's passes does.
use Rattle.std.specs.Prelude.{◌≡◌, ℕ, ◌^◌, ◌<◌, ◌≤◌, List, []}
use Rattle.sigma_lower.specs.Operations.{operations}
use Rattle.sigma_lower.specs.Terms.{term_of}
use Rattle.icode.specs.Actions.{PlainFits, plain_code}
use Rattle.icode.specs.Limits.{IsWithinLimits}
use Rattle.icode.specs.Machine.{results, weighted, whole_counts}
use Rattle.icode.specs.Plain.{PlainProgram}
use Rattle.loop_merge.specs.Coalescing.Copies.{all_coalesced}
use Rattle.sigma_spl.specs.Shared.Machine.{plain_machine}
use Rattle.code_gen.specs.PassCode.Contract.{Performs}
use Rattle.spl_ast.specs.Meaning.{IsVector}
use Rattle.sigma_spl.specs.Merge.{passes_of}
use Rattle.sigma_spl.specs.Merged.{PlainMerged}
use Rattle.sigma_spl.specs.PlainPasses.{plain_phase}
use Rattle.spl_ast.specs.Formula.{Formula, size_of, parts_of}
use Rattle.spl_ast.specs.Meaning.{apply}
use Rattle.spl_ast.specs.Shape.{IsShaped}

-- the merged passes of a formula modulo m, with copies that stand side by side as one loop, in one phase
abbrev pub formula_merged : ℕ → Formula → PlainMerged
formula_merged m f = plain_phase (size_of f) (all_coalesced (passes_of (size_of f) (term_of m [] f)))

-- The program stands within the limits and fits. Run with no turns but those that complete it, it leaves what the
-- formula makes of each vector of residues, in exactly the formula's operations, whatever a product counts
pub record Computes (m : ℕ) (f : Formula) (p : PlainProgram) : Type 0 where
  pub limits : IsWithinLimits p
  pub fits : PlainFits p
  pub results : (x : List ℕ) → IsVector m (size_of f) x → results (plain_code p) x [] ≡ apply m f x
  pub cost : (weight : ℕ) → 0 < weight → weighted weight (whole_counts (plain_code p) 0) ≡ operations weight m f

-- each program of a formula's merged passes does
abbrev pub FormulasCompute : Type 0
FormulasCompute =
    (m : ℕ) (f : Formula) (p : PlainProgram) → 2 ≤ m → m < 2 ^ 62 → IsShaped f → parts_of f ≤ 65536 →
    Performs (plain_machine (size_of f) m) (formula_merged m f) p → Computes m f p
