-- What makes a program one for convolutions with a list.
use Rattle.std.specs.Prelude.{◌≡◌, ℕ, ◌*◌, ◌^◌, ◌≤◌, List, length, All, ◌<◌}
use Rattle.matrix_meaning.specs.Convolution.{convolution}
use Rattle.generate.specs.Good.{HasHeader}
use Rattle.spl_ast.specs.Meaning.{IsVector}
use Rattle.icode.specs.Actions.{PlainFits, plain_code}
use Rattle.icode.specs.Fresh.{IsFresh}
use Rattle.icode.specs.Leftovers.{AreLeftovers, Leftovers, results_among}
use Rattle.icode.specs.Limits.{IsWithinLimits}
use Rattle.icode.specs.Machine.{IsApart, results, weighted, whole_counts}
use Rattle.icode.specs.Plain.{PlainProgram}
use Rattle.matrix_meaning.specs.declared.Request.{Request}
use Rattle.tree_model.specs.Breakdown.{Breakdown}
use Rattle.tree_model.specs.Passes.{loads_of, stores_of}
use Rattle.generate.specs.ConvPlanned.{conv_cost}

-- Whatever the vector and whatever turns come first, the program leaves the convolution of the list h and the vector,
-- in one phase, in exactly the operations of two transforms by the tree and a multiplication for each item, and twice
-- the tree's loads and stores. It stands within the limits of listings, and every place that it names is there
pub record IsConvolver (r : Request) (t : Breakdown) (h : List ℕ) (p : PlainProgram) : Type 0 where
  pub header : HasHeader r p
  pub limits : IsWithinLimits p
  pub tables : length p.tables ≤ 2 ^ 64
  pub fits : PlainFits p
  pub phases : length (plain_code p).lists ≡ 1
  pub apart : (phase : ℕ) → IsApart (plain_code p) phase
  pub product : (x turns : List ℕ) → IsVector r.modulus r.size x → All (λ q. q < r.procs) turns →
      results (plain_code p) x turns ≡ convolution r.modulus r.size h x
  pub again : (left : Leftovers) (x turns : List ℕ) → AreLeftovers (plain_code p) left → IsVector r.modulus r.size x →
      results_among (plain_code p) left x turns ≡ convolution r.modulus r.size h x
  pub fresh : IsFresh (plain_code p)
  pub operations : weighted r.weight (whole_counts (plain_code p) 0) ≡ conv_cost r t
  pub loads : (whole_counts (plain_code p) 0).loads ≡ 2 * loads_of r t
  pub stores : (whole_counts (plain_code p) 0).stores ≡ 2 * stores_of r t
