-- What makes a program good for a request.
use Rattle.std.specs.Prelude.{◌≡◌, ℕ, ◌*◌, ◌<◌, List, length, All}
use Rattle.icode.specs.Actions.{PlainFits, plain_code}
use Rattle.icode.specs.Fresh.{IsFresh}
use Rattle.icode.specs.Leftovers.{AreLeftovers, Leftovers, results_among}
use Rattle.icode.specs.Machine.{IsApart, results, weighted, whole_counts}
use Rattle.icode.specs.Plain.{PlainProgram}
use Rattle.matrix_meaning.specs.Asked.{asked_of}
use Rattle.matrix_meaning.specs.declared.Request.{Request}
use Rattle.spl_ast.specs.Meaning.{IsVector}

-- the program is for the request's machine
pub record HasHeader (r : Request) (p : PlainProgram) : Type 0 where
  pub size : p.size ≡ r.size
  pub modulus : p.modulus ≡ r.modulus
  pub procs : p.procs ≡ r.procs
  pub line : p.line ≡ r.line
  pub lanes : p.lanes ≡ r.lanes

-- Whatever the vector and whatever turns its processors take first, the program leaves the
-- transform of the vector that the request asks for, whatever is left over too. In no phase does a processor touch a line
-- that another writes. The operations of all processors together, where a multiplication counts as
-- the request's weight, are the least cost, in equal shares. Every place that it names is there
pub record IsGood (r : Request) (least : ℕ) (p : PlainProgram) : Type 0 where
  pub header : HasHeader r p
  pub fits : PlainFits p
  pub product : (x turns : List ℕ) → IsVector r.modulus r.size x → All (λ q. q < r.procs) turns →
      results (plain_code p) x turns ≡ asked_of r x
  pub again : (left : Leftovers) (x turns : List ℕ) → AreLeftovers (plain_code p) left → IsVector r.modulus r.size x →
      results_among (plain_code p) left x turns ≡ asked_of r x
  pub fresh : IsFresh (plain_code p)
  pub apart : (phase : ℕ) → IsApart (plain_code p) phase
  pub operations : (q : ℕ) → q < r.procs → r.procs * weighted r.weight (whole_counts (plain_code p) q) ≡ least
