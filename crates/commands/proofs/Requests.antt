-- What is known of a request.
use Rattle.std.proofs.Common.{◌<◌, ◌≤◌, arith}
use Rattle.matrix_meaning.specs.declared.Request.{Request}
use Rattle.matrix_meaning.specs.Valid.{IsInRange}

-- limits of a request in range
pub record HasLimits (r : Request) : Type 0 where
  pub size : 0 < r.size
  pub modulus : 0 < r.modulus
  pub procs : 0 < r.procs
  pub lanes : r.lanes ≤ 16
  pub weight : 1 ≤ r.weight
  pub budget : r.budget ≤ 1000000000000

pub limits : (r : Request) → IsInRange r → HasLimits r
limits r h = record {
  size = omega (arith, h.size.0);
  modulus = omega (arith, h.modulus.0);
  procs = omega (arith, h.procs.0);
  lanes = h.lanes.1;
  weight = h.weight.0;
  budget = h.budget.1;
}
