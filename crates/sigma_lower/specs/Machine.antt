-- A machine within the limits of requests.
use Rattle.std.specs.Prelude.{◌-◌, ◌^◌}
use Rattle.matrix_meaning.specs.Valid.{IsBetween}
use Rattle.operators.specs.Sizes.{max_size}
use Rattle.operators.specs.declared.target.Target.{Target}

pub record IsMachine (h : Target) : Type 0 where
  pub size : IsBetween 1 max_size h.size
  pub modulus : IsBetween 2 (2 ^ 62 - 1) h.modulus
  pub procs : IsBetween 1 16 h.procs
