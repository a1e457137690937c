-- Sums of variables as expressions of code.
use Rattle.std.specs.Prelude.{ℕ, zero, suc, ◌+◌, ◌==◌, if◌then◌else◌}
use Rattle.icode.specs.Plain.{PlainExpr, PlainParts, Sum, NoParts, AndParts, Proc, Var, Rem, Quot}
use Rattle.sigma_spl.specs.Shared.Machine.{PlainFrame}
use Rattle.perm_algebra.specs.Affine.{Sum as LoopSum, constant, variable, remainder, quotient}
use Rattle.perm_algebra.specs.Room.{constant_of}

-- the factor of a variable, all its parts together
abbrev pub factor_at : ℕ → LoopSum → ℕ
factor_at d (constant c) = 0
factor_at d (variable f e rest) = if d == e then f + factor_at d rest else factor_at d rest
factor_at d (remainder f of m rest) = factor_at d rest
factor_at d (quotient f of m rest) = factor_at d rest

-- the parts of n loops from depth d on, before other parts; a variable whose factor is 0 has none
abbrev pub variables_of : PlainFrame → ℕ → ℕ → LoopSum → PlainParts → PlainParts
variables_of f zero d e parts = parts
variables_of f (suc n) d e parts =
    if factor_at (f.first_loop + d) e == 0 then variables_of f n (d + 1) e parts
    else AndParts (Var d (factor_at (f.first_loop + d) e)) (variables_of f n (d + 1) e parts)

-- the part of the processor, where several share the pass, before other parts
abbrev pub processor_of : PlainFrame → LoopSum → PlainParts → PlainParts
processor_of f e parts =
    if f.shared then (if factor_at 0 e == 0 then parts else AndParts (Proc (factor_at 0 e)) parts) else parts

-- the constant, the processor, the variables by rising depth, and other
-- parts; the lane has no part, so that the place is that of the first lane
abbrev pub sum_of : PlainFrame → ℕ → LoopSum → PlainParts → PlainExpr
sum_of f open_loops e parts = Sum (constant_of e) (processor_of f e (variables_of f open_loops 0 e parts))

-- the remainders, before other parts, and the quotients
abbrev mutual
  pub remainders_of : PlainFrame → ℕ → LoopSum → PlainParts → PlainParts
  remainders_of f open_loops (constant c) parts = parts
  remainders_of f open_loops (variable k d rest) parts = remainders_of f open_loops rest parts
  remainders_of f open_loops (remainder k of m rest) parts =
      AndParts (Rem (sum_of f open_loops of (remainders_of f open_loops of (quotients_of f open_loops of))) m k)
      (remainders_of f open_loops rest parts)
  remainders_of f open_loops (quotient k of m rest) parts = remainders_of f open_loops rest parts

  pub quotients_of : PlainFrame → ℕ → LoopSum → PlainParts
  quotients_of f open_loops (constant c) = NoParts
  quotients_of f open_loops (variable k d rest) = quotients_of f open_loops rest
  quotients_of f open_loops (remainder k of m rest) = quotients_of f open_loops rest
  quotients_of f open_loops (quotient k of m rest) =
      AndParts (Quot (sum_of f open_loops of (remainders_of f open_loops of (quotients_of f open_loops of))) m k)
      (quotients_of f open_loops rest)

-- all remainders stand before the quotients
abbrev pub divisions_of : PlainFrame → ℕ → LoopSum → PlainParts
divisions_of f open_loops e = remainders_of f open_loops e (quotients_of f open_loops e)

-- a sum as an expression, given how many loops are open
abbrev pub expr_of : PlainFrame → ℕ → LoopSum → PlainExpr
expr_of f open_loops e = sum_of f open_loops e (divisions_of f open_loops e)
