-- Multiples and sums of sums as words make them, modulo 2 ^ 64.
use Rattle.std.specs.Prelude.{ℕ, ◌+◌, ◌*◌, ◌%◌, ◌^◌}
use Rattle.perm_algebra.specs.Affine.{Sum, constant, variable, remainder, quotient}

-- k times the constant and the factors
abbrev pub wrapped_multiple : ℕ → Sum → Sum
wrapped_multiple k (constant c) = constant (k * c % 2 ^ 64)
wrapped_multiple k (variable f d rest) = variable (k * f % 2 ^ 64) d (wrapped_multiple k rest)
wrapped_multiple k (remainder f of m rest) = remainder (k * f % 2 ^ 64) of m (wrapped_multiple k rest)
wrapped_multiple k (quotient f of m rest) = quotient (k * f % 2 ^ 64) of m (wrapped_multiple k rest)

-- c more at the constant
abbrev pub raised : ℕ → Sum → Sum
raised c (constant d) = constant ((c + d) % 2 ^ 64)
raised c (variable f d rest) = variable f d (raised c rest)
raised c (remainder f of m rest) = remainder f of m (raised c rest)
raised c (quotient f of m rest) = quotient f of m (raised c rest)

-- the parts of both, and the sum of the constants
abbrev pub wrapped_sum : Sum → Sum → Sum
wrapped_sum (constant c) e = raised c e
wrapped_sum (variable f d rest) e = variable f d (wrapped_sum rest e)
wrapped_sum (remainder f of m rest) e = remainder f of m (wrapped_sum rest e)
wrapped_sum (quotient f of m rest) e = quotient f of m (wrapped_sum rest e)
