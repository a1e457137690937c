-- The inverse of a number modulo m.
use Rattle.std.specs.Prelude.{ℕ, zero, suc, ◌*◌, ◌%◌, ◌==◌, if◌then◌else◌}

-- the greatest number below n that times a is 1 modulo m, and 0 where there is none
unfoldable pub inverse_below : ℕ → ℕ → ℕ → ℕ
inverse_below m a zero = 0
inverse_below m a (suc c) = if (a * c) % m == 1 % m then c else inverse_below m a c

-- The residue modulo m that times a is 1, and 0 where a and m share a factor. No two residues are such
unfoldable pub inverse_mod : ℕ → ℕ → ℕ
inverse_mod m a = inverse_below m a m
