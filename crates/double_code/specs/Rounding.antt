-- Whole numbers as doubles. A double has 53 binary digits, so numbers up to 2 ^ 53 are doubles, and greater ones are
-- multiples of a power of 2.
use Rattle.std.specs.Prelude.{◌≡◌, ℕ, suc, ◌+◌, ◌-◌, ◌*◌, ◌/◌, ◌%◌, ◌^◌, ℤ, pos, negsuc, neg_ℤ, ◌+ℤ◌, ◌-ℤ◌, ◌*ℤ◌}
use Rattle.std.specs.Prelude.{nat_lt, unsigned_abs, if◌then◌else◌}
use Rattle.std.specs.Float.Ieee.{size}

-- the whole number nearest to n / d; of two that are as near, the even one
unfoldable pub nearest_of : ℕ → ℕ → ℕ
nearest_of n d =
    let twice = 2 * (n % d) in
    if nat_lt twice d then n / d else (if nat_lt d twice then n / d + 1 else n / d + n / d % 2)

-- how far apart doubles are from n on: n has `size n` binary digits
unfoldable pub spacing : ℕ → ℕ
spacing n = 2 ^ (size n - 53)

-- the double nearest to n / d, where that is 2 ^ 52 or more or d is 1
unfoldable pub nearest_double : ℕ → ℕ → ℕ
nearest_double n d = nearest_of n (d * spacing (n / d)) * spacing (n / d)

-- f of the number without its sign, with the sign
abbrev pub with_sign : (ℕ → ℕ) → ℤ → ℤ
with_sign f (pos n) = pos (f n)
with_sign f (negsuc n) = neg_ℤ (pos (f (suc n)))

-- the whole number nearest to z / d
abbrev pub nearest : ℤ → ℕ → ℤ
nearest z d = with_sign (λ n. nearest_of n d) z

-- the double nearest to z
abbrev pub rounded : ℤ → ℤ
rounded z = with_sign (λ n. nearest_double n 1) z

abbrev pub IsDouble : ℤ → Type 0
IsDouble z = rounded z ≡ z

-- Doubles from 2 ^ 52 to 2 ^ 53 are the whole numbers, and this is the middle of them
abbrev pub rounding_constant : ℕ
rounding_constant = 3 * 2 ^ 51

-- h * k / 2 ^ e to a whole number, as doubles do it: the rounding constant is added, in one operation that rounds, and
-- taken off
abbrev pub double_quotient : ℕ → ℕ → ℤ → ℤ
double_quotient k e h =
    rounded (pos (nearest_double (unsigned_abs (pos (rounding_constant * 2 ^ e) +ℤ h *ℤ pos k)) (2 ^ e))
    -ℤ pos rounding_constant)
