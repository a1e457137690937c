-- Functions that a formula undoes, and that formula.
use Rattle.std.specs.Prelude.{◌≡◌, ℕ, zero, suc, ◌*◌, ◌%◌, ◌^◌, ◌==◌, nat_lt, Bool, true, false, not, ◌&&◌, ◌||◌}
use Rattle.std.specs.Prelude.{if◌then◌else◌}
use Rattle.index_fn.specs.Mapping.{Mapping, Same, Always, Line, Strided, ThomasIn, ThomasOut, ThomasBack, Listed}
use Rattle.index_fn.specs.Mapping.{Paired, After}

-- the greatest multiple of s below r * s that leaves 1 by r
abbrev pub unit_below : ℕ → ℕ → ℕ → ℕ
unit_below r s zero = 0
unit_below r s (suc k) = if (s * k) % r == 1 % r then s * k else unit_below r s k

-- a number below the bound that times s leaves 1 by r, and times r leaves 1 by s
abbrev pub inverse_below : ℕ → ℕ → ℕ → ℕ
inverse_below r s zero = 0
inverse_below r s (suc b) =
    if (s * b) % r == 1 % r && (r * b) % s == 1 % s then b else inverse_below r s b

-- a number of times a number below n, reduced: L(n, 1) is the identity of n items
abbrev pub multiple_below : ℕ → ℕ → Mapping
multiple_below n times = After (Paired (Always 0) 0 Same n) (After (Line 0 times) (Strided 1 n))

-- the permutation that undoes one
abbrev pub back_of : Mapping → Mapping
back_of (Strided r s) = Strided s r
back_of (ThomasIn r s) = After (ThomasOut r s) (multiple_below (r * s) (inverse_below r s (r * s)))
back_of (ThomasOut r s) = ThomasBack r s (unit_below r s r) (unit_below s r s)
back_of (ThomasBack r s u v) = ThomasOut r s
back_of (Paired f c g d) = Paired (back_of f) c (back_of g) d
back_of (After f g) = After (back_of g) (back_of f)
back_of f = f

-- whether it has a size
abbrev pub has_size : Mapping → Bool
has_size Same = false
has_size (Always value) = false
has_size (Line base step) = false
has_size (Strided r s) = true
has_size (ThomasIn r s) = true
has_size (ThomasOut r s) = true
has_size (ThomasBack r s e g) = true
has_size (Listed places) = true
has_size (Paired f c g d) = has_size f
has_size (After f g) = has_size g

abbrev pub is_same : Mapping → Bool
is_same Same = true
is_same (Always value) = false
is_same (Line base step) = false
is_same (Strided r s) = false
is_same (ThomasIn r s) = false
is_same (ThomasOut r s) = false
is_same (ThomasBack r s e g) = false
is_same (Listed places) = false
is_same (Paired f c g d) = false
is_same (After f g) = false

-- a formula undoes it part by part: it has no list, all numbers stay words, and of a size it is no composition, and
-- no tensor but one with the identity
abbrev pub has_back : Mapping → Bool
has_back Same = true
has_back (Always value) = true
has_back (Line base step) = true
has_back (Strided r s) = true
has_back (ThomasIn r s) = nat_lt (r * s) (2 ^ 32)
has_back (ThomasOut r s) = nat_lt (r * s) (2 ^ 32)
has_back (ThomasBack r s e g) = true
has_back (Listed places) = false
has_back (Paired f c g d) = (has_back f && has_back g) && (not (has_size f) || (c == d && is_same g))
has_back (After f g) = (has_back f && has_back g) && not (has_size g)

abbrev pub HasBack : Mapping → Type 0
HasBack f = has_back f ≡ true
