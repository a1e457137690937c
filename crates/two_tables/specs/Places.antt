-- Places of a table's entries, and those of their factors.
use Rattle.std.specs.Prelude.{ℕ, zero, suc, ◌%◌, ◌==◌, ◌&&◌, Bool, true, false}
use Rattle.icode.specs.Plain.{PlainExpr, PlainParts, Sum, NoParts, AndParts, Proc, Var, Product, Rem, Quot}
use Rattle.two_tables.specs.Factors.{Cut}

-- at most a given number of multiples of the lanes, each of the processor's number or of loops' values
abbrev pub are_even : ℕ → ℕ → PlainParts → Bool
are_even lanes room NoParts = true
are_even lanes zero (AndParts part rest) = false
are_even lanes (suc room) (AndParts (Proc factor) rest) = factor % lanes == 0 && are_even lanes room rest
are_even lanes (suc room) (AndParts (Var depth factor) rest) = factor % lanes == 0 && are_even lanes room rest
are_even lanes (suc room) (AndParts (Product outer inner factor) rest) = factor % lanes == 0 && are_even lanes room rest
are_even lanes (suc room) (AndParts (Rem of divisor factor) rest) = false
are_even lanes (suc room) (AndParts (Quot of divisor factor) rest) = false

-- the place is a multiple of the lanes. Its factors' places have
-- twice its parts and three, and an expression has 64 at most
abbrev pub is_even : ℕ → PlainExpr → Bool
is_even lanes (Sum constant parts) = constant % lanes == 0 && are_even lanes 30 parts

-- the place by itself, divided
abbrev pub quotient_by : PlainExpr → ℕ → PlainExpr
quotient_by place divisor = Sum 0 (AndParts (Quot place divisor 1) NoParts)

-- where the factors of the entry at the place stand
abbrev pub place_in_first : Cut → PlainExpr → PlainExpr
place_in_first cut place = quotient_by place cut.width

abbrev pub place_in_second : Cut → PlainExpr → PlainExpr
place_in_second cut place =
    Sum 0 (AndParts (Rem place cut.width 1)
    (AndParts (Quot (quotient_by place cut.width) cut.across cut.width) NoParts))
