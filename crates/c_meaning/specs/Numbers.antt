-- What operators make of numbers of a type, and where they are undefined.
use Rattle.std.specs.Prelude.{ℕ, zero, ◌-◌, ◌*◌, ◌/◌, ◌%◌, ◌^◌, ℤ, pos, negsuc, ◌+ℤ◌, ◌-ℤ◌, ◌*ℤ◌, Bool, true, false, nat_lt, ◌==◌, ◌&&◌, int_lt, int_div, int_rem, bit_and, bit_or, if◌then◌else◌}
use Rattle.c_meaning.specs.Types.{CType, width, is_signed, room}
use Rattle.c_meaning.specs.Syntax.{Operator, Times, Over, Modulo, Plus, Minus, ShiftLeft, ShiftRight, Less, AtLeast, Equal, And, Or}

-- what C says of a step: a value, or nothing at all
pub data Outcome (A : Type 0) : Type 0 where
  Undefined : Outcome A
  Defined : A → Outcome A

-- one step after another
infixl 10 ◌>>=◌
abbrev pub ◌>>=◌ : {A B : Type 0} → Outcome A → (A → Outcome B) → Outcome B
Undefined >>= next = Undefined
(Defined value) >>= next = next value

-- the rest of z by m, from 0 up to m - 1
abbrev pub rest_of : ℤ → ℕ → ℕ
rest_of (pos n) m = n % m
rest_of (negsuc n) m = m - 1 - n % m

-- the bits of z in a type, as a number
abbrev pub bits_of : CType → ℤ → ℕ
bits_of type z = rest_of z (2 ^ width type)

-- the number with these bits in the type
abbrev pub of_bits : CType → ℕ → ℤ
of_bits type n = if nat_lt n (room type) then pos n else negsuc (2 ^ width type - 1 - n)

-- A conversion (C11, 6.3.1.3): an unsigned type wraps, and a signed one too, as GCC and Clang say of theirs
abbrev pub converted : CType → ℤ → ℤ
converted type z = of_bits type (bits_of type z)

abbrev pub fits : CType → ℤ → Bool
fits type (pos n) = nat_lt n (room type)
fits type (negsuc n) = is_signed type && nat_lt n (room type)

-- a result in its type: unsigned arithmetic wraps, and signed arithmetic has none where the number does not fit
abbrev pub settled : CType → ℤ → Outcome ℤ
settled type z = if is_signed type then (if fits type z then Defined z else Undefined) else Defined (converted type z)

-- a quotient, which is rounded toward zero, and a remainder; none by 0, and none where the quotient does not fit
abbrev pub divided : CType → ℤ → ℤ → ℤ → Outcome ℤ
divided type x (pos zero) z = Undefined
divided type x y z = settled type (int_div x y) >>= λ quotient. Defined z

-- a shift by less than the width; to the left of no number below zero
abbrev pub shifted : CType → ℤ → ℤ → (ℕ → Outcome ℤ) → Outcome ℤ
shifted type x (pos n) result = if nat_lt n (width type) then result n else Undefined
shifted type x (negsuc n) result = Undefined

abbrev pub shifted_left : CType → ℤ → ℕ → Outcome ℤ
shifted_left type (pos x) n = settled type (pos (x * 2 ^ n))
shifted_left type (negsuc x) n = Undefined

-- to the right a number below zero keeps its sign, as GCC and Clang say
abbrev pub shifted_right : ℤ → ℕ → ℤ
shifted_right (pos x) n = pos (x / 2 ^ n)
shifted_right (negsuc x) n = negsuc (x / 2 ^ n)

abbrev pub truth : Bool → ℤ
truth true = pos 1
truth false = pos 0

abbrev pub int_eq : ℤ → ℤ → Bool
int_eq (pos x) (pos y) = x == y
int_eq (negsuc x) (negsuc y) = x == y
int_eq _ _ = false

-- what an operator gives for two numbers of the type in which it computes
abbrev pub combined : Operator → CType → ℤ → ℤ → Outcome ℤ
combined Times type x y = settled type (x *ℤ y)
combined Over type x y = divided type x y (int_div x y)
combined Modulo type x y = divided type x y (int_rem x y)
combined Plus type x y = settled type (x +ℤ y)
combined Minus type x y = settled type (x -ℤ y)
combined ShiftLeft type x y = shifted type x y (shifted_left type x)
combined ShiftRight type x y = shifted type x y (λ n. Defined (shifted_right x n))
combined Less type x y = Defined (truth (int_lt x y))
combined AtLeast type x y = Defined (truth (if int_lt x y then false else true))
combined Equal type x y = Defined (truth (int_eq x y))
combined And type x y = Defined (of_bits type (bit_and (bits_of type x) (bits_of type y)))
combined Or type x y = Defined (of_bits type (bit_or (bits_of type x) (bits_of type y)))

-- all bits of a number of the type turned
abbrev pub complement : CType → ℤ → ℤ
complement type x = of_bits type (2 ^ width type - 1 - bits_of type x)
