-- The types of C that our texts use, as GCC and Clang have them on machines of 64 bits.
use Rattle.std.specs.Prelude.{ℕ, ◌-◌, ◌^◌, Bool, true, false, nat_lt, if◌then◌else◌}

pub data CType : Type 0 where
  -- uint16_t
  Short : CType
  -- int
  Int : CType
  -- uint32_t
  Half : CType
  -- int64_t, which is long; long long has the same numbers
  Long : CType
  -- uint64_t, which is unsigned long; unsigned long long has the same numbers
  Word : CType
  -- unsigned __int128
  Wide : CType

abbrev pub width : CType → ℕ
width Short = 16
width Int = 32
width Half = 32
width Long = 64
width Word = 64
width Wide = 128

abbrev pub is_signed : CType → Bool
is_signed Short = false
is_signed Int = true
is_signed Half = false
is_signed Long = true
is_signed Word = false
is_signed Wide = false

-- the numbers of a signed type lie from -room up to room - 1, and those of an unsigned one from 0 up to room - 1
abbrev pub room : CType → ℕ
room type = if is_signed type then 2 ^ (width type - 1) else 2 ^ width type

-- The integer promotions (C11, 6.3.1.1): a narrower type than int becomes int, which has all its numbers
abbrev pub promoted : CType → CType
promoted Short = Int
promoted type = type

-- The usual arithmetic conversions (C11, 6.3.1.8), of two promoted types: to the wider one, since it has the greater
-- rank, and a wider signed type has all numbers of a narrower unsigned one; of two types of one width to the unsigned
-- one
abbrev pub wider : CType → CType → CType
wider a b =
    if nat_lt (width a) (width b) then b else if nat_lt (width b) (width a) then a else if is_signed a then b else a

abbrev pub common : CType → CType → CType
common a b = wider (promoted a) (promoted b)

-- what stands after the digits of a constant
pub data Suffix : Type 0 where
  Bare : Suffix
  U : Suffix
  ULL : Suffix

-- The type of a decimal constant (C11, 6.4.4.1): the first of a list that has its number. No constant without a suffix
-- is unsigned
abbrev pub constant_type : Suffix → ℕ → CType
constant_type Bare n = if nat_lt n (room Int) then Int else Long
constant_type U n = if nat_lt n (room Half) then Half else Word
constant_type ULL n = Word
