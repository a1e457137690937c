-- Small texts with what they mean. checks/c_meaning.py reads the rows of this file, and compares them with what
-- compilers make of the same texts: a row stands on one line
use Rattle.std.specs.Prelude.{ℕ, ℤ, pos, negsuc, List, [], ◌∷◌, ◌++◌, Bool, ◌&&◌, ◌==◌, true, false, codes, if◌then◌else◌}
use Rattle.c_meaning.specs.Types.{CType, Short, Int, Half, Long, Word, Wide, Bare, U, ULL, width, is_signed}
use Rattle.c_meaning.specs.Syntax.{Times, Over, Modulo, Plus, Minus, ShiftLeft, ShiftRight, Less, AtLeast, Equal, And, Or, Tight, Spaced, CExpr, Constant, Grouped, Cast, Complement, Two, Choice, is_read_so, Operator}
use Rattle.c_meaning.specs.Numbers.{Outcome, Undefined, Defined, int_eq}
use Rattle.c_meaning.specs.Scopes.{nothing, no_words, same_letters}
use Rattle.c_meaning.specs.Expressions.{type_of, value_of}
use Rattle.c_meaning.specs.Spelling.{expr_text}

-- a text, its tree, its type, and its value
pub record Row : Type 0 where
  pub text : List ℕ
  pub tree : CExpr
  pub type : CType
  pub value : Outcome ℤ

abbrev pub row : List ℕ → CExpr → CType → Outcome ℤ → Row
row text tree type value = record { text = text; tree = tree; type = type; value = value }

abbrev pub same_type : CType → CType → Bool
same_type a b = width a == width b && (if is_signed a then is_signed b else if is_signed b then false else true)

abbrev pub same_value : Outcome ℤ → Outcome ℤ → Bool
same_value Undefined Undefined = true
same_value (Defined x) (Defined y) = int_eq x y
same_value _ _ = false

abbrev pub holds : Row → Bool
holds r =
    same_letters (expr_text r.tree) r.text
    && (is_read_so r.tree
    && (same_type (type_of nothing r.tree) r.type && same_value (value_of nothing no_words r.tree) r.value))

abbrev pub is : ℤ → Outcome ℤ
is z = Defined z

-- constants
abbrev pub n : ℕ → CExpr
n number = Constant number Bare

abbrev pub u : ℕ → CExpr
u number = Constant number U

abbrev pub ull : ℕ → CExpr
ull number = Constant number ULL

-- an operator between spaces
abbrev pub two : Operator → CExpr → CExpr → CExpr
two operator left right = Two operator Spaced left right

-- a number below zero, as no constant has one
abbrev pub minus : ℕ → CExpr
minus number = Grouped (two Minus (n 0) (n number))

abbrev pub constants : List Row
constants =
    row (codes "0") (n 0) Int (is (pos 0))
    ∷ row (codes "2147483647") (n 2147483647) Int (is (pos 2147483647))
    ∷ row (codes "2147483648") (n 2147483648) Long (is (pos 2147483648))
    ∷ row (codes "9223372036854775807") (n 9223372036854775807) Long (is (pos 9223372036854775807))
    ∷ row (codes "4294967295u") (u 4294967295) Half (is (pos 4294967295))
    ∷ row (codes "4294967296u") (u 4294967296) Word (is (pos 4294967296))
    ∷ row (codes "17ULL") (ull 17) Word (is (pos 17))
    ∷ row (codes "18446744073709551615ULL") (ull 18446744073709551615) Word (is (pos 18446744073709551615))
    ∷ []

abbrev pub sums : List Row
sums =
    row (codes "2147483647 + 1") (two Plus (n 2147483647) (n 1)) Int Undefined
    ∷ row (codes "2147483647u + 1") (two Plus (u 2147483647) (n 1)) Half (is (pos 2147483648))
    ∷ row (codes "4294967295u + 1") (two Plus (u 4294967295) (n 1)) Half (is (pos 0))
    ∷ row (codes "2147483648 + 2147483648") (two Plus (n 2147483648) (n 2147483648)) Long (is (pos 4294967296))
    ∷ row (codes "4294967295u + 2147483648") (two Plus (u 4294967295) (n 2147483648)) Long (is (pos 6442450943))
    ∷ row (codes "18446744073709551615ULL + 2") (two Plus (ull 18446744073709551615) (n 2)) Word (is (pos 1))
    ∷ row (codes "3 - 5") (two Minus (n 3) (n 5)) Int (is (negsuc 1))
    ∷ row (codes "3u - 5") (two Minus (u 3) (n 5)) Half (is (pos 4294967294))
    ∷ row (codes "3ULL - 5") (two Minus (ull 3) (n 5)) Word (is (pos 18446744073709551614))
    ∷ row (codes "(0 - 2147483647) - 2") (two Minus (minus 2147483647) (n 2)) Int Undefined
    ∷ row (codes "(uint16_t)3 - (uint16_t)5") (two Minus (Cast Short (n 3)) (Cast Short (n 5))) Int (is (negsuc 1))
    ∷ row (codes "(uint16_t)((uint16_t)3 - (uint16_t)5)") (Cast Short (Grouped (two Minus (Cast Short (n 3)) (Cast Short (n 5))))) Short (is (pos 65534))
    ∷ []

abbrev pub products : List Row
products =
    row (codes "65536 * 65536") (two Times (n 65536) (n 65536)) Int Undefined
    ∷ row (codes "65536u * 65536") (two Times (u 65536) (n 65536)) Half (is (pos 0))
    ∷ row (codes "65536ULL * 65536") (two Times (ull 65536) (n 65536)) Word (is (pos 4294967296))
    ∷ row (codes "(uint16_t)65535 * (uint16_t)65535") (two Times (Cast Short (n 65535)) (Cast Short (n 65535))) Int Undefined
    ∷ row (codes "(uint32_t)65535 * (uint16_t)65535") (two Times (Cast Half (n 65535)) (Cast Short (n 65535))) Half (is (pos 4294836225))
    ∷ row (codes "18446744073709551615ULL * 18446744073709551615ULL") (two Times (ull 18446744073709551615) (ull 18446744073709551615)) Word (is (pos 1))
    ∷ row (codes "(unsigned __int128)18446744073709551615ULL * 18446744073709551615ULL") (two Times (Cast Wide (ull 18446744073709551615)) (ull 18446744073709551615)) Wide (is (pos 340282366920938463426481119284349108225))
    ∷ row (codes "(uint64_t)((unsigned __int128)18446744073709551613ULL * 18446744073709551614ULL % 17ULL)") (Cast Word (Grouped (two Modulo (two Times (Cast Wide (ull 18446744073709551613)) (ull 18446744073709551614)) (ull 17)))) Word (is (pos 2))
    ∷ []

abbrev pub quotients : List Row
quotients =
    row (codes "7 / 2") (two Over (n 7) (n 2)) Int (is (pos 3))
    ∷ row (codes "7 % 2") (two Modulo (n 7) (n 2)) Int (is (pos 1))
    ∷ row (codes "(0 - 7) / 2") (two Over (minus 7) (n 2)) Int (is (negsuc 2))
    ∷ row (codes "(0 - 7) % 2") (two Modulo (minus 7) (n 2)) Int (is (negsuc 0))
    ∷ row (codes "7 % (0 - 2)") (two Modulo (n 7) (minus 2)) Int (is (pos 1))
    ∷ row (codes "(0 - 1) / 2u") (two Over (minus 1) (u 2)) Half (is (pos 2147483647))
    ∷ row (codes "1 / 0") (two Over (n 1) (n 0)) Int Undefined
    ∷ row (codes "1 % 0") (two Modulo (n 1) (n 0)) Int Undefined
    ∷ row (codes "1ULL / 0") (two Over (ull 1) (n 0)) Word Undefined
    ∷ row (codes "(0 - 2147483647 - 1) / (0 - 1)") (two Over (Grouped (two Minus (two Minus (n 0) (n 2147483647)) (n 1))) (minus 1)) Int Undefined
    ∷ row (codes "(0 - 2147483647 - 1) % (0 - 1)") (two Modulo (Grouped (two Minus (two Minus (n 0) (n 2147483647)) (n 1))) (minus 1)) Int Undefined
    ∷ []

abbrev pub shifts : List Row
shifts =
    row (codes "1 << 30") (two ShiftLeft (n 1) (n 30)) Int (is (pos 1073741824))
    ∷ row (codes "1 << 31") (two ShiftLeft (n 1) (n 31)) Int Undefined
    ∷ row (codes "1u << 31") (two ShiftLeft (u 1) (n 31)) Half (is (pos 2147483648))
    ∷ row (codes "1u << 32") (two ShiftLeft (u 1) (n 32)) Half Undefined
    ∷ row (codes "1u << 31ULL") (two ShiftLeft (u 1) (ull 31)) Half (is (pos 2147483648))
    ∷ row (codes "3ULL << 63") (two ShiftLeft (ull 3) (n 63)) Word (is (pos 9223372036854775808))
    ∷ row (codes "1ULL << 64") (two ShiftLeft (ull 1) (n 64)) Word Undefined
    ∷ row (codes "1ULL << (0 - 1)") (two ShiftLeft (ull 1) (minus 1)) Word Undefined
    ∷ row (codes "(0 - 1) << 1") (two ShiftLeft (minus 1) (n 1)) Int Undefined
    ∷ row (codes "(0 - 7) >> 1") (two ShiftRight (minus 7) (n 1)) Int (is (negsuc 3))
    ∷ row (codes "18446744073709551615ULL >> 63") (two ShiftRight (ull 18446744073709551615) (n 63)) Word (is (pos 1))
    ∷ row (codes "1ULL >> 64") (two ShiftRight (ull 1) (n 64)) Word Undefined
    ∷ row (codes "(uint16_t)65535 << 15") (two ShiftLeft (Cast Short (n 65535)) (n 15)) Int (is (pos 2147450880))
    ∷ row (codes "(uint16_t)65535 << 16") (two ShiftLeft (Cast Short (n 65535)) (n 16)) Int Undefined
    ∷ row (codes "(unsigned __int128)3 << 127") (two ShiftLeft (Cast Wide (n 3)) (n 127)) Wide (is (pos 170141183460469231731687303715884105728))
    ∷ []

abbrev pub casts : List Row
casts =
    row (codes "(uint32_t)(0 - 1)") (Cast Half (minus 1)) Half (is (pos 4294967295))
    ∷ row (codes "(int)4294967295u") (Cast Int (u 4294967295)) Int (is (negsuc 0))
    ∷ row (codes "(uint16_t)65537") (Cast Short (n 65537)) Short (is (pos 1))
    ∷ row (codes "(uint32_t)18446744073709551615ULL") (Cast Half (ull 18446744073709551615)) Half (is (pos 4294967295))
    ∷ row (codes "(unsigned __int128)(0 - 1)") (Cast Wide (minus 1)) Wide (is (pos 340282366920938463463374607431768211455))
    ∷ []

abbrev pub bits : List Row
bits =
    row (codes "12 & 10") (two And (n 12) (n 10)) Int (is (pos 8))
    ∷ row (codes "12 | 10") (two Or (n 12) (n 10)) Int (is (pos 14))
    ∷ row (codes "(0 - 1) & 255ULL") (two And (minus 1) (ull 255)) Word (is (pos 255))
    ∷ row (codes "(0 - 8) | 3") (two Or (minus 8) (n 3)) Int (is (negsuc 4))
    ∷ row (codes "~0") (Complement (n 0)) Int (is (negsuc 0))
    ∷ row (codes "~0u") (Complement (u 0)) Half (is (pos 4294967295))
    ∷ row (codes "~(uint16_t)0") (Complement (Cast Short (n 0))) Int (is (negsuc 0))
    ∷ row (codes "~0ULL >> 32") (two ShiftRight (Complement (ull 0)) (n 32)) Word (is (pos 4294967295))
    ∷ []

abbrev pub comparisons : List Row
comparisons =
    row (codes "0 - 1 < 1") (two Less (two Minus (n 0) (n 1)) (n 1)) Int (is (pos 1))
    ∷ row (codes "0 - 1 < 1u") (two Less (two Minus (n 0) (n 1)) (u 1)) Int (is (pos 0))
    ∷ row (codes "0 - 1 < 2147483648") (two Less (two Minus (n 0) (n 1)) (n 2147483648)) Int (is (pos 1))
    ∷ row (codes "(0 - 1) >= 1ULL") (two AtLeast (minus 1) (ull 1)) Int (is (pos 1))
    ∷ row (codes "5 >= 5") (two AtLeast (n 5) (n 5)) Int (is (pos 1))
    ∷ row (codes "(0 - 1) == 4294967295u") (two Equal (minus 1) (u 4294967295)) Int (is (pos 1))
    ∷ row (codes "(uint16_t)(0 - 1) == 4294967295u") (two Equal (Cast Short (minus 1)) (u 4294967295)) Int (is (pos 0))
    ∷ row (codes "1 ? 2 : 1 / 0") (Choice (n 1) (n 2) (two Over (n 1) (n 0))) Int (is (pos 2))
    ∷ row (codes "0 ? 1 / 0 : 7ULL") (Choice (n 0) (two Over (n 1) (n 0)) (ull 7)) Word (is (pos 7))
    ∷ row (codes "1 ? (0 - 1) : 0u") (Choice (n 1) (minus 1) (u 0)) Half (is (pos 4294967295))
    ∷ row (codes "1 / 0 ? 2 : 3") (Choice (two Over (n 1) (n 0)) (n 2) (n 3)) Int Undefined
    ∷ []

abbrev pub places : List Row
places =
    row (codes "0+(0+(65536)/1*65536)%7*1") (Two Plus Tight (n 0) (Two Times Tight (Two Modulo Tight (Grouped (Two Plus Tight (n 0) (Two Times Tight (Two Over Tight (Grouped (n 65536)) (n 1)) (n 65536)))) (n 7)) (n 1))) Int Undefined
    ∷ row (codes "0ULL+(0ULL+(65536ULL)/1*65536)%7*1") (Two Plus Tight (ull 0) (Two Times Tight (Two Modulo Tight (Grouped (Two Plus Tight (ull 0) (Two Times Tight (Two Over Tight (Grouped (ull 65536)) (n 1)) (n 65536)))) (n 7)) (n 1))) Word (is (pos 4))
    ∷ []

abbrev pub rows : List Row
rows = constants ++ sums ++ products ++ quotients ++ shifts ++ casts ++ bits ++ comparisons ++ places
