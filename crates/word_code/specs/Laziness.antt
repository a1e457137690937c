-- How lazy the words of a program are, by the size of words that is asked for. A greater limit of registers than 16
-- times the modulus is of no use, and A and B are kept below what products are below, where their words are added up.
use Rattle.std.specs.Prelude.{ℕ, ◌/◌, ◌%◌, ◌==◌, ◌&&◌, ◌||◌, min, nat_lt, Bool, true, false, Option, Some, None}
use Rattle.std.specs.Prelude.{if◌then◌else◌}
use Rattle.word_code.specs.declared.laziness.WordSize.{WordSize}
use Rattle.word_code.specs.declared.laziness.WordSize.TheVariants.{Of16, Of32, Of52, Of64}
use Rattle.icode.specs.Plain.{PlainProgram}
use Rattle.word_code.specs.WordProgram.{PlainWordProgram}
use Rattle.word_code.specs.Words.{Width, product_bound}
use Rattle.word_code.specs.Quicken.{PlainLaziness, quickened}

-- where this is the greatest word
abbrev pub limit_within : ℕ → ℕ → ℕ
limit_within greatest modulus = min 16 (greatest / modulus)

abbrev pub lazy_within : Width → ℕ → PlainLaziness
lazy_within width limit =
    record {
      width = width;
      kept = record { of_a = product_bound width; of_b = product_bound width };
      limit = limit;
    }

-- in words of 16 bits
abbrev pub short : ℕ → PlainLaziness
short modulus = lazy_within (record { half = 256; rough = false }) (limit_within 65535 modulus)

-- in words of 32 bits
abbrev pub narrow : ℕ → PlainLaziness
narrow modulus = lazy_within (record { half = 65536; rough = false }) (limit_within 4294967295 modulus)

-- in words of 52 bits
abbrev pub middle : ℕ → PlainLaziness
middle modulus = lazy_within (record { half = 67108864; rough = false }) (limit_within 4503599627370495 modulus)

-- in words of 64 bits. With several lanes the high half of a product is made of three partial products
abbrev pub wide : ℕ → ℕ → PlainLaziness
wide modulus lanes =
    lazy_within (record { half = 4294967296; rough = nat_lt 1 lanes }) (limit_within 18446744073709551615 modulus)

-- the modulus is less than half of the words' base
abbrev pub allows : WordSize → ℕ → Bool
allows Of16 modulus = nat_lt modulus 32768
allows Of32 modulus = nat_lt modulus 2147483648
allows Of52 modulus = nat_lt modulus 2251799813685248
allows Of64 modulus = true

-- Whether words of 32 bits are taken by themselves: the modulus allows them and, where several processors share the
-- work, 64 bytes of such words, as the machine's lines have, never end inside a line of the program
abbrev pub takes_narrow : PlainProgram → Bool
takes_narrow p = nat_lt p.modulus 2147483648 && ((p.procs == 1) || (p.line % 16 == 0))

-- the size of words that is asked for. Where none is, 32 bits or else 64
abbrev pub size_for : Option WordSize → PlainProgram → WordSize
size_for (Some size) p = size
size_for None p = if takes_narrow p then Of32 else Of64

abbrev pub laziness_for : WordSize → ℕ → ℕ → PlainLaziness
laziness_for Of16 modulus lanes = short modulus
laziness_for Of32 modulus lanes = narrow modulus
laziness_for Of52 modulus lanes = middle modulus
laziness_for Of64 modulus lanes = wide modulus lanes

-- the program on words
abbrev pub fast_words : WordSize → PlainProgram → PlainWordProgram
fast_words size p = quickened (laziness_for size p.modulus p.lanes) p
