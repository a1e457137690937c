-- Words of a size.
use Rattle.std.specs.Prelude.{ℕ}
use Rattle.word_code.specs.declared.laziness.WordSize.{WordSize}
use Rattle.word_code.specs.declared.laziness.WordSize.TheVariants.{Of16, Of32, Of52, Of64}

-- how many bits words of the size have at most
abbrev pub bits_of : WordSize → ℕ
bits_of Of16 = 16
bits_of Of32 = 32
bits_of Of52 = 52
bits_of Of64 = 64
