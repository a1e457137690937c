-- How many bytes words and lines have in memory.
use Rattle.std.specs.Prelude.{ℕ, ◌*◌, ◌==◌, if◌then◌else◌}
use Rattle.word_code.specs.WordProgram.{PlainWordProgram}

-- by the square root of the words' base; words of 52 bits stand in words of 64
abbrev pub bytes_of_word : ℕ → ℕ
bytes_of_word half = if half == 256 then 2 else (if half == 65536 then 4 else 8)

abbrev pub bytes_of_line : PlainWordProgram → ℕ
bytes_of_line p = p.frame.line * bytes_of_word p.width.half
