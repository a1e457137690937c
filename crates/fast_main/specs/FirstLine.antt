-- The comment that stands before a text of one lane, where several were asked for.
use Rattle.std.specs.Prelude.{ℕ, ◌==◌, ◌&&◌, List, [], ◌∷◌, codes, if◌then◌else◌}
use Rattle.io_edge.specs.Status.Rows.{line_of}
use Rattle.fast_main.specs.declared.status.Status.{Status}
use Rattle.fast_main.specs.declared.status.Status.TheVariants.{OneLane, OneLaneOfRegisters}
use Rattle.fast_main.specs.Rows.{row_of}

-- it says what the note says
abbrev pub first_line : Status → List ℕ
first_line (OneLane line fault) = line_of (codes "// ") (row_of (OneLane line fault)).parts
first_line OneLaneOfRegisters = line_of (codes "// ") (row_of OneLaneOfRegisters).parts
first_line status = []

-- what stands behind the line
abbrev pub behind_line : List ℕ → List ℕ
behind_line [] = []
behind_line (byte ∷ text) = if byte == 10 then text else behind_line text

-- a text without the comment of C that is its first line, if there is one: from // to the end of the line
abbrev pub without_comment : List ℕ → List ℕ
without_comment (x ∷ y ∷ text) = if (x == 47) && (y == 47) then behind_line text else x ∷ y ∷ text
without_comment text = text
