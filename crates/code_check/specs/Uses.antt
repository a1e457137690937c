-- Which processors have used a line, as a table keeps it.
use Rattle.std.specs.Prelude.{ℕ, ◌==◌, ◌+◌, ◌-◌, ◌*◌, ◌/◌, List, [], ◌∷◌, Bool, true, false, Option, Some, None, slice_index_or, slice_set, if◌then◌else◌}
use Rattle.icode.specs.declared.action.Action.{Action}
use Rattle.icode.specs.declared.action.Action.TheVariants.{Store}
use Rattle.icode.specs.Actions.{Step}
use Rattle.icode.specs.Machine.{lines_of, touched_words}
use Rattle.icode.specs.Plain.{PlainProgram}
use Rattle.code_check.specs.declared.lines.LineUse.{LineUse}
use Rattle.code_check.specs.declared.lines.Sharing.{Sharing}

-- how many lines the four arrays have
abbrev pub line_count : PlainProgram → ℕ
line_count p = 4 * ((p.size + (p.line - 1)) / p.line)

abbrev pub unused : LineUse
unused = record { writer = None; first = None; second = None }

-- the processor that is known, or else q
abbrev pub earliest : Option ℕ → ℕ → Option ℕ
earliest None q = Some q
earliest (Some r) q = Some r

-- the second processor, where q is the next one
abbrev pub second_with : Option ℕ → Option ℕ → ℕ → Option ℕ
second_with None second q = second
second_with (Some first) second q = if first == q then second else earliest second q

-- the line's use after q has touched it
abbrev pub touched_by : ℕ → Bool → LineUse → LineUse
touched_by q writes use_before =
    record {
      writer = if writes then earliest use_before.writer q else use_before.writer;
      first = earliest use_before.first q;
      second = second_with use_before.first use_before.second q;
    }

-- the table after q has touched the lines, one after another
abbrev pub touched_all : ℕ → Bool → List ℕ → List LineUse → List LineUse
touched_all q writes [] table = table
touched_all q writes (k ∷ ks) table =
    touched_all q writes ks (slice_set table k (touched_by q writes (slice_index_or table k unused)))

abbrev pub is_store : Action → Bool
is_store (Store address r) = true
is_store _ = false

-- the table after q has done a step
abbrev pub noted : PlainProgram → ℕ → Step → List LineUse → List LineUse
noted p q s table = touched_all q (is_store s.action) (lines_of p.line (touched_words p.lanes s.action)) table

-- a line's writer and the first other that touches it, by its use
abbrev pub sharing_with : ℕ → ℕ → Option ℕ → Option ℕ → Option ℕ → Option Sharing
sharing_with phase line None first second = None
sharing_with phase line (Some writer) None second = None
sharing_with phase line (Some writer) (Some first) None = None
sharing_with phase line (Some writer) (Some first) (Some second) =
    Some (record { phase = phase; line = line; a = writer; b = if first == writer then second else first })

abbrev pub sharing_of : ℕ → ℕ → LineUse → Option Sharing
sharing_of phase line e = sharing_with phase line e.writer e.first e.second

abbrev pub sooner : Option Sharing → Option Sharing → Option Sharing
sooner None later = later
sooner (Some s) later = Some s

-- the first line that is shared, where the entries are those of the lines from this one on
abbrev pub first_sharing : ℕ → ℕ → List LineUse → Option Sharing
first_sharing phase line [] = None
first_sharing phase line (e ∷ entries) = sooner (sharing_of phase line e) (first_sharing phase (line + 1) entries)
