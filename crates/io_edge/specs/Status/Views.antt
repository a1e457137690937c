-- Rows of the code, as plain ones.
use Rattle.std.specs.Prelude.{ℕ, List, map}
use Rattle.std.specs.declared.option.Option.{Option}
use Rattle.std.proofs.Common.{Bor}
use Rattle.io_edge.specs.declared.status.row.StatusRow.{StatusRow}
use Rattle.io_edge.specs.Status.Rows.{PlainPart, PlainRow, row}

abbrev pub plain_part : Bor (List ℕ) × Option ℕ → PlainPart
plain_part part = (part.0.now, part.1)

abbrev pub plain_row : StatusRow → PlainRow
plain_row r = row r.code (map plain_part r.parts.items)
