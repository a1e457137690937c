-- What the program answers with: its exit code and its line on the note.
use Rattle.std.specs.Prelude.{◌≢◌, ℕ, List, codes}
use Rattle.io_edge.specs.Status.Rows.{line_of}
use Rattle.spiral_words.specs.declared.statuses.status.Status.{Status}
use Rattle.spiral_words.specs.declared.statuses.status.Status.TheVariants.{ReadFault, WriteFault, NoMemory}
use Rattle.spiral_words.specs.Statuses.Rows.{row_of}

abbrev pub code_of : Status → ℕ
code_of status = (row_of status).code

abbrev pub note_line : Status → List ℕ
note_line status = line_of (codes "spiral: ") (row_of status).parts

-- the words and the bytes call for the status: it is neither a fault of the outside nor want of memory
pub record IsDefined (status : Status) : Type 0 where
  pub read : status ≢ ReadFault
  pub write : status ≢ WriteFault
  pub memory : status ≢ NoMemory
