-- A text as it is read, line by line, in any language.
use Rattle.std.specs.Prelude.{◌≡◌, ℕ, ◌+◌, List, [], ◌∷◌, ◌++◌, drop, length, Bool, true, false, ◌||◌, Option, Some, None, Result, Ok, Err, if◌then◌else◌}
use Rattle.std.specs.Option.{option_map}
use Rattle.icode.specs.Plain.{PlainBody, PlainProgram}
use Rattle.grammar.specs.Reading.{Place, word_in, whole}
use Rattle.listing_text.specs.declared.draft.Header.{Header}
use Rattle.listing_text.specs.declared.drafts.Refusal.{Refusal}
use Rattle.listing_text.specs.declared.drafts.Refusal.TheVariants as refusals
use Rattle.listing_text.specs.declared.progress.Progress.{Progress}
use Rattle.listing_text.specs.Wording.{PlainAct, Wording, program_of}
use Rattle.listing_text.specs.Drafts.{PlainDraft, plain_draft, act_step, read_step, is_empty, table_step, entered, header_step}

-- how the lines of a language are read: the first one, a table with one entry and up to a number more, and a phase's
pub record Grammar : Type 0 where
  pub header : Place ℕ → Result (Header × Place ℕ) ℕ
  pub table : ℕ → Place ℕ → Result ((ℕ × List ℕ) × Place ℕ) ℕ
  pub act : Place ℕ → Result (PlainAct × Place ℕ) ℕ

-- what was read of the program, and the text that has to come next
pub record PlainProgress : Type 0 where
  pub draft : PlainDraft
  pub owed : List ℕ

abbrev pub plain_progress : Progress → PlainProgress
plain_progress p = record { draft = plain_draft p.draft; owed = drop p.at p.owed.items }

-- nothing has to come next
abbrev pub free : PlainDraft → PlainProgress
free d = record { draft = d; owed = [] }

-- this text has to come, and the line is its front
abbrev pub owing : PlainDraft → List ℕ → List ℕ → Option PlainProgress
owing d text line = read_step (λ rest. Some (record { draft = d; owed = rest.1 })) (word_in line text)

-- what stands before the first phase
abbrev pub between_if : Wording → Bool → List ℕ
between_if w true = w.between
between_if w false = []

-- how the next phase begins
abbrev pub begin_text : Wording → Header → List PlainBody → List ℕ
begin_text w h phases = between_if w (is_empty phases) ++ w.phase h.regs (length phases)

-- the line is the first of a phase, or a table's
abbrev pub phase_or_table : Grammar → PlainDraft → List ℕ → Result (Unit {0} × List ℕ) ℕ → Option PlainProgress
phase_or_table g d line (Ok rest) = Some (record { draft = entered d; owed = rest.1 })
phase_or_table g d line (Err left) = option_map free (read_step (table_step d) (whole (g.table (length line)) line))

-- a line where nothing has to come next
abbrev pub free_step : Wording → Grammar → PlainDraft → List ℕ → Option PlainProgress
free_step w g d line =
    if d.is_inside
    then option_map free (read_step (act_step d) (whole g.act line))
    else phase_or_table g d line (word_in line (begin_text w d.header d.phases))

abbrev pub progress_step : Wording → Grammar → PlainProgress → List ℕ → Option PlainProgress
progress_step w g p line = if is_empty p.owed then free_step w g p.draft line else owing p.draft p.owed line

-- after the first line
abbrev pub begun : Wording → PlainDraft → PlainProgress
begun w d = record { draft = d; owed = w.front d.header }

-- ---- all lines

abbrev pub kept : {A : Type 0} → Option A → Option (Option A)
kept None = None
kept (Some p) = Some (Some p)

-- the first line is the header
abbrev pub step : Wording → Grammar → Option PlainProgress → List ℕ → Option (Option PlainProgress)
step w g None line = kept (option_map (begun w) (read_step header_step (whole g.header line)))
step w g (Some p) line = kept (progress_step w g p line)

-- a whole program has a phase, and ends after one
abbrev pub draft_ends : PlainDraft → Option PlainProgram
draft_ends d = if d.is_inside || is_empty d.phases then None else Some (program_of d.header d.tables d.phases)

abbrev pub finish : Option PlainProgress → Option PlainProgram
finish None = None
finish (Some p) = if is_empty p.owed then draft_ends p.draft else None

-- ---- what calls answer

-- what the step gives, or that it gives none
abbrev pub Goes : Result Progress Refusal → Option PlainProgress → Type 0
Goes (Ok p) step = step ≡ Some (plain_progress p)
Goes (Err refusals.Line) step = step ≡ None
Goes (Err refusals.NoMemory) step = Unit {0}

abbrev pub Steps : Result Progress Refusal → Option (Option PlainProgress) → Type 0
Steps (Ok p) step = step ≡ Some (Some (plain_progress p))
Steps (Err refusals.Line) step = step ≡ None
Steps (Err refusals.NoMemory) step = Unit {0}

abbrev pub progress_or_none : Option Progress → Option PlainProgress
progress_or_none None = None
progress_or_none (Some p) = Some (plain_progress p)
