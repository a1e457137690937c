-- A program as it is read, line by line, and the lines of a listing outside of phases.
use Rattle.std.specs.Prelude.{◌≡◌, ℕ, ◌-◌, ◌^◌, List, [], ◌∷◌, ◌++◌, length, reverse, map, Bool, true, false, ◌&&◌, ◌==◌, nat_lt, nat_le, codes, Option, Some, None, Result, Ok, Err, if◌then◌else◌}
use Rattle.std.specs.List.{list_all}
use Rattle.icode.specs.Plain.{PlainStmt, PlainBody, Loop, body_of, plain_stmt, plain_tables, plain_phases}
use Rattle.icode.specs.Plain as plain
use Rattle.icode.specs.Limits.{is_small_positive, is_op_within}
use Rattle.grammar.specs.declared.token.ReadError.{ReadError}
use Rattle.grammar.specs.declared.token.ReadError.TheVariants as errors
use Rattle.grammar.specs.Reading.{Place, ◌>>=◌, pure_at, word_at, named_number_at, numbers_at}
use Rattle.listing_text.specs.declared.draft.Header.{Header}
use Rattle.listing_text.specs.declared.draft.Level.{Level}
use Rattle.listing_text.specs.declared.draft.Draft.{Draft}
use Rattle.listing_text.specs.declared.drafts.Refusal.{Refusal}
use Rattle.listing_text.specs.declared.drafts.Refusal.TheVariants as refusals
use Rattle.listing_text.specs.Reading.{above_all}
use Rattle.listing_text.specs.Wording.{PlainAct, Open, Close, Do}
use Rattle.operators.specs.Sizes.{max_size}

-- ---- the lines outside of phases

-- the numbers of a header, the first after this word and the last before that one
abbrev pub header_at : List ℕ → List ℕ → Place ℕ → Result (Header × Place ℕ) ℕ
header_at before behind = do
  size ← named_number_at before above_all
  modulus ← named_number_at (codes " mod ") above_all
  procs ← named_number_at (codes " procs ") above_all
  line ← named_number_at (codes " line ") above_all
  lanes ← named_number_at (codes " lanes ") above_all
  regs ← named_number_at (codes " regs ") above_all
  _ ← word_at behind
  pure_at record { size = size; modulus = modulus; procs = procs; line = line; lanes = lanes; regs = regs }

abbrev pub is_between : ℕ → ℕ → ℕ → Bool
is_between low high n = nat_le low n && nat_le n high

abbrev pub is_header_within : Header → Bool
is_header_within h =
    is_between 1 max_size h.size && (is_between 2 (2 ^ 62 - 1) h.modulus && (is_between 1 16 h.procs && (is_between 1 64 h.line && (is_between 1 16 h.lanes && nat_lt h.regs (2 ^ 20)))))

-- a table's number and its entries: one, and up to a given number more
abbrev pub table_at : ℕ → Place ℕ → Result ((ℕ × List ℕ) × Place ℕ) ℕ
table_at most = do
  number ← named_number_at (codes "table ") above_all
  _ ← word_at (codes " values ")
  entries ← numbers_at (codes " ") above_all most
  _ ← word_at (codes "\n")
  pure_at (number, entries)

-- ---- what was read so far

-- an open loop: its count, and the statements that stand before it
pub record PlainLevel : Type 0 where
  pub count : ℕ
  pub before : List PlainStmt

-- inside a phase the open loops, the innermost first, and the statements of the innermost
pub record PlainDraft : Type 0 where
  pub header : Header
  pub tables : List (List ℕ)
  pub phases : List PlainBody
  pub is_inside : Bool
  pub open_loops : List PlainLevel
  pub body : List PlainStmt

abbrev pub plain_level : Level → PlainLevel
plain_level l = record { count = l.count; before = map plain_stmt l.before.items }

abbrev pub plain_draft : Draft → PlainDraft
plain_draft d = record {
  header = d.header;
  tables = plain_tables d.tables.items;
  phases = plain_phases d.phases.items;
  is_inside = d.is_inside;
  open_loops = reverse (map plain_level d.open_loops.items);
  body = map plain_stmt d.body.items;
}

-- ---- one line more

abbrev pub blank : Header → PlainDraft
blank h = record { header = h; tables = []; phases = []; is_inside = false; open_loops = []; body = [] }

abbrev pub with_body : PlainDraft → List PlainStmt → PlainDraft
with_body d body = record { header = d.header; tables = d.tables; phases = d.phases; is_inside = true; open_loops = d.open_loops; body = body }

abbrev pub opened : PlainDraft → ℕ → PlainDraft
opened d count = record { header = d.header; tables = d.tables; phases = d.phases; is_inside = true; open_loops = record { count = count; before = d.body } ∷ d.open_loops; body = [] }

abbrev pub closed : PlainDraft → List PlainLevel → PlainDraft
closed d [] = record { header = d.header; tables = d.tables; phases = d.phases ++ body_of d.body ∷ []; is_inside = false; open_loops = []; body = [] }
closed d (level ∷ open_loops) = record {
  header = d.header;
  tables = d.tables;
  phases = d.phases;
  is_inside = true;
  open_loops = open_loops;
  body = level.before ++ Loop level.count (body_of d.body) ∷ [];
}

-- the same number of loops are open, and one more may be
abbrev pub may_open : ℕ → ℕ → ℕ → Bool
may_open open_loops depth count = depth == open_loops && (nat_lt open_loops 64 && is_small_positive count)

abbrev pub act_step : PlainDraft → PlainAct → Option PlainDraft
act_step d (Open depth count) = if may_open (length d.open_loops) depth count then Some (opened d count) else None
act_step d Close = Some (closed d d.open_loops)
act_step d (Do op) = if is_op_within d.header.modulus op (length d.open_loops) then Some (with_body d (d.body ++ plain.Do op ∷ [])) else None

abbrev pub read_step : {A B : Type 0} → (A → Option B) → Result A ℕ → Option B
read_step step (Ok x) = step x
read_step step (Err left) = None

abbrev pub is_empty : {A : Type 0} → List A → Bool
is_empty [] = true
is_empty (x ∷ xs) = false

-- the table is the next one, stands before all phases, and has residues
abbrev pub may_hold : PlainDraft → ℕ × List ℕ → Bool
may_hold d table = table.0 == length d.tables && (is_empty d.phases && list_all (λ c. nat_lt c d.header.modulus) table.1)

abbrev pub table_step : PlainDraft → ℕ × List ℕ → Option PlainDraft
table_step d table =
    if may_hold d table then Some (record { header = d.header; tables = d.tables ++ table.1 ∷ []; phases = d.phases; is_inside = false; open_loops = []; body = [] }) else None

abbrev pub entered : PlainDraft → PlainDraft
entered d = record { header = d.header; tables = d.tables; phases = d.phases; is_inside = true; open_loops = []; body = [] }

abbrev pub header_step : Header → Option PlainDraft
header_step h = if is_header_within h then Some (blank h) else None

-- ---- what calls answer

-- the draft that the step gives, or that it gives none
abbrev pub Makes : Result Draft Refusal → Option PlainDraft → Type 0
Makes (Ok d) step = step ≡ Some (plain_draft d)
Makes (Err refusals.Line) step = step ≡ None
Makes (Err refusals.NoMemory) step = Unit {0}

abbrev pub refusal_of : ReadError → Refusal
refusal_of (errors.Stuck stuck) = refusals.Line
refusal_of errors.NoMemory = refusals.NoMemory
