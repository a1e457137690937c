-- The stages of a run. A stage says what it is right to answer: a value to go on with, or the status that ends the run.
use Rattle.std.specs.Prelude.{◌≡◌, ◌⊎◌, ℕ, List, [], Ok, Err, Result}
use Rattle.spiral_words.specs.Statuses.Status.{IsDefined}
use Rattle.spiral_words.specs.declared.statuses.status.Status.{Status}
use Rattle.spiral_words.specs.declared.statuses.status.Status.TheVariants.{Success}

abbrev pub Stage : Type 0 → Type 1
Stage A = Result A Status → Type 0

-- exactly this answer
abbrev pub given : {A : Type 0} → Result A Status → Stage A
given answer result = result ≡ answer

-- the answer of the next stage is right for a value that is right in the first
pub record GoesOn {A B : Type 0} (first : Stage A) (next : A → Stage B) (result : Result B Status) : Type 0 where
  pub value : A
  pub before : first (Ok value)
  pub behind : next value result

-- a stage, and the next one where it does not end the run
infixl 10 ◌>>=◌
abbrev pub ◌>>=◌ : {A B : Type 0} → Stage A → (A → Stage B) → Stage B
(first >>= next) (Ok value) = GoesOn first next (Ok value)
(first >>= next) (Err status) = first (Err status) ⊎ GoesOn first next (Err status)

-- the status that a call ends with
abbrev pub status_of : Result (Unit {0}) Status → Status
status_of (Ok x) = Success
status_of (Err status) = status

-- what a call answers is right for the stage, unless the outside fails or memory runs out
abbrev pub Gives : {A : Type 0} → Result A Status → Stage A → Type 0
Gives (Ok value) stage = stage (Ok value)
Gives (Err status) stage = IsDefined status → stage (Err status)

-- What a call answers that goes by a stage over the front of its input

-- The status and the text: the stage gives no value, and nothing is written, or it gives one, and they are right for
-- this value
abbrev pub IsAnswerBy : {A : Type 0} → Stage A → (A → Status → List ℕ → Type 0) → Status → List ℕ → Type 0
IsAnswerBy {A} stage Settles status text =
    (stage (Err status) × (text ≡ []))
    ⊎ ((value : A) × stage (Ok value) × Settles value status text)

-- the front has ended, and the stage gives the value
pub record HasGiven {A : Type 0} (ended : Type 0) (stage : Stage A) (value : A) : Type 0 where
  pub front : ended
  pub gives : stage (Ok value)

-- The text up to a failed read: the front may go on, and nothing is written, or it has ended, and the text is right
-- for the value
abbrev pub IsBrokenBy : {A : Type 0} → Type 0 → Type 0 → Stage A → (A → List ℕ → Type 0) → List ℕ → Type 0
IsBrokenBy {A} unended ended stage BreaksOff text =
    (unended × (text ≡ []))
    ⊎ ((value : A) × HasGiven ended stage value × BreaksOff value text)

-- Up to a failed write: the front has ended, and what was to be written is right for the value
abbrev pub IsCutBy : {A : Type 0} → Type 0 → Stage A → (A → Type 0) → Type 0
IsCutBy {A} ended stage IsCut = (value : A) × HasGiven ended stage value × IsCut value
