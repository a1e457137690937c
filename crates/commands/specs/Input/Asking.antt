-- From the front of an input to what it orders.
use Rattle.std.specs.Prelude.{◌≡◌, ◌≤◌, ℕ, List, [], ◌++◌, length, Ok, Err, Result}
use Rattle.io_edge.specs.Told.{Coming, Consumes, IsOver}
use Rattle.io_edge.specs.Feed.{limit}
use Rattle.matrix_meaning.specs.declared.Request.{Request}
use Rattle.request_text.specs.declared.RequestFault.{RequestFault}
use Rattle.request_text.specs.Answer.{Answers}
use Rattle.spiral_words.specs.declared.statuses.status.Status.{Status}
use Rattle.spiral_words.specs.declared.statuses.status.Status.TheVariants.{ReadFault}
use Rattle.spiral_words.specs.Statuses.Fault.{status_of_request}
use Rattle.spiral_words.specs.Statuses.Status.{IsDefined}
use Rattle.commands.specs.Input.Stage.{Stage}
use Rattle.commands.specs.Equations.Front.{Front, MayGoOn, ordered}

-- the request that the line spells, if it is in range
abbrev pub spelt : List ℕ → Stage Request
spelt line (Ok request) = Answers line (Ok request)
spelt line (Err status) = (fault : RequestFault) × Answers line (Err fault) × (status ≡ status_of_request fault)

-- what the front orders, by the bytes that were read, whatever follows them, or, where the input has ended, as nothing
-- follows; or why it orders nothing
abbrev pub AsksBy : {A : Type 0} → Front → (List ℕ → Stage A) → List ℕ → Type 0 → ℕ → Result A Status → Type 0
AsksBy front orders read ended taken (Ok value) = (taken ≡ length read)
    × ((more : List ℕ) → (ended → more ≡ []) →
    ordered front orders (read ++ more) (Ok value) × (front.behind (read ++ more) ≡ more))
AsksBy front orders read ended taken (Err status) =
    (IsDefined status → (more : List ℕ) → (ended → more ≡ []) → ordered front orders (read ++ more) (Err status))
    × (status ≡ ReadFault → MayGoOn front read)

-- the same by a source
pub record Asks {A : Type 0} (front : Front) (orders : List ℕ → Stage A) (before after : Coming) (taken : ℕ)
    (result : Result A Status) : Type 0 where
  pub read : List ℕ
  pub consumed : Consumes before after read
  pub few : length read ≤ limit
  pub asks : AsksBy front orders read (IsOver after) taken result
