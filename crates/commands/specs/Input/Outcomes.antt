-- What is right for a call, and what a fault of the outside leaves of it.
use Rattle.std.specs.Prelude.{◌≡◌, ◌≤◌, Bool, true, ℕ, List, [], ◌++◌, length}
use Rattle.std.specs.declared.option.Option.{Option}
use Rattle.std.specs.Io.KnownBytes.{Appends}
use Rattle.io_edge.specs.Told.{Coming, Consumes, Tells, known}
use Rattle.io_edge.specs.Taken.{AppendsPrefix}
use Rattle.spiral_words.specs.Statuses.Status.{IsDefined}
use Rattle.spiral_words.specs.declared.statuses.status.Status.{Status}
use Rattle.spiral_words.specs.declared.statuses.status.Status.TheVariants.{ReadFault, WriteFault}

-- what is right for a call
pub record Outcomes : Type 1 where
  -- how many bytes of its input are read at most
  pub most : ℕ
  -- the status and the text for the bytes of its input
  pub answer : List ℕ → Status → List ℕ → Type 0
  -- the text up to a failed read, by the bytes that were read, and whether the source has said that it ends
  pub broken : List ℕ → Type 0 → List ℕ → Type 0
  -- the text at which a write failed and what was taken of it, by the bytes that were read and those that are left
  pub cut : (read left text taken : List ℕ) → Type 0

-- status and output are right, by all the bytes that were to come, by those that are left of them, and by whether the
-- source has said that it ends
pub record Meets (outcomes : Outcomes) (bytes left : List ℕ) (ended : Bool) (before after : Option (List ℕ))
    (status : Status) : Type 0 where
  -- where nothing failed, they are an answer
  pub answer : IsDefined status → (text : List ℕ) × outcomes.answer bytes status text × Appends before after text
  -- a read failed: the bytes that came show no fault, and the output took the whole text up to there
  pub read_fault : status ≡ ReadFault → (read text : List ℕ) × (bytes ≡ read ++ left)
      × outcomes.broken read (ended ≡ true) text × Appends before after text
  -- a write failed at a text, of which the output took a front
  pub write_fault : status ≡ WriteFault → (read text : List ℕ) × (bytes ≡ read ++ left)
      × (took : AppendsPrefix before after text) × outcomes.cut read left text took.front

-- These bytes came, and with all that may be left status and output are right. A source that does not tell its bytes
-- may have any left
pub record SourceMeets (outcomes : Outcomes) (source source' : Coming) (before after : Option (List ℕ))
    (status : Status) : Type 0 where
  pub read : List ℕ
  pub consumed : Consumes source source' read
  pub few : length read ≤ outcomes.most
  pub meets : (left : List ℕ) → Tells (known source') left →
      Meets outcomes (read ++ left) left source'.told.ended before after status
