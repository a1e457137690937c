-- What a command does after its front: it writes a text, or one for the vectors of the data, or it judges all that
-- is there.
use Rattle.std.specs.Prelude.{◌≡◌, ◌⊎◌, ℕ, ◌+◌, ◌%◌, ◌≤◌, List, [], ◌∷◌, ◌++◌, length, Result}
use Rattle.plan_cert.specs.declared.verdict.Verdict.{Verdict}
use Rattle.data_stream.specs.Data.{tokens, closed_part}
use Rattle.spiral_words.specs.declared.statuses.status.Status.{Status}
use Rattle.spiral_words.specs.declared.statuses.status.Status.TheVariants.{Success}
use Rattle.spiral_words.specs.Statuses.Fault.{status_of_fault, status_of_stream}
use Rattle.runs.specs.Progress.{lacking}
use Rattle.runs.specs.Stream.{vectors_of, data_answer, data_vectors}
use Rattle.runs.specs.declared.stream.StreamFault.{StreamFault}
use Rattle.commands.specs.Input.Fine.{IsFine}
use Rattle.commands.specs.Checked.{certificate_limit, status_of_verdict, verdict_text, IsOverlong}
use Rattle.commands.specs.Equations.Front.{Answer, Work}

-- It writes a text, and reads nothing more

abbrev pub printed : (List ℕ → Type 0) → ℕ → Answer
printed IsText room bytes status text = (status ≡ Success) × IsText text

abbrev pub writing : (List ℕ → Type 0) → Work
writing IsText room = record {
  most = 0;
  answer = printed IsText room;
  broken = λ read ended text. ⊥;
  cut = λ read left text taken. (read ≡ []) × IsText text;
}

-- It goes over the data

-- a text for the vectors of the data, and the status by how they end
abbrev pub mapped : (size modulus : ℕ) → (List (List ℕ) → List ℕ → Type 0) → ℕ → Answer
mapped size modulus IsText room bytes status text =
    (status ≡ status_of_stream (data_answer size room bytes)) × IsText (data_vectors size modulus room bytes) text

-- which vectors it wants: all, all and one at least, or the first alone
pub data Wants : Type 0 where
  all a_first the_first : Wants

-- the status for data that end so and have these vectors
abbrev pub status_by : Wants → ℕ → Result (Unit {0}) StreamFault → List (List ℕ) → Status
status_by all size answer vectors = status_of_stream answer
status_by a_first size answer [] = status_of_fault (lacking size answer)
status_by a_first size answer (x ∷ later) = status_of_stream answer
status_by the_first size answer [] = status_of_fault (lacking size answer)
status_by the_first size answer (x ∷ later) = Success

-- the same by what it wants
abbrev pub mapped_by : Wants → (size modulus : ℕ) → (List (List ℕ) → List ℕ → Type 0) → ℕ → Answer
mapped_by wants size modulus IsText room bytes status text = let vectors = data_vectors size modulus room bytes in
    (status ≡ status_by wants size (data_answer size room bytes) vectors) × IsText vectors text

-- it reads on after these vectors
abbrev pub ReadsOn : Wants → List (List ℕ) → Type 0
ReadsOn the_first vectors = vectors ≡ []
ReadsOn _ vectors = Unit {0}

-- what was taken begins with the text of all these vectors but the last
pub record HasAllButLast (IsText : List (List ℕ) → List ℕ → Type 0) (vectors : List (List ℕ))
    (taken : List ℕ) : Type 0 where
  pub ahead : List (List ℕ)
  pub last : List ℕ
  pub whole : vectors ≡ ahead ++ last ∷ []
  pub text : List ℕ
  pub right : IsText ahead text
  pub rest : List ℕ
  pub begins : taken ≡ text ++ rest

-- Nothing is read after a failed write: it came before the data were read, or at the text of their last vector, and no
-- number was read after that vector
abbrev pub StopsAtLast : ℕ → (List (List ℕ) → List ℕ → Type 0) → List ℕ → List (List ℕ) → List ℕ → Type 0
StopsAtLast size IsText read vectors taken =
    (read ≡ []) ⊎ ((length (tokens read) % size ≡ 0) × HasAllButLast IsText vectors taken)

-- By a failed read or write, the last token counts only where nothing is left with which it may go on
abbrev pub mapping : Wants → (size modulus : ℕ) → (List (List ℕ) → List ℕ → Type 0) → Work
mapping wants size modulus IsText room = record {
  most = room + 1;
  answer = mapped_by wants size modulus IsText room;
  broken = λ read ended text. IsFine room read × ReadsOn wants (vectors_of size modulus (tokens (closed_part read)))
      × IsText (vectors_of size modulus (tokens (closed_part read))) text;
  cut = λ read left text taken. IsFine room read × ((closed_part read ≡ read) ⊎ (left ≡ []))
      × IsText (vectors_of size modulus (tokens read)) text
      × StopsAtLast size IsText read (vectors_of size modulus (tokens read)) taken;
}

-- a text for the vectors after the first. Before that is there, nothing is written
abbrev pub by_first : (List ℕ → List (List ℕ) → List ℕ → Type 0) → List (List ℕ) → List ℕ → Type 0
by_first IsText [] text = text ≡ []
by_first IsText (x ∷ later) text = IsText x later text

-- It judges all that comes after the front

-- the status and the text of the verdict on the bytes
abbrev pub IsJudged : (List ℕ → Verdict → Type 0) → List ℕ → Status → List ℕ → Type 0
IsJudged IsVerdict bytes status text =
    (found : Verdict) × IsVerdict bytes found × (status ≡ status_of_verdict found) × (text ≡ verdict_text found)

-- what is judged is no longer than a certificate
abbrev pub judged_by : (List ℕ → Verdict → Type 0) → ℕ → Answer
judged_by IsVerdict room bytes status text = IsOverlong bytes status text
    ⊎ ((length bytes ≤ certificate_limit) × IsJudged IsVerdict bytes status text)

abbrev pub judging : (List ℕ → Verdict → Type 0) → Work
judging IsVerdict room = record {
  most = room + 1;
  answer = judged_by IsVerdict room;
  broken = λ read ended text. (length read ≤ certificate_limit) × (text ≡ []);
  cut = λ read left text taken.
      (left ≡ []) × (length read ≤ certificate_limit) × IsJudged IsVerdict read Success text;
}
