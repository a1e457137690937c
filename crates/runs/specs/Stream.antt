-- Data as a stream of vectors: which vectors they have, how they end, and what a run over them reads, writes and leaves.
use Rattle.std.specs.Prelude.{◌≡◌, ◌≢◌, ◌≤◌, ◌⊎◌, ℕ, zero, suc, ◌+◌, ◌-◌, ◌/◌, ◌%◌, ◌<◌, Bool, true, false, List, [], ◌∷◌, ◌++◌, length, take, drop, None, Some, Ok, Err, Result, if◌then◌else◌, nat_le, nat_lt, find, ◌==◌}
use Rattle.std.specs.List.{list_all, flat_map}
use Rattle.std.specs.declared.option.Option.{Option}
use Rattle.std.specs.Io.KnownBytes.{Appends}
use Rattle.io_edge.specs.Told.{Coming, Consumes, IsOver}
use Rattle.schedules.specs.Schedule.{Plan}
use Rattle.schedules.specs.Turns.{named}
use Rattle.io_edge.specs.Feed.{Fed, limit}
use Rattle.io_edge.specs.Taken.{AppendsPrefix}
use Rattle.data_stream.specs.Data.{tokens, closed_part, is_good}
use Rattle.data_stream.specs.Reading.{GoesOver, residues}
use Rattle.data_stream.specs.Line.{line_of}
use Rattle.runs.specs.declared.stream.StreamFault.{StreamFault}
use Rattle.runs.specs.declared.stream.StreamFault.TheVariants.{BadNumber, Truncated, TooLong, ReadFault, WriteFault}

-- Vectors

-- the first vectors of the tokens, of a given number
abbrev pub group_vectors : ℕ → ℕ → ℕ → List (List ℕ) → List (List ℕ)
group_vectors size modulus zero ts = []
group_vectors size modulus (suc count) ts = residues modulus (take size ts) ∷ group_vectors size modulus count (drop size ts)

-- the vectors that are whole
abbrev pub vectors_of : ℕ → ℕ → List (List ℕ) → List (List ℕ)
vectors_of size modulus ts = group_vectors size modulus (length ts / size) ts

-- the texts of the vectors, one after another
abbrev pub texts : (List ℕ → List ℕ) → List (List ℕ) → List ℕ
texts text vectors = flat_map text vectors

-- a line for each vector, of what f makes of it
abbrev pub lines : (List ℕ → List ℕ) → List (List ℕ) → List ℕ
lines f vectors = texts (λ x. line_of (f x)) vectors

-- what the last vector leaves, or what was there where there is none
abbrev pub state_behind : {S : Type 0} → (List ℕ → S) → S → List (List ℕ) → S
state_behind leaves state [] = state
state_behind leaves state (x ∷ xs) = state_behind leaves (leaves x) xs

-- By all bytes

-- the tokens before the first that is not good
abbrev pub good_front : List (List ℕ) → List (List ℕ)
good_front [] = []
good_front (t ∷ ts) = if is_good t then t ∷ good_front ts else []

-- the number of the first token that is not good, after a number of tokens
abbrev pub bad_after : ℕ → List (List ℕ) → Option ℕ
bad_after done [] = None
bad_after done (t ∷ ts) = if is_good t then bad_after (done + 1) ts else Some (done + 1)

-- the answer to data of which this many tokens were seen within the limit, and perhaps more comes after it
abbrev pub answer_of : ℕ → Bool → Option ℕ → ℕ → Result (Unit {0}) StreamFault
answer_of size over (Some token) count = Err (BadNumber token)
answer_of size true None count = Err TooLong
answer_of size false None count = if count % size == 0 then Ok tt else Err (Truncated (count % size) size)

-- the vectors that are whole by then
abbrev pub vectors_seen : ℕ → ℕ → Bool → Option ℕ → List ℕ → List (List ℕ)
vectors_seen size modulus over (Some token) seen = vectors_of size modulus (good_front (tokens seen))
vectors_seen size modulus true None seen = vectors_of size modulus (tokens (closed_part seen))
vectors_seen size modulus false None seen = vectors_of size modulus (tokens seen)

-- the answer to data, given how many bytes may come
abbrev pub data_answer : ℕ → ℕ → List ℕ → Result (Unit {0}) StreamFault
data_answer size room bytes = answer_of size (nat_lt room (length bytes)) (bad_after 0 (tokens (take room bytes))) (length (tokens (take room bytes)))

abbrev pub data_vectors : ℕ → ℕ → ℕ → List ℕ → List (List ℕ)
data_vectors size modulus room bytes = vectors_seen size modulus (nat_lt room (length bytes)) (bad_after 0 (tokens (take room bytes))) (take room bytes)

-- where nothing failed, the answer is that of the data, and these are their vectors
abbrev pub Answers : ℕ → ℕ → ℕ → List ℕ → List (List ℕ) → Result (Unit {0}) StreamFault → Type 0
Answers size modulus room bytes vectors (Err ReadFault) = Unit {0}
Answers size modulus room bytes vectors (Err WriteFault) = Unit {0}
Answers size modulus room bytes vectors result = (data_answer size room bytes ≡ result) × (data_vectors size modulus room bytes ≡ vectors)

-- the same of the bytes that were read with all that may follow
abbrev pub AnswersWith : ℕ → ℕ → ℕ → List ℕ → Type 0 → List (List ℕ) → Result (Unit {0}) StreamFault → Type 0
AnswersWith size modulus room read ended vectors result =
    (more : List ℕ) → (ended → more ≡ []) → Answers size modulus room (read ++ more) vectors result

-- By the bytes that were read

-- the answer, and the vectors that are whole by then
abbrev pub Reads : ℕ → ℕ → Fed → Fed → List ℕ → Type 0 → List (List ℕ) → Result (Unit {0}) StreamFault → Type 0
Reads size modulus old new read ended vectors (Ok u) = (new.taken ≡ old.taken + length read) × ended
    × (list_all is_good (tokens read) ≡ true) × (length (tokens read) % size ≡ 0) × (vectors_of size modulus (tokens read) ≡ vectors)
Reads size modulus old new read ended vectors (Err (Truncated have need)) = (new.taken ≡ old.taken + length read) × ended
    × (list_all is_good (tokens read) ≡ true) × (length (tokens read) % size ≡ have) × (0 < have) × (need ≡ size) × (vectors_of size modulus (tokens read) ≡ vectors)
Reads size modulus old new read ended vectors (Err (BadNumber token)) = (new.taken ≡ old.taken + length read)
    × ((good : List (List ℕ))
    × ((more : List ℕ) → (bad_after 0 (tokens (read ++ more)) ≡ Some token) × (good_front (tokens (read ++ more)) ≡ good))
    × (vectors_of size modulus good ≡ vectors))
Reads size modulus old new read ended vectors (Err TooLong) = (within : List ℕ) × GoesOver old read within
    × (list_all is_good (tokens within) ≡ true) × (vectors_of size modulus (tokens (closed_part within)) ≡ vectors)
Reads size modulus old new read ended vectors (Err ReadFault) = (new.taken ≡ old.taken + length read)
    × (list_all is_good (tokens read) ≡ true) × (vectors_of size modulus (tokens (closed_part read)) ≡ vectors)
Reads size modulus old new read ended vectors (Err WriteFault) = (new.taken ≡ old.taken + length read)
    × (list_all is_good (tokens read) ≡ true) × ((closed_part read ≡ read) ⊎ ended)
    × (length (tokens read) % size ≡ 0) × (vectors_of size modulus (tokens read) ≡ vectors)

-- the output failed at the text of the last vector: it took those of the vectors before it, and a prefix of this one
pub record FailsAtLast (text : List ℕ → List ℕ) (vectors : List (List ℕ))
    (before after : Option (List ℕ)) : Type 0 where
  pub ahead : List (List ℕ)
  pub last : List ℕ
  pub whole : vectors ≡ ahead ++ last ∷ []
  -- what the output held before the last text
  pub mid : Option (List ℕ)
  pub took : Appends before mid (texts text ahead)
  pub cut : AppendsPrefix mid after (text last)

-- the output took the texts of the vectors, up to the fault where it failed
abbrev pub Writes : Option (List ℕ) → Option (List ℕ) → Result (Unit {0}) StreamFault → (List ℕ → List ℕ)
    → List (List ℕ) → Type 0
Writes before after (Err WriteFault) text vectors = FailsAtLast text vectors before after
Writes before after result text vectors = Appends before after (texts text vectors)

-- What a run has read, written and left, which writes the text of each vector and is then where the vector leaves it, unless the output fails in between
pub record Streams {S : Type 0} (text : List ℕ → List ℕ) (leaves : List ℕ → S) (size modulus : ℕ) (old new : Fed)
    (before after : Coming)
    (out out' : Option (List ℕ)) (first last : S) (result : Result (Unit {0}) StreamFault) : Type 0 where
  pub read : List ℕ
  pub vectors : List (List ℕ)
  pub consumed : Consumes before after read
  pub answer : Reads size modulus old new read (IsOver after) vectors result
  pub answers : old.taken ≤ limit → AnswersWith size modulus (limit - old.taken) read (IsOver after) vectors result
  pub wrote : Writes out out' result text vectors
  pub stands : result ≢ Err WriteFault → last ≡ state_behind leaves first vectors

-- each turn that the schedule names is of a processor that there is
abbrev pub HasNoStranger : Plan → ℕ → Type 0
HasNoStranger plan procs = find (λ q. nat_le procs q) (named plan) ≡ None
