-- How far a run over data has come, and what one that goes on from there reads and writes.
use Rattle.std.specs.Prelude.{◌≡◌, ◌≢◌, ◌≤◌, ℕ, ◌+◌, ◌-◌, ◌<◌, ◌%◌, Bool, true, false, List, [], ◌++◌, length, Ok, Err, Result}
use Rattle.std.specs.List.{list_all}
use Rattle.std.specs.declared.option.Option.{Option}
use Rattle.io_edge.specs.Told.{Coming, Consumes, IsOver}
use Rattle.io_edge.specs.Feed.{Fed, limit}
use Rattle.data_stream.specs.Data.{closed_part, is_good}
use Rattle.data_stream.specs.Reading.{AreTokens}
use Rattle.data_stream.specs.Vectors.{Cut}
use Rattle.runs.specs.Stream.{vectors_of, state_behind, AnswersWith, Reads, Writes}
use Rattle.runs.specs.declared.stream.StreamFault.{StreamFault}
use Rattle.runs.specs.declared.stream.StreamFault.TheVariants.{Truncated, WriteFault}

-- the bytes that were read so far, and their vectors
pub record StreamProgress (before after : Coming) (old new : ℕ) (ended : Bool) (size modulus done : ℕ)
    (vectors : List (List ℕ)) : Type 0 where
  pub bytes : List ℕ
  pub ts : List (List ℕ)
  pub consumed : Consumes before after bytes
  pub taken : new ≡ old + length bytes
  pub are_tokens : AreTokens bytes ts ended
  pub good : list_all is_good ts ≡ true
  pub count : length ts ≡ done
  pub whole : (n : ℕ) → (done + n) % size ≡ n % size
  pub splits : (more : List (List ℕ)) → vectors_of size modulus (ts ++ more) ≡ vectors ++ vectors_of size modulus more
  pub closed : ended ≡ false → closed_part bytes ≡ bytes

-- After what was read from these data on, the feed stands here, and these vectors were whole. A feed over its limit has given nothing
pub record HasCome (modulus : ℕ) (cut : Cut) (old new : Fed) (before after : Coming)
    (vectors : List (List ℕ)) : Type 0 where
  pub progress : StreamProgress before after old.taken new.taken cut.ended cut.size modulus cut.done vectors
  pub begun : limit < new.taken → new.taken ≡ old.taken

-- the answer to data, and their vectors, by the bytes that were read and by all bytes
pub record ReadsData (size modulus : ℕ) (old new : Fed) (before after : Coming) (vectors : List (List ℕ))
    (result : Result (Unit {0}) StreamFault) : Type 0 where
  pub read : List ℕ
  pub consumed : Consumes before after read
  pub answer : Reads size modulus old new read (IsOver after) vectors result
  pub answers : old.taken ≤ limit → AnswersWith size modulus (limit - old.taken) read (IsOver after) vectors result

-- What a run has read, written and left that goes on after these vectors: the data are read to their end from where they began, and the texts are those of the later vectors
pub record StreamsBehind {S : Type 0} (seen : List (List ℕ)) (text : List ℕ → List ℕ) (leaves : List ℕ → S)
    (size modulus : ℕ) (old new : Fed) (before after : Coming)
    (out out' : Option (List ℕ)) (first last : S) (result : Result (Unit {0}) StreamFault) : Type 0 where
  pub later : List (List ℕ)
  pub reads : ReadsData size modulus old new before after (seen ++ later) result
  pub wrote : Writes out out' result text later
  pub stands : result ≢ Err WriteFault → last ≡ state_behind leaves first later

-- the same from here on, wherever the data began
abbrev pub StreamsOn : {S : Type 0} → (List ℕ → List ℕ) → (List ℕ → S) → ℕ → Cut → Fed → Fed → Coming → Coming
    → Option (List ℕ) → Option (List ℕ)
    → S → S → Result (Unit {0}) StreamFault → Type 0
StreamsOn text leaves modulus cut now new mid after out out' first last result =
    (old : Fed) (before : Coming) (seen : List (List ℕ)) → HasCome modulus cut old now before mid seen
    → StreamsBehind seen text leaves cut.size modulus old new before after out out' first last result

-- Data whose first vector has to be there

-- why it is not there: the data end before its first number, or within it, or are faulty
abbrev pub lacking : ℕ → Result (Unit {0}) StreamFault → StreamFault
lacking size (Ok u) = Truncated 0 size
lacking size (Err fault) = fault

-- the data have no vector, and the fault says why
abbrev pub HasNoVector : ℕ → ℕ → Fed → Fed → Coming → Coming → StreamFault → Type 0
HasNoVector size modulus old new before after fault =
    (result : Result (Unit {0}) StreamFault) × (result ≢ Err WriteFault) × ReadsData size modulus old new before after [] result × (fault ≡ lacking size result)
