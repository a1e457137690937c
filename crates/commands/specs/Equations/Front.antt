-- The front of an input, by which a command goes, and what is right for a command after it.
use Rattle.std.specs.Prelude.{◌≡◌, ◌⊎◌, ℕ, ◌+◌, ◌-◌, ◌≤◌, ◌==◌, nat_le, Bool, true, false, List, [], length, Ok, Err}
use Rattle.std.specs.Prelude.{Result, if◌then◌else◌}
use Rattle.std.specs.List.{before_first, after_first, list_any}
use Rattle.io_edge.specs.Feed.{limit}
use Rattle.data_stream.specs.Parts.Part.{first_part, second_part, has_empty_line}
use Rattle.spiral_words.specs.declared.statuses.status.Status.{Status}
use Rattle.spiral_words.specs.declared.statuses.status.Status.TheVariants.{TooLong}
use Rattle.commands.specs.Input.Outcomes.{Outcomes}
use Rattle.commands.specs.Input.Stage.{Stage, given, ◌>>=◌, IsAnswerBy, IsBrokenBy, IsCutBy}

-- A front of an input: what it is, what comes after its end, whether this is there, and how many bytes it has at most
pub record Front : Type 0 where
  pub first : List ℕ → List ℕ
  pub behind : List ℕ → List ℕ
  pub has_end : List ℕ → Bool
  pub most : ℕ

abbrev pub is_line_end : ℕ → Bool
is_line_end byte = byte == 10

-- the first line
abbrev pub line : ℕ → Front
line most = record {
  first = before_first is_line_end;
  behind = after_first is_line_end;
  has_end = list_any is_line_end;
  most = most;
}

-- the lines before the first empty line
abbrev pub part : ℕ → Front
part most = record { first = first_part; behind = second_part; has_end = has_empty_line true; most = most }

-- the front of the bytes, if it is not too long
abbrev pub taken_from : Front → List ℕ → Result (List ℕ) Status
taken_from front bytes =
    if nat_le (length (front.first bytes)) front.most then Ok (front.first bytes) else Err (TooLong front.most)

-- as many bytes as the limit leaves after it
abbrev pub room_behind : Front → List ℕ → ℕ
room_behind front bytes = limit - (length bytes - length (front.behind bytes))

-- what was read may be a part of a front that goes on
pub record MayGoOn (front : Front) (read : List ℕ) : Type 0 where
  pub unended : front.has_end read ≡ false
  pub short : length read ≤ front.most

-- the front has ended, by its end or with the input
abbrev pub HasEnded : Front → List ℕ → Type 0 → Type 0
HasEnded front read ended = (front.has_end read ≡ true) ⊎ ended

-- what the front's text orders
abbrev pub ordered : {A : Type 0} → Front → (List ℕ → Stage A) → List ℕ → Stage A
ordered front orders bytes = do
  text ← given (taken_from front bytes)
  orders text

-- which status and text are right for the bytes of an input
abbrev pub Answer : Type 1
Answer = List ℕ → Status → List ℕ → Type 0

-- What is answered: the front orders a value, and status and text are right for it and for what comes after, where so
-- many bytes may come; or it refuses, and nothing is written
abbrev pub answered : {A : Type 0} → Front → (List ℕ → Stage A) → (A → ℕ → Answer) → Answer
answered {A} front orders settles bytes = IsAnswerBy (ordered front orders bytes)
    (λ (value : A). settles value (room_behind front bytes) (front.behind bytes))

-- what is right for a command after its front, given how many bytes may come
abbrev pub Work : Type 1
Work = ℕ → Outcomes

-- what is right for a command: what is answered, and what a fault of the outside leaves of it
abbrev pub by_front : {A : Type 0} → Front → (List ℕ → Stage A) → (A → Work) → Outcomes
by_front {A} front orders work = record {
  most = limit + 1;
  answer = answered front orders (λ (value : A) room. (work value room).answer);
  broken = λ read ended. IsBrokenBy (MayGoOn front read) (HasEnded front read ended) (ordered front orders read)
      (λ (value : A). (work value (room_behind front read)).broken (front.behind read) ended);
  cut = λ read left text taken. IsCutBy (HasEnded front read (left ≡ [])) (ordered front orders read)
      (λ (value : A). (work value (room_behind front read)).cut (front.behind read) left text taken);
}

-- a further stage after a front, and then the work
abbrev pub staged : {A : Type 0} → Stage A → (A → Work) → Work
staged {A} stage work room = record {
  most = room + 1;
  answer = λ bytes. IsAnswerBy stage (λ (value : A). (work value room).answer bytes);
  broken = λ read ended text. (value : A) × stage (Ok value) × (work value room).broken read ended text;
  cut = λ read left text taken. (value : A) × stage (Ok value) × (work value room).cut read left text taken;
}
