-- What a source tells of its bytes, and what is to come of it through a feed.
use Rattle.std.specs.Prelude.{◌≡◌, Bool, true, false, ℕ, List, [], ◌++◌, take, None, Some, MatchResult, Result}
use Rattle.std.specs.declared.option.Option.{Option}
use Rattle.std.specs.Io.KnownBytes.{prepend_known}
use Rattle.std.specs.Io.KnownBytes as known_bytes

-- the bytes that it has given, those that it has left, if it tells them, and whether it has said that it ends
pub record Told : Type 0 where
  pub given : List ℕ
  pub left : Option (List ℕ)
  pub ended : Bool

-- what is left of a source that is not asked again after its end
abbrev pub left_of : Bool → Option (List ℕ) → Option (List ℕ)
left_of true remaining = Some []
left_of false remaining = remaining

abbrev pub rest_of : Told → Option (List ℕ)
rest_of told = left_of told.ended told.left

-- these bytes are left; of a source that says nothing, any may be
abbrev pub Tells : Option (List ℕ) → List ℕ → Type 0
Tells None bytes = Unit {0}
Tells (Some left) bytes = bytes ≡ left

-- it gave these bytes
pub record Gives (before after : Told) (bytes : List ℕ) : Type 0 where
  pub given : after.given ≡ before.given ++ bytes
  pub left : known_bytes.Consumes (rest_of before) (rest_of after) bytes
  pub ended : before.ended ≡ true → after.ended ≡ true

-- a read gave the bytes that it put into the buffer, and none where it failed
abbrev pub ReadGives : {E : Type 0} → Told → Told → Result ℕ E → List ℕ → Type 0
ReadGives before after result buffer =
    MatchResult result (λ count. Gives before after (take count buffer)) (λ _. Gives before after [])

-- ---- through a feed

-- the bytes that the feed holds come before those that the source has left
pub record Coming : Type 0 where
  pub held : List ℕ
  pub told : Told

-- the bytes that are to come, if they are told
abbrev pub known : Coming → Option (List ℕ)
known coming = prepend_known coming.held (rest_of coming.told)

-- nothing is held, and the source has said that it ends
abbrev pub IsOver : Coming → Type 0
IsOver coming = (coming.held ≡ []) × (coming.told.ended ≡ true)

-- these bytes came: what is known begins with them, and loses them; what the source gave and the feed does not hold
-- grows by them; and an end stays
pub record Consumes (before after : Coming) (bytes : List ℕ) : Type 0 where
  pub left : known_bytes.Consumes (known before) (known after) bytes
  pub given : (used : List ℕ) → before.told.given ≡ used ++ before.held →
      after.told.given ≡ (used ++ bytes) ++ after.held
  pub ended : before.told.ended ≡ true → after.told.ended ≡ true

-- no byte came
abbrev pub Keeps : Coming → Coming → Type 0
Keeps before after = Consumes before after []
