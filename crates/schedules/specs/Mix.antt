-- The grammar of words that name turns and drains.
use Rattle.std.specs.Prelude.{ℕ, List, [], ◌∷◌, ◌^◌, zero, suc, codes, Result, Ok, Err}
use Rattle.grammar.specs.Grammar.{◌>>=◌, ◌>>◌, pure, one_of, number, optional, word, IsStuck}
use Rattle.icode.specs.declared.event.Event.{Event}
use Rattle.icode.specs.declared.event.Event.TheVariants as events
use Rattle.schedules.specs.declared.mix.Letter.{Letter}
use Rattle.schedules.specs.declared.mix.Letter.TheVariants as letters
use Rattle.schedules.specs.declared.mix.MixFault.{MixFault}
use Rattle.schedules.specs.declared.mix.MixFault.TheVariants as faults

abbrev pub event_of : Letter → ℕ → Event
event_of letters.Turn q = events.Turn q
event_of letters.Drain q = events.Drain q

abbrev pub letters_of_events : List (List ℕ × Letter)
letters_of_events = (codes "t", letters.Turn) ∷ (codes "d", letters.Drain) ∷ []

-- a letter and a processor's number
abbrev pub event : List ℕ → Event → Type 0
event = do
  letter ← one_of letters_of_events
  q ← number (2 ^ 32)
  pure (event_of letter q)

-- the same after a comma
abbrev pub next_event : List ℕ → Event → Type 0
next_event = do
  word (codes ",")
  event

-- up to a given number of them
unfoldable pub more_events : ℕ → List ℕ → List Event → Type 0
more_events zero = pure []
more_events (suc count) = optional [] (do
  first ← next_event
  others ← more_events count
  pure (first ∷ others))

-- 1 to 65,536 events, with commas between them
abbrev pub mix_word : List ℕ → List Event → Type 0
mix_word = do
  word (codes "mix:")
  first ← event
  others ← more_events 65535
  pure (first ∷ others)

-- Ok: the word spells the events. Syntax: it spells none, and the longest front of it with which some spelling begins
-- has this length.
abbrev pub MixAnswers : List ℕ → Result (List Event) MixFault → Type 0
MixAnswers text (Ok events) = mix_word text events
MixAnswers text (Err faults.NoMemory) = Unit {0}
MixAnswers text (Err (faults.Syntax at)) = IsStuck mix_word text at
