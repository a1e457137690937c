-- Reading a word that names turns and drains.
use Rattle.std.specs.Prelude.{ℕ, ◌^◌, List, ◌∷◌, codes, Result}
use Rattle.grammar.specs.Reading.{Place, ◌>>=◌, ◌>>◌, pure_at, one_of_at, number_at, word_at, many_at}
use Rattle.icode.specs.declared.event.Event.{Event}
use Rattle.schedules.specs.Mix.{event_of, letters_of_events}

abbrev pub event_at : Place ℕ → Result (Event × Place ℕ) ℕ
event_at = do
  letter ← one_of_at letters_of_events
  q ← number_at (2 ^ 32)
  pure_at (event_of letter q)

abbrev pub next_event_at : Place ℕ → Result (Event × Place ℕ) ℕ
next_event_at = do
  word_at (codes ",")
  event_at

abbrev pub events_at : ℕ → Place ℕ → Result (List Event × Place ℕ) ℕ
events_at count = do
  first ← event_at
  others ← many_at count next_event_at
  pure_at (first ∷ others)

unfoldable pub mix_at : Place ℕ → Result (List Event × Place ℕ) ℕ
mix_at = do
  word_at (codes "mix:")
  events_at 65535
