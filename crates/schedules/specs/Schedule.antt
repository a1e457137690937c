-- The grammar of schedules.
use Rattle.std.specs.Prelude.{◌≤◌, ℕ, List, [], ◌∷◌, ◌^◌, length, codes, Result, Ok, Err}
use Rattle.schedules.specs.declared.schedule.Turns.{Turns}
use Rattle.schedules.specs.declared.schedule.Turns.TheVariants as turns
use Rattle.schedules.specs.declared.schedule.ScheduleFault.{ScheduleFault}
use Rattle.schedules.specs.declared.schedule.ScheduleFault.TheVariants as faults
use Rattle.schedules.specs.declared.schedule.Form.{Form}
use Rattle.schedules.specs.declared.schedule.Form.TheVariants as form
use Rattle.grammar.specs.Grammar.{◌>>=◌, pure, one_of, number, IsStuck, named_number, numbers}

-- a schedule without where it lies in memory
pub data Plan : Type 0 where
  Sequential : Plan
  Rounds : (count : ℕ) → Plan
  Named : (turns : List ℕ) → Plan
  Seeded : (seed count : ℕ) → Plan

abbrev pub as_plan : Turns → Plan
as_plan turns.Sequential = Sequential
as_plan (turns.Rounds count) = Rounds count
as_plan (turns.Named named) = Named named.items
as_plan (turns.Seeded seed count) = Seeded seed count

-- a count is at most a million, and up to 65,536 turns are named
abbrev pub IsPlan : Plan → Type 0
IsPlan Sequential = Unit {0}
IsPlan (Rounds count) = count ≤ 1000000
IsPlan (Named turns) = length turns ≤ 65536
IsPlan (Seeded seed count) = count ≤ 1000000

abbrev pub forms : List (List ℕ × Form)
forms = (codes "seq", form.Seq) ∷ (codes "rr:", form.Rr) ∷ (codes "turns:", form.List) ∷ (codes "seed:", form.Seed) ∷ []

-- a count is at most a million, a turn is below 2 ^ 32, and there are up to 65,536 of them
abbrev pub plan : Form → List ℕ → Plan → Type 0
plan form.Seq = pure Sequential
plan form.Rr = do
  count ← number 1000001
  pure (Rounds count)
plan form.List = do
  turns ← numbers (codes ",") (2 ^ 32) 65535
  pure (Named turns)
plan form.Seed = do
  seed ← number (2 ^ 64)
  count ← named_number (codes ":") 1000001
  pure (Seeded seed count)

abbrev pub schedule_word : List ℕ → Plan → Type 0
schedule_word = do
  form ← one_of forms
  plan form

-- Ok: the word spells the schedule. Syntax: it spells none, and the longest front of it with which some spelling
-- begins has this length.
abbrev pub WordAnswers : List ℕ → Result Plan ScheduleFault → Type 0
WordAnswers word (Ok plan) = schedule_word word plan
WordAnswers word (Err faults.NoMemory) = Unit {0}
WordAnswers word (Err (faults.Syntax at)) = IsStuck schedule_word word at
