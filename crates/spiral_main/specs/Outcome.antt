-- What the program answers for its words and the bytes of its input, and what it writes.
use Rattle.std.specs.Prelude.{◌≡◌, ◌+◌, ◌≤◌, ◌⊎◌, ◌++◌, Bool, ℕ, List, [], length}
use Rattle.std.specs.declared.option.Option.{Option}
use Rattle.std.specs.Io.KnownBytes.{Appends}
use Rattle.io_edge.specs.Faults.{Rose}
use Rattle.io_edge.specs.Feed.{limit, most_held}
use Rattle.io_edge.specs.Taken.{AppendsPrefix}
use Rattle.io_edge.specs.Told.{Gives, Tells, Told, rest_of}
use Rattle.spiral_words.specs.Asked.{IsAsked}
use Rattle.spiral_words.specs.declared.Command.{Command}
use Rattle.spiral_words.specs.declared.statuses.status.Status.{Status}
use Rattle.spiral_words.specs.declared.statuses.status.Status.TheVariants.{ReadFault}
use Rattle.commands.specs.Equations.Commands.{outcomes_of}
use Rattle.commands.specs.Input.Commands.{commanded}
use Rattle.commands.specs.Input.Outcomes.{Outcomes, Meets}
use Rattle.commands.specs.Input.Stage.{IsAnswerBy}

-- the status and the text: the words ask for no command, and nothing is written, or they are right for this command
abbrev pub IsOutcome : List (List ℕ) → List ℕ → Status → List ℕ → Type 0
IsOutcome words bytes status text =
    IsAnswerBy (commanded words) (λ (command : Command). (outcomes_of command).answer bytes) status text

-- what is right for a call with these words, by what is right for each command
abbrev pub outcomes_for : (Command → Outcomes) → List (List ℕ) → Outcomes
outcomes_for right words = record {
  most = limit + 1;
  answer = λ bytes. IsAnswerBy (commanded words) (λ (command : Command). (right command).answer bytes);
  broken = λ read ended text. (command : Command) × IsAsked words command × (right command).broken read ended text;
  cut = λ read left text taken.
      (command : Command) × IsAsked words command × (right command).cut read left text taken;
}

abbrev pub call_outcomes : List (List ℕ) → Outcomes
call_outcomes = outcomes_for outcomes_of

-- Status and output of a run, by all the bytes of its input, by those that are left of them, and by whether it has said
-- that it ends. Of the bytes that were read no more than a block are held, of which nothing was used; after a failed
-- read, none
pub record CallMeets (outcomes : Outcomes) (bytes left : List ℕ) (ended : Bool) (before after : Option (List ℕ))
    (status : Status) : Type 0 where
  pub held : List ℕ
  pub few : length held ≤ most_held
  pub none : status ≡ ReadFault → held ≡ []
  -- no more was used than may be read
  pub within : length bytes ≤ outcomes.most + length (held ++ left)
  pub meets : Meets outcomes bytes (held ++ left) ended before after status

-- The same by an input: in this call it gave these bytes, those that were used and those that are held, and with all
-- that it
-- may have left status and output are right
pub record CallMeetsFor (outcomes : Outcomes) (source source' : Told) (before after : Option (List ℕ))
    (status : Status) : Type 0 where
  pub used : List ℕ
  pub held : List ℕ
  pub gave : Gives source source' (used ++ held)
  pub within : length used ≤ outcomes.most
  pub few : length held ≤ most_held
  pub none : status ≡ ReadFault → held ≡ []
  pub meets : (left : List ℕ) → Tells (rest_of source') left →
      Meets outcomes (used ++ (held ++ left)) (held ++ left) source'.ended before after status

abbrev pub Accounts : List (List ℕ) → List ℕ → List ℕ → Bool → Option (List ℕ) → Option (List ℕ) → Status → Type 0
Accounts words = CallMeets (call_outcomes words)

abbrev pub AccountsFor : List (List ℕ) → Told → Told → Option (List ℕ) → Option (List ℕ) → Status → Type 0
AccountsFor words = CallMeetsFor (call_outcomes words)

-- the line went to the note whole, or a prefix of it where the note failed
abbrev pub Notes : Option (List ℕ) → Option (List ℕ) → ℕ → ℕ → List ℕ → Type 0
Notes old new before now line = Appends old new line ⊎ (Rose before now × AppendsPrefix old new line)
