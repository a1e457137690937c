-- The commands that the words ask for, and what they read.
use Rattle.std.specs.Prelude.{◌≡◌, ◌≢◌, ◌⊎◌, ℕ, Bool, true, false, List, [], None, Some, Ok, Err, Result, find, nat_le}
use Rattle.std.specs.declared.option.Option.{Option}
use Rattle.schedules.specs.Schedule.{Plan as Turns}
use Rattle.schedules.specs.Turns.{named}
use Rattle.spiral_words.specs.Asked.{IsAsked, IsUsage}
use Rattle.spiral_words.specs.declared.Command.{Command}
use Rattle.spiral_words.specs.declared.Command.TheVariants.{ByRequest, ByFormula, ByListing, ByList}
use Rattle.spiral_words.specs.declared.Document.TheVariants.{Sample}
use Rattle.spiral_words.specs.declared.FormulaCommand.TheVariants.{Apply}
use Rattle.spiral_words.specs.declared.RequestCommand.{RequestCommand}
use Rattle.spiral_words.specs.declared.RequestCommand.TheVariants.{Writes, Runs, Traces, Judges}
use Rattle.commands.specs.Input.Orders.{procs_in}
use Rattle.commands.specs.Input.Stage.{Stage}
use Rattle.spiral_words.specs.declared.statuses.status.Status.{Status}
use Rattle.spiral_words.specs.declared.statuses.status.Status.TheVariants.{Usage, Turn, NoMemory}

-- the commands that read their input to its end
abbrev pub reads_rest : Command → Bool
reads_rest (ByRequest (Runs order)) = true
reads_rest (ByRequest (Traces order)) = true
reads_rest (ByRequest Judges) = true
reads_rest (ByFormula modulus (Apply schedule)) = true
reads_rest (ByListing schedule) = true
reads_rest (ByList schedule false) = true
reads_rest _ = false

-- the command that the words ask for
abbrev pub commanded : List (List ℕ) → Stage Command
commanded words (Ok command) = IsAsked words command
commanded words (Err status) = (status ≡ Usage) × IsUsage words

-- the words ask for a command
abbrev pub AskForCommand : List (List ℕ) → Type 0
AskForCommand words = (command : Command) × IsAsked words command

-- The words are judged first and alone: they are no command line, and the status is Usage, or they ask for a command,
-- and it is another; or memory runs out
abbrev pub AreJudged : List (List ℕ) → Status → Type 0
AreJudged words status = (status ≡ NoMemory)
    ⊎ (((status ≡ Usage) × IsUsage words) ⊎ ((status ≢ Usage) × AskForCommand words))

-- the words ask for a command that reads its input to its end
abbrev pub AskForRest : List (List ℕ) → Type 0
AskForRest words = (command : Command) × IsAsked words command × (reads_rest command ≡ true)

-- the processors that the words of a command for a request name
abbrev pub procs_named : RequestCommand → List ℕ
procs_named (Runs order) = procs_in order
procs_named (Traces order) = procs_in order
procs_named (Writes (Sample seed schedule)) = named schedule
procs_named _ = []

-- the first of them that is not there
abbrev pub first_stranger : List ℕ → ℕ → Option ℕ
first_stranger names procs = find (λ q. nat_le procs q) names

abbrev pub stranger : Turns → ℕ → Option ℕ
stranger schedule procs = first_stranger (named schedule) procs

-- each processor that the command names is one of the request's
abbrev pub NamesNoStranger : RequestCommand → ℕ → Type 0
NamesNoStranger command procs = first_stranger (procs_named command) procs ≡ None

-- what goes on, if no stranger to the processors is named
abbrev pub admitted : {A : Type 0} → Option ℕ → ℕ → A → Result A Status
admitted None procs value = Ok value
admitted (Some q) procs value = Err (Turn q procs)
