-- What the words of a command line ask for.
use Rattle.std.specs.Prelude.{◌≡◌, ℕ, ◌≤◌, ◌^◌, List, Bool, true, false, codes}
use Rattle.grammar.specs.Grammar.{number}
use Rattle.clap.specs.Words.{Text}
use Rattle.schedules.specs.Mix.{mix_word}
use Rattle.schedules.specs.Schedule.{Plan as Turns, schedule_word}
use Rattle.spiral_words.specs.declared.command.Command.{Command}
use Rattle.spiral_words.specs.declared.command.Command.TheVariants.{ByRequest, ByFormula, ByListing, ByList}
use Rattle.spiral_words.specs.declared.command.RequestCommand.TheVariants.{Writes, Runs, Traces, Judges}
use Rattle.spiral_words.specs.declared.command.Document.TheVariants.{Plan, Formula, Code, C, Cert, Sample}
use Rattle.spiral_words.specs.declared.command.FormulaCommand.TheVariants.{Compile, Apply}
use Rattle.spiral_words.specs.declared.command.Order.{Order}
use Rattle.spiral_words.specs.declared.command.Order.TheVariants as order
use Rattle.spiral_words.specs.declared.app.OptionName.TheVariants as option
use Rattle.spiral_words.specs.CommandLine.{Names, Options, is_given, text_of}

-- a number below 2^64
abbrev pub seed_word : List ℕ → ℕ → Type 0
seed_word = number (2 ^ 64)

-- a number from 2 to 2^62 - 1
abbrev pub modulus_word : List ℕ → ℕ → Type 0
modulus_word word modulus = number (2 ^ 62) word modulus × (2 ≤ modulus)

-- the word spells this order: a schedule, or with buffers turns and drains too
abbrev pub SpellsOrder : Bool → List ℕ → Order → Type 0
SpellsOrder false word (order.Turns schedule) = schedule_word word schedule
SpellsOrder true word (order.Buffered schedule) = schedule_word word schedule
SpellsOrder true word (order.Mixed events) = mix_word word events
SpellsOrder _ word _ = ⊥

-- the options ask for this order
abbrev pub AsksOrder : Options → Order → Type 0
AsksOrder options order = SpellsOrder (is_given option.Buffers options) (text_of option.Schedule options) order

-- for this schedule
abbrev pub AsksSchedule : Options → Turns → Type 0
AsksSchedule options schedule = schedule_word (text_of option.Schedule options) schedule

-- for this seed
abbrev pub AsksSeed : Options → ℕ → Type 0
AsksSeed options seed = seed_word (text_of option.Seed options) seed

-- for this modulus
abbrev pub AsksModulus : Options → ℕ → Type 0
AsksModulus options modulus = modulus_word (text_of option.Modulus options) modulus

-- with the flag for a listing, or without it
abbrev pub AsksCode : Options → Bool → Type 0
AsksCode options code = code ≡ is_given option.Code options

-- the command's name and its options mean this command
abbrev pub Means : Text → Options → Command → Type 0
Means name options (ByRequest (Writes Plan)) = name ≡ codes "plan"
Means name options (ByRequest (Writes Formula)) = name ≡ codes "formula"
Means name options (ByRequest (Writes Code)) = name ≡ codes "code"
Means name options (ByRequest (Writes C)) = name ≡ codes "c"
Means name options (ByRequest (Writes Cert)) = name ≡ codes "cert"
Means name options (ByRequest (Writes (Sample seed schedule))) =
    (name ≡ codes "sample") × AsksSeed options seed × AsksSchedule options schedule
Means name options (ByRequest (Runs order)) = (name ≡ codes "run") × AsksOrder options order
Means name options (ByRequest (Traces order)) = (name ≡ codes "trace") × AsksOrder options order
Means name options (ByRequest Judges) = name ≡ codes "check"
Means name options (ByFormula modulus Compile) = (name ≡ codes "compile") × AsksModulus options modulus
Means name options (ByFormula modulus (Apply schedule)) =
    (name ≡ codes "apply") × AsksModulus options modulus × AsksSchedule options schedule
Means name options (ByListing schedule) = (name ≡ codes "exec") × AsksSchedule options schedule
Means name options (ByList schedule code) =
    (name ≡ codes "convolve") × AsksSchedule options schedule × AsksCode options code

-- the words ask for this command
abbrev pub IsAsked : List Text → Command → Type 0
IsAsked words asked = (name : Text) × (options : Options) × Names words name options × Means name options asked

-- they ask for none
abbrev pub IsUsage : List Text → Type 0
IsUsage words = (asked : Command) → IsAsked words asked → ⊥

-- the name by which a command is asked for
abbrev pub name_for : Command → Text
name_for (ByRequest (Writes Plan)) = codes "plan"
name_for (ByRequest (Writes Formula)) = codes "formula"
name_for (ByRequest (Writes Code)) = codes "code"
name_for (ByRequest (Writes C)) = codes "c"
name_for (ByRequest (Writes Cert)) = codes "cert"
name_for (ByRequest (Writes (Sample seed schedule))) = codes "sample"
name_for (ByRequest (Runs order)) = codes "run"
name_for (ByRequest (Traces order)) = codes "trace"
name_for (ByRequest Judges) = codes "check"
name_for (ByFormula modulus Compile) = codes "compile"
name_for (ByFormula modulus (Apply schedule)) = codes "apply"
name_for (ByListing schedule) = codes "exec"
name_for (ByList schedule code) = codes "convolve"
