-- Where words ask for nothing, by what clap refuses and by the grammars of the options.
use Rattle.std.specs.Prelude.{◌≡◌, ◌⊎◌, ℕ, List, [], ◌∷◌, Bool, true, false}
use Rattle.std.specs.List.{Any}
use Rattle.clap.specs.Words.{Row, Text, fault_of}
use Rattle.clap.specs.Walk.{is_empty}
use Rattle.icode.specs.declared.event.Event.{Event}
use Rattle.schedules.specs.Mix.{mix_word}
use Rattle.schedules.specs.Schedule.{Plan, schedule_word}
use Rattle.spiral_words.specs.declared.command.Command.{Command}
use Rattle.spiral_words.specs.declared.app.OptionName.{OptionName}
use Rattle.spiral_words.specs.declared.app.OptionName.TheVariants.{Schedule, Seed, Modulus, Buffers}
use Rattle.spiral_words.specs.CommandLine.{Names, commands, is_given, spiral_app, text_of}
use Rattle.spiral_words.specs.Asked.{Means, modulus_word, seed_word}

-- ---- words that spell nothing

abbrev pub IsNoSeed : List ℕ → Type 0
IsNoSeed word = (seed : ℕ) → seed_word word seed → ⊥

abbrev pub IsNoModulus : List ℕ → Type 0
IsNoModulus word = (modulus : ℕ) → modulus_word word modulus → ⊥

abbrev pub IsNoSchedule : List ℕ → Type 0
IsNoSchedule word = (schedule : Plan) → schedule_word word schedule → ⊥

-- no turns and drains
abbrev pub IsNoMix : List ℕ → Type 0
IsNoMix word = (events : List Event) → mix_word word events → ⊥

abbrev pub IsNoOrder : Bool → List ℕ → Type 0
IsNoOrder false word = IsNoSchedule word
IsNoOrder true word = IsNoSchedule word × IsNoMix word

-- the options ask for no order
abbrev pub AsksNoOrder : List Row → Type 0
AsksNoOrder rows = IsNoOrder (is_given Buffers rows) (text_of Schedule rows)

-- ---- names and options that mean nothing

abbrev pub MeansNothing : Text → List Row → Type 0
MeansNothing name rows = (asked : Command) → Means name rows asked → ⊥

-- Of a command with these options this one's text is outside its grammar. An option without a value has none.
abbrev pub IsOther : List OptionName → List Row → OptionName → Type 0
IsOther (Schedule ∷ Buffers ∷ []) rows Schedule = AsksNoOrder rows
IsOther options rows Schedule = IsNoSchedule (text_of Schedule rows)
IsOther options rows Seed = IsNoSeed (text_of Seed rows)
IsOther options rows Modulus = IsNoModulus (text_of Modulus rows)
IsOther options rows _ = ⊥

-- the command of this name has an option whose text is outside its grammar
abbrev pub HasOtherText : Text → List Row → Type 0
HasOtherText name rows = Any (λ row. (row.0 ≡ name) × Any (IsOther row.1 rows) row.1) commands

-- clap refuses the words, or finds an option's text that is outside its grammar
abbrev pub IsRefused : List Text → Type 0
IsRefused words = (is_empty (fault_of spiral_app words) ≡ false)
    ⊎ ((name : Text) × (rows : List Row) × Names words name rows × HasOtherText name rows)
