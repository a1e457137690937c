-- What a command line asks for: clap's reading of it, by the one simple command below.
use Rattle.std.specs.Prelude.{true, Some, codes}
use Rattle.clap.specs.Words.{App, Rule, Text, new_app, new_rule, with_rule}
use Rattle.clap.specs.Simple.{on_top}
use Rattle.clap.specs.declared.builder.ArgAction.TheVariants.{Set, SetTrue}

-- an option of one value
abbrev pub option_rule : Text → Rule
option_rule name = record (new_rule name) { long = Some name; action = Some Set }

-- an option without a value
abbrev pub flag_rule : Text → Rule
flag_rule name = record (new_rule name) { long = Some name; action = Some SetTrue }

-- there is no help but the note on usage
abbrev pub bare_app : App
bare_app = on_top (λ s. record s { disable_help_flag = true }) (new_app (codes "spiral_fast"))

abbrev pub fast_app : App
fast_app =
    with_rule (with_rule (with_rule (with_rule (with_rule bare_app
    (option_rule (codes "words")))
    (option_rule (codes "lanes")))
    (option_rule (codes "name")))
    (flag_rule (codes "header")))
    (flag_rule (codes "times"))
