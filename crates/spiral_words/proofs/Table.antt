-- Clap's application is built from the table row by row.
use Rattle.std.proofs.Common.{◌≡◌, ℕ, ◌+◌, ◌<◌, List, [], ◌∷◌, ◌++◌, take, map, length, refl, sym, ap, ap₂, ◌∙◌, arith}
use Rattle.std.proofs.Math.ListN.{get_or, get_or-map}
use Rattle.std.proofs.lemmas.List.{take_more, length-map, map-append}
use Rattle.std.proofs.lemmas.List.Sums.{fold-append}
use Rattle.clap.specs.Words.{App, Shape, Text, with_rule, with_subcommand}
use Rattle.spiral_words.specs.declared.app.OptionName.{OptionName}
use Rattle.spiral_words.specs.CommandLine.{app_with, bare_app, command_shape, option_rule}

-- the command alone, with these options
abbrev pub command_app : Text → List OptionName → App
command_app name options = record { top = command_shape (name, options); subs = [] }

pub one_option : (name : Text) (options : List OptionName) (i : ℕ) (option : OptionName) → i < length options
    → with_rule (command_app name (take i options)) (option_rule (get_or options i option))
    ≡ command_app name (take (i + 1) options)
one_option name options i option inside =
    let more : map option_rule (take (i + 1) options) ≡ map option_rule (take i options) ++ option_rule (get_or options i option) ∷ [] =
    ap (map option_rule) (take_more options i option inside) ∙ map-append option_rule (take i options) _ in
    rw more refl

-- one more row, which texts are
pub one_command : {A : Type 0} (texts : A → Text × List OptionName) (rows : List A) (i : ℕ) (row : A) (app : App)
    (shape : Shape)
    → shape ≡ command_shape (texts (get_or rows i row)) → app ≡ app_with (take i (map texts rows)) → i < length rows
    → with_subcommand app shape ≡ app_with (take (i + 1) (map texts rows))
one_command texts rows i row app shape is made inside =
    let more : take (i + 1) (map texts rows) ≡ take i (map texts rows) ++ texts (get_or rows i row) ∷ [] =
    take_more (map texts rows) i (texts row) (omega (arith, inside, length-map rows texts))
    ∙ ap (λ r. take i (map texts rows) ++ r ∷ []) (get_or-map texts rows i row) in
    ap₂ with_subcommand made is
    ∙ sym (ap app_with more ∙ fold-append (λ app row. with_subcommand app (command_shape row)) bare_app (take i (map texts rows)) (texts (get_or rows i row) ∷ []))
