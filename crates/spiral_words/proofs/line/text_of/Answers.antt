use Rattle.std.proofs.Common.{◌≡◌, [], Option, option_map, unwrap_or, ap, ◌∙◌}
use Rattle.clap.specs.Words.{Text, first_of, found_of, rows_of}
use Rattle.clap.proofs.WalkLemmas.{first_value-rows}
use Rattle.spiral_words.specs.CommandLine.{name_of}
use Rattle.spiral_words.proofs.line.text_of.Goals as goal

pub returns-in-Some : goal.returns-in-Some
returns-in-Some c =
    let rows = rows_of (found_of c.args.options.now) in
    let found : option_map (λ s. s.now) c.get_str.result ≡ first_of (name_of c.args.option) rows =
    c.get_str.ensures ∙ first_value-rows (found_of c.args.options.now) c.name.result.now ∙ ap (λ n. first_of n rows) c.name.ensures in
    ap (λ (o : Option Text). unwrap_or o []) (rw c.in-Some.is at found)

pub returns-in-None : goal.returns-in-None
returns-in-None c =
    let rows = rows_of (found_of c.args.options.now) in
    let found : option_map (λ s. s.now) c.get_str.result ≡ first_of (name_of c.args.option) rows =
    c.get_str.ensures ∙ first_value-rows (found_of c.args.options.now) c.name.result.now ∙ ap (λ n. first_of n rows) c.name.ensures in
    ap (λ (o : Option Text). unwrap_or o []) (rw c.in-None.is at found)
