use Rattle.std.proofs.Common.{◌≡◌, ◌∙◌, ap, subst, sym}
use Rattle.icode.specs.Machine.{IsApart}
use Rattle.icode.specs.Program.{plain_program}
use Rattle.word_code.specs.Bare.{WordsFit}
use Rattle.word_code.specs.Views.{plain_word_program}
use Rattle.word_code.specs.WordMachine.{under}
use Rattle.word_code.specs.WordProgram.{PlainWordProgram, word_code}
use Rattle.word_code.specs.InPlace.Sharing.{in_place}
use Rattle.word_code.specs.InPlace.Routes.{rerouted}
use Rattle.word_code.proofs.InPlace.Fitting.{in_place_fits, in_place_apart}
use Rattle.word_code.proofs.InPlace.Law.{alike_from}
use Rattle.word_code.proofs.in_place.share.work_in_place.Goals as goal

pub returns-clause-same : goal.returns-clause-same
returns-clause-same c z quick =
    alike_from z (plain_program c.args.program.now) (plain_word_program c.args.words) (plain_word_program c.reroute-made.result)
    c.requires.fits c.args.program.now.header.of_line.0
    (c.reroute-made.ensures ∙ ap (λ routes. rerouted routes (plain_word_program c.args.words)) (c.deref.ensures.value ∙ c.in_ok-routes.ensures))
    quick

pub returns-clause-fits : goal.returns-clause-fits
returns-clause-fits c fit =
    let is =
    c.reroute-made.ensures
    ∙ ap (λ routes. rerouted routes (plain_word_program c.args.words)) (c.deref.ensures.value ∙ c.in_ok-routes.ensures) in
    subst WordsFit (sym is) (in_place_fits (plain_program c.args.program.now) (plain_word_program c.args.words) fit)

pub returns-clause-apart : goal.returns-clause-apart
returns-clause-apart c z quick apart phase =
    let is =
    c.reroute-made.ensures
    ∙ ap (λ routes. rerouted routes (plain_word_program c.args.words)) (c.deref.ensures.value ∙ c.in_ok-routes.ensures) in
    let p = plain_program c.args.program.now in
    subst (λ (w : PlainWordProgram). IsApart (under (word_code w)) phase) (sym (is ∙ ap (in_place p) quick))
    (in_place_apart z p apart phase)
