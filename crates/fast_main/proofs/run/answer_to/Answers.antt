use Rattle.std.proofs.Common.{rules, ◌≡◌, true, subst}
use Rattle.icode.specs.Program.{plain_program}
use Rattle.word_code.specs.Laziness.{allows, size_for}
use Rattle.fast_main.specs.Options.Views.{plain_options}
use Rattle.fast_main.specs.Translation.{AreSoundWords}
use Rattle.fast_main.proofs.Ends.{ends_as}
use Rattle.code_check.proofs.Phases.{limits_of}
use Rattle.code_check.proofs.Whole.{passed_fits}
use Rattle.fast_main.proofs.run.answer_to.Goals as goal

pub answer_of-requires-clause-fits : goal.answer_of-requires-clause-fits
answer_of-requires-clause-fits c =
    let program = c.in_ok-program.program in
    passed_fits (plain_program program) (limits_of program) c.in_ok-verify.ensures.verified

pub returns-clause-text : goal.returns-clause-text
returns-clause-text c =
    let p = plain_program c.in_ok-program.program in
    let lanes = c.args.options.lanes in
    let size : c.size_for-size.result ≡ size_for c.args.options.size p = c.size_for-size.ensures in
    let allowed : allows c.size_for-size.result p.modulus ≡ true = search rules in
    ends_as (plain_options c.args.options) c.args.listing.now c.in_ok-answer.answer.text.items
    c.in_ok-answer.answer.ending p c.in_ok-program.ensures.answer c.in_ok-verify.ensures.verified
    (subst (λ s. allows s p.modulus ≡ true) size allowed)
    (subst (λ s. AreSoundWords s lanes p) size c.in_ok-answer.ensures.sound) c.in_ok-answer.ensures.keeps
    c.in_ok-answer.ensures.text c.in_ok-answer.ensures.read_back c.in_ok-answer.ensures.ending
