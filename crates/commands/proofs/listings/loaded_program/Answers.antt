use Rattle.std.proofs.Common.{sym, ◌∙◌}
use Rattle.std.proofs.lemmas.Result.{err_from_is_err_and}
use Rattle.icode.specs.Program.{plain_program}
use Rattle.code_check.proofs.Phases.{limits_of}
use Rattle.code_check.proofs.Whole.{passed_fits}
use Rattle.commands.proofs.ListingLemmas.ListedLemmas.{unturned, loads}
use Rattle.commands.proofs.listings.loaded_program.Goals as goal

pub returns-in_err-check_turns-clause-refused : goal.returns-in_err-check_turns-clause-refused
returns-in_err-check_turns-clause-refused c =
    let first = c.in_err-check_turns.ensures.first in
    let p = err_from_is_err_and c.from_residual-in_err-check_turns.result c.from_residual-in_err-check_turns.ensures.1 in
    rw (p.1, p.2, first.2) (λ _. unturned c.args.schedule.now c.args.text.now (plain_program c.in_ok-program.program) first.0
    c.in_ok-program.ensures.answer c.in_ok-verify.ensures.verified (sym c.stranger.ensures ∙ first.1))

pub returns-clause-program : goal.returns-clause-program
returns-clause-program c =
    loads c.args.schedule.now c.args.text.now (plain_program c.in_ok-program.program) c.in_ok-program.ensures.answer c.in_ok-verify.ensures.verified
    (sym c.stranger.ensures ∙ c.in_ok-check_turns.ensures.none)

pub returns-clause-fits : goal.returns-clause-fits
returns-clause-fits c = passed_fits (plain_program c.in_ok-program.program) (limits_of c.in_ok-program.program) c.in_ok-verify.ensures.verified
