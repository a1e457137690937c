use Rattle.std.proofs.lemmas.Result.{err_from_is_err_and}
use Rattle.clap.specs.Words.{found_of, rows_of}
use Rattle.spiral_words.proofs.Nothing.{apply_no_schedule}
use Rattle.spiral_words.proofs.reading.apply_of.Goals as goal

pub returns-in_err-schedule-clause-usage : goal.returns-in_err-schedule-clause-usage
returns-in_err-schedule-clause-usage c =
    let p = err_from_is_err_and c.from_residual-in_err-schedule.result c.from_residual-in_err-schedule.ensures.1 in
    λ e. apply_no_schedule (rows_of (found_of c.args.options.now)) (c.in_err-schedule.ensures.usage (let q = p.1 in let r = p.2 in cc))
